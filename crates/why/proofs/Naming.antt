-- The rules stand in document 01's order, each at its own place and with its own word.
-- Each rule is where its place says in a list of all; so what is computed over that list holds of every rule. Assumes nothing.
use Prim.Native.Nat.{ℕ, zero, suc, ◌-◌, ◌≤◌}
use mathlib.Core.Bool.{true, ◌&&◌}
use mathlib.Core.List.{List, [], ◌∷◌, map}
use mathlib.Core.Path.{◌≡◌, refl, sym, ap, ◌∙◌}
use lib.Dec.{eqb, leb}
use lib.ListN.{get_or, drop}
use borrow.Author.Tests.{leb-true}
use Rattle.octets.specs.Choice.{when◌then◌else◌}
use Rattle.octets.specs.Numbers.{low_first}
use Rattle.octets.proofs.Conditions.{and_left, and_right}
use Rattle.octets.proofs.Outcome.{determined}
use Rattle.rules.specs.declared.Rule.{Rule}
use Rattle.rules.specs.declared.Rule.TheVariants.{Marked, UnknownType, NoSession, UnknownPoint, OtherSession, Shape, Address, Objects, ReadingLabel, ReadingRange, NoReading, EventLabel, EventRange, NoEvent, ClockUnset, NoDates, TimeLabel, WrongPassword, Accepted}
use Rattle.rules.proofs.Rules.{place}
use Rattle.why.specs.Naming.{place_of, word_of}

abbrev pub every_rule : List Rule
every_rule = Marked ∷ UnknownType ∷ NoSession ∷ UnknownPoint ∷ OtherSession ∷ Shape ∷ Address ∷ Objects ∷ ReadingLabel ∷ ReadingRange ∷ NoReading ∷ EventLabel ∷ EventRange ∷ NoEvent ∷ ClockUnset ∷ NoDates ∷ TimeLabel ∷ WrongPassword ∷ Accepted ∷ []

-- the rule at a place
abbrev pub rule_at : ℕ → Rule
rule_at n = get_or every_rule (n - 1) Accepted

pub stands : (rule : Rule) → rule_at (place_of rule) ≡ rule
stands Marked = refl
stands UnknownType = refl
stands NoSession = refl
stands UnknownPoint = refl
stands OtherSession = refl
stands Shape = refl
stands Address = refl
stands Objects = refl
stands ReadingLabel = refl
stands ReadingRange = refl
stands NoReading = refl
stands EventLabel = refl
stands EventRange = refl
stands NoEvent = refl
stands ClockUnset = refl
stands NoDates = refl
stands TimeLabel = refl
stands WrongPassword = refl
stands Accepted = refl

-- two functions with the same values over a list have the same value at each of its elements
module _ {A B : Type 0} (f g : A → B) where
  same_at : (xs : List A) (i : ℕ) (other : A) → map f xs ≡ map g xs → f other ≡ g other → f (get_or xs i other) ≡ g (get_or xs i other)
  same_at [] i other e o = o
  same_at (x ∷ xs) zero other e o = ap (λ (ys : List B). get_or ys 0 (f x)) e
  same_at (x ∷ xs) (suc i) other e o = same_at xs i other (ap (drop 1) e) o

pub for_each : {B : Type 0} (f g : Rule → B) → map f every_rule ≡ map g every_rule → f Accepted ≡ g Accepted → (rule : Rule) → f rule ≡ g rule
for_each f g e last rule =
    ap f (sym (stands rule)) ∙ same_at f g every_rule (place_of rule - 1) Accepted e last ∙ ap g (stands rule)

-- places are 1 to 19, one behind those in which the rules are declared
pub in_places : (rule : Rule) → (1 ≤ place_of rule) × (place_of rule ≤ 19)
in_places rule =
    let so = for_each (λ r. leb 1 (place_of r) && leb (place_of r) 19) (λ r. true) refl refl rule in
    (leb-true 1 (place_of rule) (and_left (leb 1 (place_of rule)) _ so), leb-true (place_of rule) 19 (and_right (leb 1 (place_of rule)) _ so))

pub declared_place : (rule : Rule) → place_of rule ≡ suc (place rule)
declared_place = for_each place_of (λ r. suc (place r)) refl refl

-- no two rules share a place
pub places_differ : {a b : Rule} → place_of a ≡ place_of b → a ≡ b
places_differ = determined place_of rule_at stands

-- a text of each rule, read as a number, and the first rule that has it
module _ (text : Rule → List ℕ) where
  abbrev rule_with : ℕ → List Rule → Rule
  rule_with code [] = Accepted
  rule_with code (r ∷ rs) = when eqb (low_first (text r)) code then r else rule_with code rs

  abbrev itself : Rule → Rule
  itself rule = rule_with (low_first (text rule)) every_rule

  -- where that is the rule itself, computed, no two rules share the text
  pub texts_differ : map itself every_rule ≡ every_rule → itself Accepted ≡ Accepted → {a b : Rule} → text a ≡ text b → a ≡ b
  texts_differ all last =
      determined text (λ (octets : List ℕ). rule_with (low_first octets) every_rule) (for_each itself (λ r. r) all last)

-- no two rules share a word
pub words_differ : {a b : Rule} → word_of a ≡ word_of b → a ≡ b
unfolding low_first
words_differ = texts_differ word_of refl refl
