-- The four ways in which the question is answered; number and values tell which.
-- By the two refusals in their order, which leave a rule. Assumes nothing.
use Prim.Native.Nat.{ℕ, ◌<◌, ◌≤◌}
use mathlib.Core.Bool.{Bool, true, false, not, ◌||◌, or-true}
use mathlib.Core.List.{List}
use mathlib.Core.Path.{◌≡◌, refl, ap}
use native.Mathlib.Omega.{arith}
use lib.Dec.{ltb, eqb}
use lib.ListN.{length, get_or}
use borrow.Author.Tests.{lt-ltb, le-ltb, ltb-false}
use Rattle.octets.specs.Answer.{Answer}
use Rattle.octets.specs.Choice.{when◌then◌else◌}
use Rattle.octets.proofs.Outcome.{determined}
use Rattle.message.specs.Requests.{request_of}
use Rattle.image.specs.Image.{sound_image}
use Rattle.rules.specs.declared.Session.{Session}
use Rattle.rules.specs.declared.Rule.{Rule}
use Rattle.rules.specs.Decide.{decide}
use Rattle.std.specs.Prelude.{Ok, Err}
use Rattle.why.specs.declared.Unasked.TheVariants.{ImageUnsound, MessageLength}
use Rattle.why.specs.Asking.{Why, why_of, why_says}
use Rattle.why.proofs.Naming.{rule_at, stands}

module _ (session : Session) (image clock m : List ℕ) where
  pub unsound : sound_image image ≡ false → Err ImageUnsound ≡ why_of session image clock m
  unfolding why_of
  unsound e = rw e

  pub too_short : sound_image image ≡ true → length m < 6 → Err MessageLength ≡ why_of session image clock m
  unfolding why_of
  too_short e h = rw (e, lt-ltb (length m) 6 h)

  pub too_long : sound_image image ≡ true → 252 < length m → Err MessageLength ≡ why_of session image clock m
  unfolding why_of
  too_long e h = rw (e, lt-ltb 252 (length m) h, or-true (ltb (length m) 6))

  pub named_so : sound_image image ≡ true → 6 ≤ length m → length m ≤ 252 → Ok (decide session image clock (request_of m)) ≡ why_of session image clock m
  unfolding why_of
  named_so e least most = rw (e, le-ltb (length m) 6 least, le-ltb 252 (length m) most)

  -- a rule is named of a sound image and a message of 6 to 252 octets only, and is the one that the card finds
  pub record NamedBy (rule : Rule) : Type 0 where
    pub sound : sound_image image ≡ true
    pub at_least_6 : 6 ≤ length m
    pub at_most_252 : length m ≤ 252
    pub decided : decide session image clock (request_of m) ≡ rule

  pub named_only : (rule : Rule) → why_of session image clock m ≡ Ok rule → NamedBy rule
  unfolding why_of
  named_only rule = by_tests (sound_image image) (ltb (length m) 6) (ltb 252 (length m)) refl refl refl
    where
      rule_in : Why → Rule
      rule_in (Err unasked) = rule
      rule_in (Ok found) = found

      by_tests : (s l k : Bool) → sound_image image ≡ s → ltb (length m) 6 ≡ l → ltb 252 (length m) ≡ k
          → ◌≡◌ {A = Why} (when not s then Err ImageUnsound else when l || k then Err MessageLength else Ok (decide session image clock (request_of m))) (Ok rule) → NamedBy rule
      by_tests false l k e f g named = absurd (omega (arith, ap (λ w. (why_says w).number) named))
      by_tests true true k e f g named = absurd (omega (arith, ap (λ w. (why_says w).number) named))
      by_tests true false true e f g named = absurd (omega (arith, ap (λ w. (why_says w).number) named))
      by_tests true false false e f g named =
          record { sound = e; at_least_6 = ltb-false (length m) 6 f; at_most_252 = ltb-false 252 (length m) g; decided = ap rule_in named }

-- the answer of a number and values
abbrev why_back : Answer → Why
why_back a = when eqb a.number 1 then Err ImageUnsound else when eqb a.number 2 then Err MessageLength else Ok (rule_at (get_or a.values 0 0))

-- number and values determine it
pub answers_differ : {a b : Why} → why_says a ≡ why_says b → a ≡ b
answers_differ = determined why_says why_back known
  where
    known : (a : Why) → why_back (why_says a) ≡ a
    known (Err ImageUnsound) = refl
    known (Err MessageLength) = refl
    known (Ok rule) = ap Ok (stands rule)
