-- The cases of #105 are answered as they are written, and just the rules that they list hold; the neighbours of no case never hold together.
-- Computed: the tests of the card's definition over all rules and cases; and each test tells whether its rule holds. Assumes nothing.
use mathlib.Core.Bool.{Bool, true}
use mathlib.Core.List.{List, [], ◌∷◌, ◌++◌, map}
use mathlib.Core.Path.{◌≡◌, refl, ap}
use native.Mathlib.Omega.{arith}
use lib.ListN.{get_or, drop}
use Rattle.history.specs.History.{Each}
use Rattle.message.specs.Requests.{request_of}
use Rattle.image.specs.Image.{sound_image}
use Rattle.rules.specs.declared.Rule.{Rule}
use Rattle.rules.specs.declared.Rule.TheVariants.{Accepted}
use Rattle.rules.proofs.Decided.{applies, all_rules}
use Rattle.data.specs.Messages.{identity_reply}
use Rattle.why.specs.Asking.{why_of}
use Rattle.why.proofs.Naming.{every_rule, for_each}
use Rattle.why.proofs.Telling.{by_same, either_of}
use Rattle.why.proofs.Stated.{rule_told}
use Rattle.tender.specs.WhyCases.{Case, alone, neighbours, CasesAnswered, EdgesAnswered, CausesCollected, is_in, HoldsAsListed, HoldingSo, OfDifferentTypes}
use Rattle.tender.proofs.Worked.{everything}

pub cases_answered : CasesAnswered
unfolding everything why_of
cases_answered = refl

pub edges_answered : EdgesAnswered
unfolding everything why_of
edges_answered = refl

pub causes_collected : CausesCollected
unfolding everything identity_reply
causes_collected = refl

-- what is the same over a list is so of each element
each_same : {A B : Type 0} (f g : A → B) (xs : List A) → map f xs ≡ map g xs → Each (λ x. f x ≡ g x) xs
each_same f g [] e = tt
each_same f g (x ∷ xs) e = (ap (λ ys. get_or ys 0 (f x)) e, each_same f g xs (ap (drop 1) e))

each_both : {A : Type 0} {P Q R : A → Type 0} → ((x : A) → P x → Q x → R x) → (xs : List A) → Each P xs → Each Q xs → Each R xs
each_both f [] p q = tt
each_both f (x ∷ xs) p q = (f x p.0 q.0, each_both f xs p.1 q.1)

-- the tests over all rules
abbrev tested : Case → List Bool
tested c = map (λ rule. applies rule (all_rules c.session c.image c.clock (request_of c.message))) every_rule

abbrev listed_in : Case → List Bool
listed_in c = map (λ rule. is_in rule c.holding) every_rule

all_tested : map tested (alone ++ neighbours) ≡ map listed_in (alone ++ neighbours)
unfolding everything
all_tested = refl

all_sound : map (λ (c : Case). sound_image c.image) (alone ++ neighbours) ≡ map (λ c. true) (alone ++ neighbours)
unfolding everything
all_sound = refl

-- so of one case
one_case : (c : Case) → sound_image c.image ≡ true → tested c ≡ listed_in c → HoldsAsListed c
one_case c sound same rule =
    let tests : Rule → Bool = λ r. applies r (all_rules c.session c.image c.clock (request_of c.message)) in
    let told = by_same (for_each tests (λ r. is_in r c.holding) same (ap (λ ys. get_or ys 18 (tests Accepted)) same) rule)
    (rule_told c.session c.image c.clock c.message sound rule) in
    (told.yes, told.only)

pub holding_so : HoldingSo
holding_so =
    each_both one_case (alone ++ neighbours) (each_same (λ (c : Case). sound_image c.image) (λ c. true) (alone ++ neighbours) all_sound)
    (each_same tested listed_in (alone ++ neighbours) all_tested)

-- one type is not another
pub of_different_types : OfDifferentTypes
of_different_types session image clock m =
    record {
      readings_events = λ r e. either_of (λ a. omega (arith, a, e.0)) (λ a. omega (arith, a, e.0)) r.0;
      events_clock = λ e c. omega (arith, e.0, c.0);
      clock_dates = λ c d. either_of (λ a. omega (arith, a, c.0)) (λ a. omega (arith, a, c.0)) d.0;
      time_password = λ t p. either_of (λ a. omega (arith, a.0, p.0)) (λ a. omega (arith, a.0, p.0)) t;
    }
