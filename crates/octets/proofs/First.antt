-- The first that applies: what is given is that of a rule whose test holds, and no test before it does.
-- By the rules, one after the other. Assumes nothing.
use Rattle.std.proofs.Common.{◌≡◌, true, false, List, [], ◌∷◌}
use Rattle.octets.specs.Choice.{when◌then◌else◌}
use Rattle.octets.specs.First.{When, first_of◌else◌}
use Rattle.octets.proofs.Choice.{either}

-- `Gives other rules v`: of the rules the first whose test holds gives v; or no test holds, and v is the other
pub data Gives {ℓ} {A : Type ℓ} (other : A) : List (When A) → A → Type ℓ where
  none : Gives other [] other
  here : {rule : When A} {rules : List (When A)} → rule.test ≡ true → Gives other (rule ∷ rules) rule.gives
  later : {rule : When A} {rules : List (When A)} {v : A} → rule.test ≡ false → Gives other rules v → Gives other (rule ∷ rules) v

pub first_gives {ℓ} : {A : Type ℓ} (rules : List (When A)) (other : A) → Gives other rules (first_of rules else other)
first_gives [] other = none
first_gives (rule ∷ rules) other = either (Gives other (rule ∷ rules)) rule.test here (λ t. later t (first_gives rules other))
