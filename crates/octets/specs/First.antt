-- The first that applies: rules in the paper's order, each a test and what it gives.
-- Assumes nothing.
use Rattle.std.specs.Prelude.{Bool, List, [], ◌∷◌}
use Rattle.octets.specs.Choice.{when◌then◌else◌}

pub record When {ℓ} (A : Type ℓ) : Type ℓ where
  pub test : Bool
  pub gives : A

-- one line a rule; it binds as loosely as a choice
infixr 1 ◌⇒◌▸◌
abbrev pub ◌⇒◌▸◌ {ℓ} : {A : Type ℓ} → Bool → A → List (When A) → List (When A)
◌⇒◌▸◌ test gives rules = record { test = test; gives = gives } ∷ rules

-- what the first rule gives whose test holds; and if none does, the other
infixr 1 first_of◌else◌
abbrev pub first_of◌else◌ {ℓ} : {A : Type ℓ} → List (When A) → A → A
first_of [] else other = other
first_of (rule ∷ rules) else other = when rule.test then rule.gives else first_of rules else other
