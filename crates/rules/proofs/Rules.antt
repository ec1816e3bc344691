-- What a rule rules, in four cases: the cause of its mirror, its P/N, and what a message does by it; so P/N 1 comes with cause 7 only.
-- The rules one by one, once for all that is said of them. Assumes nothing.
use Prim.Native.Nat.{ℕ, ◌%◌}
use mathlib.Core.Bool.{Bool, true, false, false≢true}
use mathlib.Core.Path.{◌≡◌, refl, sym, ◌∙◌}
use native.Mathlib.Omega.{arith}
use denote.Enum.Declared.{tag_of}
use borrow.Author.Tests.{ltb-true, eqb-true, eq-eqb}
use lib.Dec.{eqb, ltb}
use Rattle.rules.specs.contracts.Rule.{the_type}
use Rattle.rules.specs.declared.Rule.{Rule}
use Rattle.rules.specs.declared.Rule.TheVariants.{Marked, UnknownType, NoSession, UnknownPoint, OtherSession, Shape, Address, Objects, ReadingLabel, ReadingRange, NoReading, EventLabel, EventRange, NoEvent, ClockUnset, NoDates, TimeLabel, WrongPassword, Accepted}
use Rattle.message.specs.declared.Deed.{Deed}
use Rattle.message.specs.declared.Deed.TheVariants.{Refused, ShutOut}
use Rattle.rules.specs.Rules.{ruling, cause_by, pn_by}

-- a rule's place in document 01's order, that in which the rules are declared
abbrev pub place : Rule → ℕ
place rule = tag_of the_type rule

-- accepted, a message does what its row says; by a wrong password it is shut out; by any other rule it is refused, by a wrong time with P/N 1; a cause
-- has six bits, and 17 is that of the objects' rule, which stands at place 7
pub data Ruled (its : Deed) : Rule → ℕ × Bool × Deed → Type 0 where
  accepts : Ruled its Accepted (7, false, its)
  shuts_out : Ruled its WrongPassword (7, true, ShutOut)
  wrong_time : Ruled its TimeLabel (7, true, Refused)
  refuses : {rule : Rule} {cause : ℕ} → (ltb cause 64 ≡ true) × (eqb cause 17 ≡ eqb (place rule) 7) → Ruled its rule (cause, false, Refused)

pub ruled : (rule : Rule) (its : Deed) → Ruled its rule (ruling rule its)
ruled Marked its = refuses (refl, refl)
ruled UnknownType its = refuses (refl, refl)
ruled NoSession its = refuses (refl, refl)
ruled UnknownPoint its = refuses (refl, refl)
ruled OtherSession its = refuses (refl, refl)
ruled Shape its = refuses (refl, refl)
ruled Address its = refuses (refl, refl)
ruled Objects its = refuses (refl, refl)
ruled ReadingLabel its = refuses (refl, refl)
ruled ReadingRange its = refuses (refl, refl)
ruled NoReading its = refuses (refl, refl)
ruled EventLabel its = refuses (refl, refl)
ruled EventRange its = refuses (refl, refl)
ruled NoEvent its = refuses (refl, refl)
ruled ClockUnset its = refuses (refl, refl)
ruled NoDates its = refuses (refl, refl)
ruled TimeLabel its = wrong_time
ruled WrongPassword its = shuts_out
ruled Accepted its = accepts

pub only_seven : (rule : Rule) → pn_by rule ≡ true → cause_by rule ≡ 7
only_seven rule = of_ruled (ruled rule Refused)
  where
    of_ruled : {rule : Rule} {said : ℕ × Bool × Deed} → Ruled Refused rule said → said.1 ≡ true → said.0 ≡ 7
    of_ruled accepts e = refl
    of_ruled shuts_out e = refl
    of_ruled wrong_time e = refl
    of_ruled (refuses so) e = absurd (false≢true e)

-- a mirror's cause has six bits
pub cause_small : (rule : Rule) → cause_by rule % 64 ≡ cause_by rule
cause_small rule = of_ruled (ruled rule Refused)
  where
    of_ruled : {rule : Rule} {said : ℕ × Bool × Deed} → Ruled Refused rule said → said.0 % 64 ≡ said.0
    of_ruled accepts = refl
    of_ruled shuts_out = refl
    of_ruled wrong_time = refl
    of_ruled (refuses (small, objects)) = omega (arith, ltb-true)

-- 17 is given by the objects' rule alone
pub only_objects : (rule : Rule) → cause_by rule ≡ 17 → place rule ≡ 7
only_objects rule = of_ruled (ruled rule Refused)
  where
    of_ruled : {rule : Rule} {said : ℕ × Bool × Deed} → Ruled Refused rule said → said.0 ≡ 17 → place rule ≡ 7
    of_ruled accepts e = absurd (omega (arith, e))
    of_ruled shuts_out e = absurd (omega (arith, e))
    of_ruled wrong_time e = absurd (omega (arith, e))
    of_ruled {rule} (refuses (small, objects)) e = eqb-true (place rule) 7 (sym objects ∙ eq-eqb _ 17 e)
