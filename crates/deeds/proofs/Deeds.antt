-- The time octets of an order are those behind the header of its message; which message does what; and what a refusal leaves.
-- By the labels written again, row by row, and by what a rule does. Assumes nothing.
use Rattle.std.specs.Prelude.{Option, Some, None}
use Prim.Native.Nat.{ℕ, ◌+◌, ◌≤◌}
use mathlib.Core.Bool.{Bool, true, not, ◌||◌}
use mathlib.Core.List.{List, ◌++◌}
use mathlib.Core.Path.{◌≡◌, refl, sym, ap, ◌∙◌}
use native.Mathlib.Omega.{arith}
use denote.Enum.Declared.{tag_of}
use borrow.Author.Tests.{eq-eqb, eqb-true, leb-true}
use lib.Dec.{eqb, leb}
use lib.ListN.{length, take, drop, replicate, length-drop}
use lib.Seq.{take_all}
use Rattle.octets.specs.Choice.{when◌then◌else◌}
use Rattle.octets.proofs.Outcome.{determined}
use Rattle.message.specs.declared.Deed.{Deed}
use Rattle.message.specs.declared.Deed.TheVariants.{Refused, ShutOut, Opens, Closes, SetsClock, SetsDates}
use Rattle.message.specs.declared.Request.{Request}
use Rattle.message.specs.declared.Row.{Row}
use Rattle.message.specs.Requests.{asks_readings, request_of}
use Rattle.message.specs.Table.{table, row_in}
use Rattle.message.specs.contracts.Deed.{the_type}
use Rattle.message.proofs.Table.{every, by_row}
use Rattle.message.proofs.Requests.{time_behind, labels_behind}
use Rattle.rules.specs.declared.Rule.{Rule}
use Rattle.rules.specs.declared.Rule.TheVariants.{WrongPassword, Accepted}
use Rattle.rules.specs.declared.Session.{Session}
use Rattle.rules.specs.Rules.{cause_by, deed_by}
use Rattle.rules.specs.Decide.{decide}
use Rattle.rules.proofs.Rules.{Ruled, accepts, shuts_out, wrong_time, refuses, ruled}
use Rattle.rules.proofs.Decided.{accepted_octets}
use Rattle.deeds.specs.declared.Order.{Order}
use Rattle.deeds.specs.declared.Order.TheVariants.{NoOrder, SetClock, SetDates}
use Rattle.deeds.specs.Deeds.{deed_of, mirror_by, done_by}
use Rattle.deeds.specs.Calls.{time_octets}

-- the order with so many time octets
by_octets : ℕ → Order
by_octets many = when eqb many 0 then NoOrder else when eqb many 7 then SetClock else SetDates

octets_back : (order : Order) → by_octets (time_octets order) ≡ order
unfolding by_octets
octets_back NoOrder = refl
octets_back SetClock = refl
octets_back SetDates = refl

pub order_one : {order other : Order} → time_octets order ≡ time_octets other → order ≡ other
order_one = determined time_octets by_octets octets_back

-- the time octets of an accepted message: all that stands behind the header of a 181 and of a 186
module _ (session : Session) (image clock m : List ℕ) (first : decide session image clock (request_of m) ≡ Accepted) where
  -- as many octets as its row says
  octets_listed : (w : Row) → row_in table (request_of m).header.type_id ≡ Some w → length m ≡ w.octets
  unfolding request_of
  octets_listed w found = accepted_octets session image clock (request_of m) first w found

  all_behind : (many : ℕ) → length m ≡ 6 + many → take many (drop 6 m) ≡ drop 6 m
  all_behind many e = take_all many (drop 6 m) (omega (arith, length-drop 6 m, e))

  pub clock_time : (request_of m).header.type_id ≡ 181 → (done_by Accepted session clock (request_of m) SetsClock).time ≡ drop 6 m ++ replicate 3 0
  unfolding table row_in
  clock_time type =
      let size : length m ≡ 13 = octets_listed _ (ap (row_in table) type) in
      ap (◌++ replicate 3 0) (time_behind m (omega (arith, size)) ∙ all_behind 7 size)

  pub dates_time : (request_of m).header.type_id ≡ 186 → (done_by Accepted session clock (request_of m) SetsDates).time ≡ drop 6 m
  unfolding table row_in request_of asks_readings
  dates_time type =
      let size : length m ≡ 16 = octets_listed _ (ap (row_in table) type) in
      labels_behind m (rw type) (omega (arith, size)) ∙ all_behind 10 size

-- a deed's place in the order in which the deeds are declared: behind the first two stand those that no refusal does
abbrev pub which : Deed → ℕ
which deed = tag_of the_type deed

-- no refusal does a deed behind the first two
not_so : {deed refusal : Deed} → 2 ≤ which deed → which refusal ≤ 1 → refusal ≡ deed → ⊥
not_so late early e = omega (arith, late, early, ap which e)

pub deed_accepted : (rule : Rule) (its deed : Deed) → 2 ≤ which deed → deed_by rule its ≡ deed → (rule ≡ Accepted) × (its ≡ deed)
deed_accepted rule its deed late = of_ruled (ruled rule its)
  where
    of_ruled : {rule : Rule} {said : ℕ × Bool × Deed} → Ruled its rule said → said.2 ≡ deed → (rule ≡ Accepted) × (its ≡ deed)
    of_ruled accepts e = (refl, e)
    of_ruled shuts_out e = absurd (not_so late (omega arith) e)
    of_ruled wrong_time e = absurd (not_so late (omega arith) e)
    of_ruled (refuses small) e = absurd (not_so late (omega arith) e)

-- what a row says, and what a message does by a rule
abbrev said_by : Option Row → Deed
said_by (Some w) = w.deed
said_by None = Refused

deed_said : (rule : Rule) (found : Option Row) → deed_of rule found ≡ deed_by rule (said_by found)
deed_said rule (Some w) = refl
deed_said rule None = refl

-- such a deed is done by an accepted message of the type whose row says it
pub deed_listed : (deed : Deed) (only : ℕ) → every (λ w. not (eqb (which w.deed) (which deed)) || eqb w.type_id only) table ≡ true → 2 ≤ which deed
    → (rule : Rule) (type : ℕ) → deed_of rule (row_in table type) ≡ deed → (rule ≡ Accepted) × (type ≡ only)
deed_listed deed only each late rule type =
    by_row (λ found. deed_of rule found ≡ deed → (rule ≡ Accepted) × (type ≡ only)) (λ w. not (eqb (which w.deed) (which deed)) || eqb w.type_id only) table
    type each
    (λ w is passes e.
    let so = deed_accepted rule w.deed deed late e in
    (so.0, sym is ∙ eqb-true _ _ (rw (so.1, eq-eqb (which deed) (which deed) refl) at passes)))
    (λ e. absurd (not_so late (omega arith) (deed_accepted rule Refused deed late e).1))

-- 183, 187, 181 and 186
module _ (rule : Rule) (type : ℕ) where
  pub opens_183 : deed_of rule (row_in table type) ≡ Opens → (rule ≡ Accepted) × (type ≡ 183)
  unfolding table
  opens_183 = deed_listed Opens 183 refl (omega arith) rule type

  pub closes_187 : deed_of rule (row_in table type) ≡ Closes → (rule ≡ Accepted) × (type ≡ 187)
  unfolding table
  closes_187 = deed_listed Closes 187 refl (omega arith) rule type

  pub clock_181 : deed_of rule (row_in table type) ≡ SetsClock → (rule ≡ Accepted) × (type ≡ 181)
  unfolding table
  clock_181 = deed_listed SetsClock 181 refl (omega arith) rule type

  pub dates_186 : deed_of rule (row_in table type) ≡ SetsDates → (rule ≡ Accepted) × (type ≡ 186)
  unfolding table
  dates_186 = deed_listed SetsDates 186 refl (omega arith) rule type

  -- no row shuts out: a wrong password does
  pub shut_out : deed_of rule (row_in table type) ≡ ShutOut → rule ≡ WrongPassword
  unfolding table
  shut_out =
      by_row (λ found. deed_of rule found ≡ ShutOut → rule ≡ WrongPassword) (λ w. leb 2 (which w.deed)) table type refl
      (λ w is late. of_ruled w.deed (λ e. omega (arith, leb-true 2 (which w.deed) late, ap which e)) (ruled rule w.deed))
      (of_ruled Refused (λ e. omega (arith, ap which e)) (ruled rule Refused))
    where
      of_ruled : (its : Deed) → (its ≡ ShutOut → ⊥) → {rule : Rule} {said : ℕ × Bool × Deed} → Ruled its rule said → said.2 ≡ ShutOut → rule ≡ WrongPassword
      of_ruled its other accepts e = absurd (other e)
      of_ruled its other shuts_out e = refl
      of_ruled its other wrong_time e = absurd (omega (arith, ap which e))
      of_ruled its other (refuses small) e = absurd (omega (arith, ap which e))

-- a refusal waits as the mirror of its rule
pub refused_mirror : (rule : Rule) (session : Session) (clock : List ℕ) (r : Request) (found : Option Row) → (rule ≡ Accepted → ⊥)
    → (done_by rule session clock r (deed_of rule found)).waiting ≡ mirror_by rule
refused_mirror rule session clock r found other = rw (deed_said rule found) (of_ruled (ruled rule (said_by found)) other)
  where
    of_ruled : {its : Deed} {rule : Rule} {said : ℕ × Bool × Deed} → Ruled its rule said → (rule ≡ Accepted → ⊥)
        → (done_by rule session clock r said.2).waiting ≡ mirror_by rule
    of_ruled accepts other = absurd (other refl)
    of_ruled shuts_out other = refl
    of_ruled wrong_time other = refl
    of_ruled (refuses small) other = refl

-- refused by another cause than 7 it leaves the session
pub refused_session : (rule : Rule) (session : Session) (clock : List ℕ) (r : Request) (found : Option Row) → (cause_by rule ≡ 7 → ⊥)
    → (done_by rule session clock r (deed_of rule found)).session ≡ session
refused_session rule session clock r found other = rw (deed_said rule found) (of_ruled (ruled rule (said_by found)) other)
  where
    of_ruled : {its : Deed} {rule : Rule} {said : ℕ × Bool × Deed} → Ruled its rule said → (cause_by rule ≡ 7 → ⊥)
        → (done_by rule session clock r said.2).session ≡ session
    of_ruled accepts other = absurd (other refl)
    of_ruled shuts_out other = absurd (other refl)
    of_ruled wrong_time other = refl
    of_ruled (refuses small) other = refl
