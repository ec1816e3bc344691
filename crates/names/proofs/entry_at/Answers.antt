-- `names::entry_at` hands out the entry at a place, or what is wrong with it.
-- By its tests: a cut one first, then the tests of an entry that is all there. Assumes nothing.
use Rattle.std.proofs.Common.{◌≡◌, ℕ, ◌+◌, ◌-◌, ◌<◌, Bool, true, false, List, length, take, drop, Option, Some, None, ◌≤◌, not, inl, inr, sym, ap, ◌∙◌, arith}
use lib.ListN.{get_or}
use lib.Seq.{get_or-drop, get_or-take}
use borrow.Author.Tests.{lt-ltb, le-ltb, eq-eqb, ne_eqb}
use Rattle.octets.specs.Choice.{when◌then◌else◌}
use Rattle.names.specs.declared.Code.{Code}
use Rattle.names.specs.declared.Fault.{Fault}
use Rattle.names.specs.declared.Fault.TheVariants.{Name, Order}
use Rattle.names.specs.Codes.{code}
use Rattle.names.specs.LookUp.{place}
use Rattle.names.specs.Book.{code_of, in_order, fault_of}
use Rattle.names.specs.working.Pass.{entry_at, entry_checked, unless_at_fault}
use Rattle.names.proofs.Standing.{fault_cut, fault_fits, code_of_law, length_of_law}
use Rattle.names.proofs.entry_at.Goals as goal

-- the octets from a place on are octets of the book
octet : (s : List ℕ) (at k : ℕ) → k < length s - at → get_or (take (length s - at) (drop at s)) k 0 ≡ get_or s (at + k) 0
octet s at k h = get_or-take (length s - at) (drop at s) k 0 h ∙ get_or-drop at s k 0

code_there : (s : List ℕ) (at : ℕ) → at + 3 ≤ length s → let rest = take (length s - at) (drop at s) in code (get_or rest 0 0) (get_or rest 1 0) ≡ code_of (entry_at s at)
code_there s at h =
    let first : at + 0 ≡ at = omega arith in
    rw (octet s at 0 (omega arith), octet s at 1 (omega arith), first, code_of_law s at)

module _ (s : List ℕ) (at number : ℕ) (before : Code) where
  by_fault : {f : Option Fault} → fault_of number before (entry_at s at) ≡ f
      → unless_at_fault f (record { code = code_of (entry_at s at); place = place number (at + 3) (get_or s (at + 2) 0) })
      ≡ entry_checked number at before (entry_at s at)
  unfolding entry_checked
  by_fault e = rw (e, length_of_law s at)

  -- an entry that is all there, by the length of its name and its code
  module _ (fits : at + 3 + get_or s (at + 2) 0 ≤ length s) where
    no_name : get_or s (at + 2) 0 ≡ 0 → fault_of number before (entry_at s at) ≡ Some Name
    no_name e = fault_fits s at number before fits ∙ rw (eq-eqb (get_or s (at + 2) 0) 0 e)

    too_long : 40 < get_or s (at + 2) 0 → fault_of number before (entry_at s at) ≡ Some Name
    too_long h = fault_fits s at number before fits ∙ rw (ne_eqb (get_or s (at + 2) 0) 0 (λ e. omega arith), lt-ltb 40 (get_or s (at + 2) 0) h)

    by_order : (get_or s (at + 2) 0 ≡ 0 → ⊥) → get_or s (at + 2) 0 ≤ 40 → (ordered : Bool) → in_order number before (code_of (entry_at s at)) ≡ ordered
        → fault_of number before (entry_at s at) ≡ (when not ordered then Some Order else None)
    by_order some most ordered o =
        fault_fits s at number before fits ∙ rw (ne_eqb (get_or s (at + 2) 0) 0 some, le-ltb 40 (get_or s (at + 2) 0) most, o)

pub returns-in_default : goal.returns-in_default
returns-in_default c = by_fault _ _ _ _ (fault_cut _ _ _ _ (omega arith) (omega arith))

pub returns-then-rest-many : goal.returns-then-rest-many
returns-then-rest-many c =
    let m = octet c.args.book.now c.args.at 2 (omega arith) in
    by_fault _ _ _ _ (fault_cut _ _ _ _ (omega arith) (omega (arith, m, c.if-rest-many.true)))

pub returns-then-many-gt-LONGEST : goal.returns-then-many-gt-LONGEST
returns-then-many-gt-LONGEST c =
    let m = octet c.args.book.now c.args.at 2 (omega arith) in
    elim c.if-many-gt-LONGEST.either [
      | inl none ↦ by_fault _ _ _ _ (no_name _ _ _ _ (omega (arith, m)) (omega (arith, m)))
      | inr long ↦ by_fault _ _ _ _ (too_long _ _ _ _ (omega (arith, m)) (omega (arith, m, long.1)))
    ]

pub returns-then-is_in_order : goal.returns-then-is_in_order
returns-then-is_in_order c =
    let m = octet c.args.book.now c.args.at 2 (omega arith) in
    let own = code_there c.args.book.now c.args.at (omega arith) in
    let ordered = sym (ap (in_order c.args.number c.args.before) own) ∙ sym c.is_in_order.ensures ∙ c.if-is_in_order.true in
    rw (m, own) (by_fault _ _ _ _ (by_order _ _ _ _ (omega (arith, m)) (λ e. c.if-many-gt-LONGEST.false.0 (m ∙ e)) (omega (arith, m, c.if-many-gt-LONGEST.false.1)) true ordered))

pub returns-else-is_in_order : goal.returns-else-is_in_order
returns-else-is_in_order c =
    let m = octet c.args.book.now c.args.at 2 (omega arith) in
    let own = code_there c.args.book.now c.args.at (omega arith) in
    let ordered = sym (ap (in_order c.args.number c.args.before) own) ∙ sym c.is_in_order.ensures ∙ c.if-is_in_order.false in
    by_fault _ _ _ _ (by_order _ _ _ _ (omega (arith, m)) (λ e. c.if-many-gt-LONGEST.false.0 (m ∙ e)) (omega (arith, m, c.if-many-gt-LONGEST.false.1)) false ordered)
