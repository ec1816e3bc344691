-- `LabelA::is_valid` answers whether a label a is valid.
-- An octet that is too large or too small refutes it; where none is, the day decides. Assumes nothing.
use Rattle.std.proofs.Common.{◌≡◌, ◌%◌, leb, ◌&&◌, sym, ◌∙◌, arith, le-leb, rules}
use borrow.Author.Tests.{lt-leb}
use Rattle.octets.proofs.Choice.{refuted}
use Rattle.label.proofs.Label.{octets_a, valid_by_tests}
use Rattle.label.proofs.LabelA.is_valid.Goals as goal
use Rattle.label.proofs.LabelA.is_valid.Goals.{then-self-le59, else-self-le59}

pub returns-in_default : goal.returns-in_default
returns-in_default c =
    refuted _ (λ e. let o = octets_a c.args.self (search rules) (search rules) (search rules) (search rules) e in c.in_default.ensures (omega arith, o.month_first, o.month_last))

pub returns-then-self-le23 : goal.returns-then-self-le23
returns-then-self-le23 c =
    let l = c.args.self in
    let clock : c.if-self-le59.value ≡ (leb l.minute 59 && leb (l.hour % 128) 23) =
    elim c.if-self-le59.branch [
      | then-self-le59 w ↦ w.value-is ∙ rw (le-leb _ _ w.if-self-le59.true)
      | else-self-le59 w ↦ w.value-is ∙ rw (lt-leb _ _ w.if-self-le59.false)
    ] in
    let e = c.in-Some.ensures in
    let t = valid_by_tests l (search rules) (search rules) (search rules) (search rules) (omega (arith, e.0)) (omega (arith, e.1)) (omega (arith, e.1)) in
    c.has_day.ensures ∙ rw (e.0, e.1) (rw (sym clock ∙ c.if-self-le23.true) at t)

pub returns-else-self-le23 : goal.returns-else-self-le23
returns-else-self-le23 c =
    let l = c.args.self in
    let clock : c.if-self-le59.value ≡ (leb l.minute 59 && leb (l.hour % 128) 23) =
    elim c.if-self-le59.branch [
      | then-self-le59 w ↦ w.value-is ∙ rw (le-leb _ _ w.if-self-le59.true)
      | else-self-le59 w ↦ w.value-is ∙ rw (lt-leb _ _ w.if-self-le59.false)
    ] in
    let e = c.in-Some.ensures in
    let t = valid_by_tests l (search rules) (search rules) (search rules) (search rules) (omega (arith, e.0)) (omega (arith, e.1)) (omega (arith, e.1)) in
    c.if-self-le23.false ∙ rw (sym clock ∙ c.if-self-le23.false) at t
