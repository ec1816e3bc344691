-- `LabelB::is_valid` answers whether a label b is valid.
-- By its seconds and milliseconds, then by its label a. Assumes nothing.
use Rattle.std.proofs.Common.{◌≡◌, leb, ◌&&◌, sym, ◌∙◌, le-leb}
use borrow.Author.Tests.{lt-leb}
use Rattle.label.specs.Label.{second, millisecond}
use Rattle.label.proofs.Label.{valid_b_by_tests}
use Rattle.label.proofs.LabelB.is_valid.Goals as goal
use Rattle.label.proofs.LabelB.is_valid.Goals.{then-second-le59, else-second-le59}

pub returns-then-millisecond-le999 : goal.returns-then-millisecond-le999
returns-then-millisecond-le999 c =
    let l = c.args.self in
    let clock : c.if-second-le59.value ≡ (leb (second l) 59 && leb (millisecond l) 999) =
    elim c.if-second-le59.branch [
      | then-second-le59 w ↦ w.value-is ∙ rw (← c.second.ensures, le-leb _ _ w.if-second-le59.true, w.millisecond.ensures)
      | else-second-le59 w ↦ w.value-is ∙ rw (← c.second.ensures, lt-leb _ _ w.if-second-le59.false)
    ] in
    c.is_valid.ensures ∙ rw (sym clock ∙ c.if-millisecond-le999.true) at (valid_b_by_tests l)

pub returns-else-millisecond-le999 : goal.returns-else-millisecond-le999
returns-else-millisecond-le999 c =
    let l = c.args.self in
    let clock : c.if-second-le59.value ≡ (leb (second l) 59 && leb (millisecond l) 999) =
    elim c.if-second-le59.branch [
      | then-second-le59 w ↦ w.value-is ∙ rw (← c.second.ensures, le-leb _ _ w.if-second-le59.true, w.millisecond.ensures)
      | else-second-le59 w ↦ w.value-is ∙ rw (← c.second.ensures, lt-leb _ _ w.if-second-le59.false)
    ] in
    c.if-millisecond-le999.false ∙ rw (sym clock ∙ c.if-millisecond-le999.false) at (valid_b_by_tests l)
