-- `lent` lends a gap the first octets of the buffer.
-- The rest of the buffer is as it was. Assumes nothing.
use Rattle.std.proofs.Common.{sym, ◌∙◌, length-take, rules, arith}
use Rattle.driving.proofs.Stepping.{gap_lent}
use Rattle.driving.proofs.lent.Goals as goal

pub returns : goal.returns
returns c =
    let a = c.args in
    gap_lent _ _ _ a.buffer.now a.room c.min-most.result (omega (arith, c.min-most.ensures)) (length-take a.room a.buffer.now ∙ sym c.min-most.ensures) (search rules) c.gap.ensures
