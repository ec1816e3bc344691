-- `LabelB::is_before` answers whether a label b lies before another.
-- By the pairs of instant and milliseconds. Assumes nothing.
use Rattle.std.proofs.Common.{◌∙◌}
use Rattle.label.proofs.Label.{b_by_pairs}
use Rattle.label.proofs.LabelB.is_before.Goals as goal

pub returns : goal.returns
returns c =
    let x = c.instant in
    let y = c.instant-2 in
    c.lt.ensures ∙ b_by_pairs _ _ x.result y.result _ _ x.type_inv y.type_inv x.ensures y.ensures c.in_minute.ensures c.in_minute-2.ensures
