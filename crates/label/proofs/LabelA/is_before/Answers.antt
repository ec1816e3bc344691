-- `LabelA::is_before` answers the order of the two instants.
-- By what the machine compares. Assumes nothing.
use Rattle.label.proofs.Label.{compared}
use Rattle.label.proofs.LabelA.is_before.Goals as goal

pub returns : goal.returns
returns c =
    let x = c.instant in
    let y = c.instant-2 in
    compared _ _ x.result y.result x.type_inv y.type_inv x.ensures y.ensures
