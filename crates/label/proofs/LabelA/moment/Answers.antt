-- `LabelA::moment` answers the instant of a label that is valid.
-- By the two cases of validity. Assumes nothing.
use Rattle.std.proofs.Common.{◌∙◌}
use Rattle.octets.proofs.Choice.{told}
use Rattle.label.proofs.Label.{moment_some, moment_none, back}
use Rattle.label.proofs.LabelA.moment.Goals as goal

pub returns-then-is_valid : goal.returns-then-is_valid
returns-then-is_valid c =
    let minute = c.standard_minute in
    moment_some _ _ _ (told c.is_valid.ensures c.if-is_valid.true) (back minute.result minute.type_inv ∙ minute.ensures)

pub returns-else-is_valid : goal.returns-else-is_valid
returns-else-is_valid c = moment_none _ _ (told c.is_valid.ensures c.if-is_valid.false)
