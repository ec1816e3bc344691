-- `LabelB::moment` answers the instant of a label, and whether it is valid.
-- By the two cases of validity. Assumes nothing.
use Rattle.std.proofs.Common.{◌∙◌}
use Rattle.octets.proofs.Choice.{told}
use Rattle.label.proofs.Label.{valid_b_law, moment_right, moment_wrong, back}
use Rattle.label.proofs.LabelB.moment.Goals as goal

pub standard_minute-requires : goal.standard_minute-requires
standard_minute-requires c = (valid_b_law _ (told c.is_valid.ensures c.if-is_valid.true)).valid

pub returns-then-is_valid : goal.returns-then-is_valid
returns-then-is_valid c =
    let minute = c.standard_minute in
    moment_right _ _ (told c.is_valid.ensures c.if-is_valid.true) (back minute.result minute.type_inv ∙ minute.ensures)

pub returns-else-is_valid : goal.returns-else-is_valid
returns-else-is_valid c =
    let minute = c.instant in
    moment_wrong _ _ (told c.is_valid.ensures c.if-is_valid.false) (back minute.result minute.type_inv ∙ minute.ensures)
