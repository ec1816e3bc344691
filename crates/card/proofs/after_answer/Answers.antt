-- `after_answer` answers the gap once the frame is answered.
-- By what is sent. Assumes nothing.
use Rattle.card.proofs.Gap.{gapped_same, answer_unreset, answer_remembered, answer_status, refused_gap, replied_gap}
use Rattle.card.proofs.after_answer.Goals as goal

pub returns-in-NotReset : goal.returns-in-NotReset
returns-in-NotReset c = gapped_same _ _ _ (answer_unreset _ _ c.in-NotReset.is) (refused_gap _ _ _ (rw c.left_with.ensures at c.refused.ensures))

pub returns-in-Remembered : goal.returns-in-Remembered
returns-in-Remembered c = gapped_same _ _ _ (answer_remembered _ _ c.in-Remembered.is) (replied_gap _ c.args.answered _ _ c.written.ensures c.left_with-in-Remembered.ensures)

pub returns-in-Status : goal.returns-in-Status
returns-in-Status c = gapped_same _ _ _ (answer_status _ _ _ c.in-Status.is) (replied_gap _ c.args.answered _ _ (rw c.plain.ensures at c.written-in-Status.ensures) c.left_with-in-Status.ensures)
