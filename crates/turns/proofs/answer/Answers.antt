-- `answer` writes the line of a gap that is lent 261 octets.
-- By what the gap returns and leaves; there is room for the line. Assumes nothing.
use borrow.Author.Rules.{rules}
use Rattle.turns.specs.Printed.{gap_turn}
use Rattle.turns.proofs.Turning.{gap_taken}
use Rattle.turns.proofs.answer.Goals as goal

pub returns : goal.returns
unfolding gap_turn
returns c =
    gap_taken _ _ _ c.gap-gone.ensures _ (search rules) (search rules) c.line.ensures
