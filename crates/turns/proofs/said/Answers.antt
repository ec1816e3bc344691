-- `said` writes a last text.
-- There is room for it. Assumes nothing.
use borrow.Author.Rules.{rules}
use Rattle.turns.proofs.Turning.{written_taken}
use Rattle.turns.proofs.said.Goals as goal

pub returns : goal.returns
returns c = written_taken _ _ (search rules) (search rules) c.put_text.ensures
