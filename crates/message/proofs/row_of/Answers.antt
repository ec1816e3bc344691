-- `row_of` answers the row of a type.
-- The constant's rows are the definition's. Assumes nothing.
use Rattle.message.specs.Table.{table}
use Rattle.message.proofs.row_of.Goals as goal

pub returns : goal.returns
unfolding table
returns c = c.row_in.ensures
