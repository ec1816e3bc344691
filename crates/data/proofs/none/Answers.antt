-- `none` answers that nothing is given.
-- Assumes nothing.
use Rattle.data.proofs.Portions.{nothing_given}
use Rattle.data.proofs.none.Goals as goal

pub returns : goal.returns
returns c = nothing_given c.new.ensures
