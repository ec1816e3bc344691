-- `clock_at` answers the clock from an index on.
-- Seven octets at most are put over seven zeros. Assumes nothing.
use Rattle.input.proofs.Input.{clock_is}
use Rattle.input.proofs.clock_at.Goals as goal

pub returns : goal.returns
returns c = clock_is _ _ c.part.ensures c.put.ensures
