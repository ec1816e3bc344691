-- `stand` puts an image into its space.
-- By whether it could be put. Assumes nothing.
use Rattle.driving.proofs.Stepping.{stood_whole, stood_not}
use Rattle.driving.proofs.stand.Goals as goal

pub returns-then-put : goal.returns-then-put
returns-then-put c = stood_whole _ _ _ c.put.ensures c.if-put.true

pub returns-else-put : goal.returns-else-put
returns-else-put c = stood_not _ _ _ c.put.ensures c.if-put.false
