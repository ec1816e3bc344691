-- `begin` answers mirror 7, and data behind it.
-- Part by part. Assumes nothing.
use Rattle.waiting.specs.NextReply.{firstly, begin_with}
use Rattle.waiting.proofs.begin.Goals as goal

pub returns : goal.returns
unfolding begin_with firstly
returns c = rw (c.«data».ensures, c.mirrored.ensures)
