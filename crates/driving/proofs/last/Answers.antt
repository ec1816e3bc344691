-- `last` writes a last line.
-- All is as it was, also where the line does not fit. Assumes nothing.
use Rattle.driving.proofs.Stepping.{kept_writes}
use Rattle.driving.proofs.last.Goals as goal

pub returns : goal.returns
returns c = kept_writes _ _ _ _ c.put_text.ensures
