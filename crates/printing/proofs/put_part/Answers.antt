-- `put_part` writes a part of a line.
-- What fits is put there. Assumes nothing.
use Rattle.printing.proofs.Lines.{put_at}
use Rattle.printing.proofs.put_part.Goals as goal

pub returns : goal.returns
returns c = put_at _ _ _ c.requires c.put.ensures
