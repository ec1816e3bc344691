-- `put_text` writes a text, or leaves the buffer.
-- By whether it could be put. Assumes nothing.
use Rattle.printing.proofs.Lines.{put_lined}
use Rattle.printing.proofs.put_text.Goals as goal

pub returns-then-put : goal.returns-then-put
returns-then-put c = put_lined _ _ c.put.ensures c.if-put.true
