-- `gap_line` writes the line of a gap, or leaves the buffer.
-- What is laid is the line from its head on. Assumes nothing.
use Rattle.printing.proofs.Lines.{gap_text}
use Rattle.printing.proofs.gap_line.Goals as goal

pub returns : goal.returns
returns c =
    let a = c.args in
    rw (c.as_slice.ensures, gap_text a.number a.length a.order a.time a.damaged a.buffer.now (rw (c.from.ensures, c.from-2.ensures, c.from-3.ensures) at (c.put_gap.ensures c.new-head.ensures))) at c.lay.ensures
