-- `line` writes the line of a run, or leaves the buffer.
-- What is laid is the line from its head on. Assumes nothing.
use Rattle.printing.proofs.Lines.{run_line}
use Rattle.printing.proofs.line.Goals as goal

pub returns : goal.returns
returns c =
    let a = c.args in
    let whole = run_line a.number a.res a.order a.reply.now (rw c.from.ensures at (c.begin.ensures c.new-head.ensures)) c.dash.ensures c.put.ensures in
    rw (c.as_slice.ensures, whole) at c.lay.ensures
