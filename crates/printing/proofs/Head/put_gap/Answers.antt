-- `Head::put_gap` puts the head of a gap's line.
-- Column behind column. Assumes nothing.
use Rattle.printing.proofs.Lines.{headed}
use Rattle.printing.proofs.Head.put_gap.Goals as goal

pub returns : goal.returns
returns c = λ empty.
    let a = c.args in
    headed a.number a.count a.order a.time.now a.damaged (c.begin.ensures empty) c.put.ensures c.put_time.ensures c.put-2.ensures c.put_decimal.ensures c.put-3.ensures
