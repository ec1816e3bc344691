-- `Head::begin` puts what both lines begin with.
-- Column behind column. Assumes nothing.
use Rattle.printing.proofs.Lines.{begun}
use Rattle.printing.proofs.Head.begin.Goals as goal

pub returns : goal.returns
returns c = λ empty.
    begun c.args.first c.args.second c.args.order empty c.put_decimal.ensures c.put.ensures c.put_decimal-2.ensures c.put-2.ensures c.word.ensures c.put-3.ensures
