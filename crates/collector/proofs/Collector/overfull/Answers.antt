-- `Collector::overfull` answers the overfull collector.
-- It is the empty one but for its length. Assumes nothing.
use Rattle.collector.specs.Collecting.{emptied, overfull}
use Rattle.collector.proofs.Collector.overfull.Goals as goal

pub returns : goal.returns
unfolding emptied overfull
returns c = rw c.new.ensures
