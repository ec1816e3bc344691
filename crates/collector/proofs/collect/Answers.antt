-- `collect` puts an octet into a collector that is lent.
-- It leaves what `Collector::with` answers. Assumes nothing.
use Rattle.collector.proofs.collect.Goals as goal

pub returns : goal.returns
returns c = record { leaves = c.with.ensures }
