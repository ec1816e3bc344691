-- `collect_character` puts a character into a collector that is lent.
-- It leaves what `Collector::with_parity` answers. Assumes nothing.
use Rattle.collector.proofs.collect_character.Goals as goal

pub returns : goal.returns
returns c = record { leaves = c.with_parity.ensures }
