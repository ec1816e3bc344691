-- `Readings::may_follow` answers whether a reading's label lies behind the last one.
-- By their instants. Assumes nothing.
use Rattle.label.proofs.Label.{compared}
use Rattle.image.proofs.ReadingsSeries.may_follow.Goals as goal

pub returns : goal.returns
returns c = let p = c.requires in compared _ _ _ _ c.ranges.minute.sfits c.ranges.now.sfits p.0 p.1
