-- `is_none` answers whether nothing is chosen.
-- By the first place that is found. Assumes nothing.
use Rattle.rules.proofs.Searching.{found_none}
use Rattle.rules.proofs.is_none.Goals as goal

pub returns : goal.returns
returns c = found_none _ _ _ c.is_none.ensures c.find.ensures
