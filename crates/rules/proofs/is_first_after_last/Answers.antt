-- `is_first_after_last` answers whether the first label lies after the last.
-- By its call. Assumes nothing.
use Rattle.rules.specs.Decide.{first_after_last}
use Rattle.rules.proofs.is_first_after_last.Goals as goal

pub returns : goal.returns
unfolding first_after_last
returns c = c.is_before.ensures
