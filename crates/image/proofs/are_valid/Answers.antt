-- `are_valid` answers whether there are switch dates and both are valid.
-- By what the definition says of each case. Assumes nothing.
use Rattle.std.proofs.Common.{rules}
use Rattle.image.specs.working.Keys.{valid_dates}
use Rattle.image.proofs.are_valid.Goals as goal

pub returns : goal.returns
unfolding valid_dates
returns c = search rules
