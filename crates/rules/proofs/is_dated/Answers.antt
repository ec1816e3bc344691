-- `is_dated` answers whether an image has switch dates.
-- By its calls. Assumes nothing.
use Rattle.std.proofs.Common.{rules}
use Rattle.rules.proofs.is_dated.Goals as goal

pub returns : goal.returns
returns c = rw (← c.dates_of.ensures) c.is_some.ensures
