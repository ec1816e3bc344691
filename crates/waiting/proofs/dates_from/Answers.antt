-- `dates_from` answers the switch dates, or mirror 14.
-- By whether there are any. Assumes nothing.
use Rattle.waiting.proofs.dates_from.Goals as goal

pub returns-in_default : goal.returns-in_default
returns-in_default c = rw c.in_default.is c.mirror_with.ensures
