-- `hour_earlier` answers a date and time one hour earlier.
-- The month before one that is not January is a month of the same year. Assumes nothing.
use Rattle.std.proofs.Common.{arith}
use Rattle.label.proofs.Time.{real_facts}
use Rattle.label.proofs.DateTime.hour_earlier.Goals as goal

pub invariant_of-month : goal.invariant_of-month
invariant_of-month c = let h = real_facts _ c.requires in omega arith
