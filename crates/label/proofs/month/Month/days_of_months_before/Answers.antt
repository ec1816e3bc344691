-- `days_of_months_before` answers the days of a year before the first of a month.
-- By the turns up to February, and from March on. Assumes nothing.
use Rattle.std.proofs.Common.{◌-◌, arith}
use Rattle.label.specs.Calendar.{leap}
use Rattle.label.proofs.Calendar.{leap_at_most, until_february, from_march}
use Rattle.label.proofs.month.Month.days_of_months_before.Goals as goal

pub returns-then-self-gt2 : goal.returns-then-self-gt2
returns-then-self-gt2 c =
    omega (arith, leap_at_most (leap c.args.self.year), from_march (leap c.args.self.year) (c.args.self.number - 1) (omega arith) (omega arith))

pub returns-else-self-gt2 : goal.returns-else-self-gt2
returns-else-self-gt2 c = omega (arith, until_february (leap c.args.self.year) (c.args.self.number - 1) (omega arith))
