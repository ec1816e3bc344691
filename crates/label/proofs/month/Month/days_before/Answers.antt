-- `days_before` answers the days from 1 January 2000 to the first of a month.
-- By the rule of the years before a year, and of the days of a year before a month. Assumes nothing.
use Rattle.std.proofs.Common.{arith}
use Rattle.label.specs.Calendar.{leap}
use Rattle.label.proofs.Calendar.{before_at_most, years_rule}
use Rattle.label.proofs.month.Month.days_before.Goals as goal

pub overflow_add-result-3 : goal.overflow_add-result-3
overflow_add-result-3 c = omega (arith, before_at_most (leap c.args.self.year) c.args.self.number (omega arith))

pub returns : goal.returns
returns c = omega (arith, years_rule c.args.self.year (omega arith))
