-- `has_day` answers whether a month has a day.
-- No month has fewer than 28, by a test computed over both kinds of year; behind that the month's length decides. Assumes nothing.
use Rattle.std.proofs.Common.{◌≤◌, arith, le-leb}
use Rattle.label.specs.Calendar.{leap, month_length}
use Rattle.label.proofs.Calendar.{month_at_least}
use Rattle.label.proofs.month.Month.has_day.Goals as goal

pub returns-then-day-le28 : goal.returns-then-day-le28
returns-then-day-le28 c =
    let month = c.args.self in
    let within : c.args.day ≤ month_length (leap month.year) month.number = omega (arith, month_at_least (leap month.year) month.number (omega arith)) in
    rw (le-leb _ _ c.if-day-ge1.true, le-leb _ _ c.if-day-le28.true, le-leb _ _ within)
