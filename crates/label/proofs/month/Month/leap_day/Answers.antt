-- `leap_day` answers the leap day of a year of 2000 to 2099.
-- In these years every fourth is a leap year, by a test computed over them. Assumes nothing.
use borrow.Author.Tests.{eq-eqb, ne_eqb}
use borrow.Author.Rules.{rules}
use Rattle.label.specs.Calendar.{leap_day}
use Rattle.label.proofs.Calendar.{leap_fourth}
use Rattle.label.proofs.month.Month.leap_day.Goals as goal

pub returns-then-self-eq0 : goal.returns-then-self-eq0
unfolding leap_day
returns-then-self-eq0 c = simp (eq-eqb _ _ c.if-self-eq0.true) at (leap_fourth c.args.self.year (search rules))

pub returns-else-self-eq0 : goal.returns-else-self-eq0
unfolding leap_day
returns-else-self-eq0 c = simp (ne_eqb _ _ c.if-self-eq0.false) at (leap_fourth c.args.self.year (search rules))
