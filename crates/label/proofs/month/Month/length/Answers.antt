-- `length` answers the length of a month.
-- February's by its rule, any other's by its turn. Assumes nothing.
use Rattle.std.proofs.Common.{arith}
use Rattle.label.specs.Calendar.{leap}
use Rattle.label.proofs.Calendar.{leap_at_most, february_rule, turn_rule}
use Rattle.label.proofs.month.Month.length.Goals as goal

pub overflow_add-result : goal.overflow_add-result
overflow_add-result c = omega (arith, leap_at_most (leap c.args.self.year))

pub returns-then-self-eq2 : goal.returns-then-self-eq2
returns-then-self-eq2 c = omega (arith, february_rule (leap c.args.self.year) c.args.self.number c.if-self-eq2.true)

pub returns-else-self-eq2 : goal.returns-else-self-eq2
returns-else-self-eq2 c =
    omega (arith, turn_rule (leap c.args.self.year) c.args.self.number (omega arith) (omega arith) c.if-self-eq2.false)
