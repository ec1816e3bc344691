-- `for_readings` answers the first rule that applies to a request for readings.
-- By its objects, and then by what it chooses. Assumes nothing.
use Rattle.std.proofs.Common.{rules}
use Rattle.rules.proofs.for_readings.Goals as goal

pub returns-then-are_offered : goal.returns-then-are_offered
returns-then-are_offered c = rw (← c.are_offered.ensures, c.if-are_offered.true, ← c.span_of.ensures) c.ranged.ensures

pub returns-else-are_offered : goal.returns-else-are_offered
returns-else-are_offered c = search rules
