-- `by_type` answers the first rule that applies to a message of its type.
-- By the types. Assumes nothing.
use Rattle.message.specs.Requests.{asks_readings}
use Rattle.rules.specs.Decide.{labels_valid, first_after_last, span_of, by_type}
use Rattle.rules.proofs.by_type.Goals as goal

pub returns-in-102 : goal.returns-in-102
unfolding by_type asks_readings labels_valid first_after_last span_of
returns-in-102 c = rw (c.in-102.is, ← c.span_of.ensures) c.ranged.ensures

pub returns-in-183 : goal.returns-in-183
unfolding by_type asks_readings
returns-in-183 c = rw (c.in-183.is, c.unless-in-183.ensures, c.does_open.ensures, c.point_of.ensures)
