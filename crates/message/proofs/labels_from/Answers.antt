-- `labels_from` answers where the first label stands.
-- By the type. Assumes nothing.
use Rattle.std.proofs.Common.{rules}
use Rattle.message.specs.Requests.{labels_from}
use Rattle.message.proofs.labels_from.Goals as goal

pub returns-then-asks_readings : goal.returns-then-asks_readings
unfolding labels_from
returns-then-asks_readings c = (rw (← c.asks_readings.ensures, c.if-asks_readings.true), search rules)

pub returns-else-asks_readings : goal.returns-else-asks_readings
unfolding labels_from
returns-else-asks_readings c = (rw (← c.asks_readings.ensures, c.if-asks_readings.false), search rules)
