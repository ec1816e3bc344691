-- `event_octets` answers the octets of the event at a place.
-- The event is there; octet by octet. Assumes nothing.
use Rattle.label.specs.Label.{label_a_octets, label_b_octets}
use Rattle.data.proofs.Written.{event_not_missing, octets_of_event}
use Rattle.data.proofs.event_octets.Goals as goal

pub returns-in_default : goal.returns-in_default
returns-in_default c = absurd (event_not_missing _ _ c.requires c.event_at.ensures c.in_default.is)

pub returns : goal.returns
unfolding label_a_octets label_b_octets
returns c = rw c.octets-label.ensures (octets_of_event _ _ c.requires c.event_at.ensures c.in-Some.is)
