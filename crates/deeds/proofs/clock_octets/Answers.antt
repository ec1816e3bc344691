-- `clock_octets` answers the octets of a label b, zeros behind.
-- Octet by octet. Assumes nothing.
use Rattle.label.specs.Label.{label_a_octets, label_b_octets}
use Rattle.deeds.proofs.clock_octets.Goals as goal

pub returns : goal.returns
unfolding label_a_octets label_b_octets
returns c = rw c.octets-b.ensures
