-- `LabelB::read` answers the label in the first seven octets.
-- By the label a that is cut out of them. Assumes nothing.
use Rattle.label.specs.Label.{label_b_at}
use Rattle.label.proofs.Label.{label_a_cut}
use Rattle.label.proofs.LabelB.read.Goals as goal

pub returns : goal.returns
unfolding label_b_at
returns c = rw (c.octet_at.ensures, c.octet_at-2.ensures, c.read.ensures, c.part.ensures, label_a_cut _ 2)
