-- `control_and_address` gives the octets C A A.
-- By the octets of the address. Assumes nothing.
use Rattle.frame.proofs.Writing.{body_octets}
use Rattle.frame.proofs.control_and_address.Goals as goal

pub returns : goal.returns
returns c = body_octets _ _ _ c.low_octets-a.ensures
