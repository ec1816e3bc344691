-- `variable_head` gives the octets 68 L L 68 C A A.
-- By the law of these octets. Assumes nothing.
use Rattle.frame.proofs.Writing.{head_octets}
use Rattle.frame.proofs.variable_head.Goals as goal

pub returns : goal.returns
returns c = head_octets _ _ _ _ c.control_and_address-body.ensures
