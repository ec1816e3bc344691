-- `user_data` answers a message: NACK, or ACK and the message is carried out.
-- By whether replies wait, and how many octets there are. Assumes nothing.
use Rattle.std.proofs.Common.{rules}
use Rattle.link.specs.Answering.{user_data}
use Rattle.link.proofs.Link.user_data.Goals as goal

pub returns-then-request-lt-OCTETS : goal.returns-then-request-lt-OCTETS
unfolding user_data
returns-then-request-lt-OCTETS c = search rules

pub returns-else-request-lt-OCTETS : goal.returns-else-request-lt-OCTETS
unfolding user_data
returns-else-request-lt-OCTETS c = search rules
