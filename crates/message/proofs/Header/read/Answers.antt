-- `Header::read` answers the header of a message.
-- Octet by octet. Assumes nothing.
use Rattle.message.specs.Headers.{header_of}
use Rattle.message.proofs.Header.read.Goals as goal

pub returns : goal.returns
unfolding header_of
returns c = cc
