-- `Header::octets` answers the octets of a header.
-- Octet by octet. Assumes nothing.
use Rattle.octets.specs.Numbers.{low_octets}
use Rattle.message.specs.Headers.{header_octets}
use Rattle.message.proofs.Header.octets.Goals as goal

pub returns : goal.returns
unfolding header_octets low_octets
returns c = rw c.low_octets-point.ensures
