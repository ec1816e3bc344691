-- `identity` answers the message of type 71.
-- The head's octets stand behind the header. Assumes nothing.
use native.Mathlib.Omega.{arith}
use Rattle.octets.specs.Numbers.{low_octets}
use Rattle.data.specs.Messages.{identity_reply}
use Rattle.data.proofs.Written.{header_and}
use Rattle.data.proofs.identity.Goals as goal

pub returns : goal.returns
unfolding identity_reply low_octets
returns c = header_and _ _ _ _ _ c.headed.ensures c.with.ensures (rw c.low_octets-product.ensures) (omega arith)
