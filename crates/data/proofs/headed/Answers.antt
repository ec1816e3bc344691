-- `headed` answers a message that has its header only.
-- The header's octets are added to none. Assumes nothing.
use Rattle.data.specs.Messages.{reply_header}
use Rattle.data.proofs.Written.{header_only}
use Rattle.data.proofs.headed.Goals as goal

pub returns : goal.returns
unfolding reply_header
returns c = header_only _ _ _ _ c.new.ensures c.with.ensures c.octets.ensures
