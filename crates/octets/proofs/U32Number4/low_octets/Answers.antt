-- `low_octets` answers the octets of the number.
-- Std's writing of them is the definition's. Assumes nothing.
use Rattle.std.proofs.Common.{◌∙◌}
use Rattle.octets.proofs.Bytes.{to_low}
use Rattle.octets.proofs.U32Number4.low_octets.Goals as goal

pub returns : goal.returns
returns c = c.to_le_bytes.ensures ∙ to_low 4 c.args.self
