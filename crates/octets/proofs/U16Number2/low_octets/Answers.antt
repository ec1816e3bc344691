-- `low_octets` answers the octets of the number.
-- Std's writing of them is the definition's. Assumes nothing.
use Rattle.std.proofs.Common.{◌∙◌}
use Rattle.octets.proofs.Bytes.{to_low}
use Rattle.octets.proofs.U16Number2.low_octets.Goals as goal

pub returns : goal.returns
returns c = c.to_le_bytes.ensures ∙ to_low 2 c.args.self
