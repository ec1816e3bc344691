-- `from_low_first` answers the number of its octets.
-- Std's reading of them is the definition's. Assumes nothing.
use Rattle.std.proofs.Common.{◌∙◌, rules}
use Rattle.octets.proofs.Bytes.{from_low}
use Rattle.octets.proofs.U32Number4.from_low_first.Goals as goal

pub returns : goal.returns
returns c = c.from_le_bytes.ensures ∙ from_low c.args.octets 3 (search rules)
