-- `octets::unsigned` answers the 32 bits of a value.
-- The definition is the machine's own reading of the bits. Assumes nothing.
use Rattle.std.proofs.Common.{sym, to_z-of_z, ◌∙◌}
use Rattle.octets.proofs.Values.{unsigned_bits}
use Rattle.octets.proofs.unsigned.Goals as goal

pub returns : goal.returns
returns c = rw (to_z-of_z c.ranges.value) at c.cast_unsigned.ensures ∙ sym (unsigned_bits c.args.value)
