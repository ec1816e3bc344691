-- `octets::signed` answers the value of 32 bits.
-- The definition is the machine's own reading of the bits. Assumes nothing.
use Rattle.std.proofs.Common.{sym, to_z-of_z, w32, rules, ◌∙◌}
use Rattle.octets.proofs.Values.{signed_bits}
use Rattle.octets.proofs.signed.Goals as goal

pub returns : goal.returns
returns c = to_z-of_z {w = w32} (search rules) ∙ c.cast_signed.ensures ∙ sym (signed_bits c.args.n (search rules))
