-- `is_odd` answers whether an odd number of the eight data bits are ones.
-- By the processor's count of them. Assumes nothing.
use Rattle.std.proofs.Common.{◌%◌, ap, eqb, rules}
use Rattle.profile.proofs.Parity.{count_of_bits}
use Rattle.profile.proofs.is_odd.Goals as goal

pub returns : goal.returns
returns c = ap (λ ones. eqb (ones % 2) 1) (count_of_bits 8 c.args.octet (search rules))
