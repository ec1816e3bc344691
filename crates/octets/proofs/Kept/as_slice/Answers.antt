-- `Kept::as_slice` hands out the octets that count.
-- They are a part of the array. Assumes nothing.
use Rattle.std.proofs.Common.{rules}
use Rattle.octets.specs.Keeping.{octets_of}
use Rattle.octets.proofs.Kept.as_slice.Goals as goal

pub returns : goal.returns
unfolding octets_of
returns c = search rules
