-- `Kept::new` answers no octets, kept.
-- By computation. Assumes nothing.
use Rattle.std.proofs.Common.{refl}
use Rattle.octets.specs.Over.{over}
use Rattle.octets.specs.Keeping.{kept_of}
use Rattle.octets.proofs.Kept.new.Goals as goal

pub returns : goal.returns
unfolding kept_of over
returns c = refl
