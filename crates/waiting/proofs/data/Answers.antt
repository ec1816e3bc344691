-- `data` answers that data waits.
-- By its parts. Assumes nothing.
use mathlib.Core.Path.{refl}
use Rattle.waiting.specs.NextReply.{data_pending}
use Rattle.waiting.proofs.«data».Goals as goal

pub returns : goal.returns
unfolding data_pending
returns c = refl
