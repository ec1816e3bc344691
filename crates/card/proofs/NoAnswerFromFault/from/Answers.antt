-- A fault is the reason that it is.
-- By its one constructor. Assumes nothing.
use mathlib.Core.Path.{refl}
use Rattle.card.proofs.NoAnswerFromFault.from.Goals as goal

pub returns : goal.returns
returns c = refl
