-- `Link::after_new` answers the link after a frame with a new FCB.
-- By its parts. Assumes nothing.
use mathlib.Core.Path.{refl}
use Rattle.link.specs.State.{after_new}
use Rattle.link.proofs.Link.after_new.Goals as goal

pub returns : goal.returns
unfolding after_new
returns c = refl
