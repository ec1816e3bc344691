-- `Card::left_with` answers the card without its run.
-- By its parts. Assumes nothing.
use Rattle.card.specs.State.{left_with}
use Rattle.card.proofs.Card.left_with.Goals as goal

pub returns : goal.returns
unfolding left_with
returns c = rw c.new.ensures
