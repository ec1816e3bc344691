-- `Card::octet` answers the card with an octet more.
-- By its parts. Assumes nothing.
use Rattle.card.specs.State.{with_character}
use Rattle.card.proofs.Card.octet.Goals as goal

pub returns : goal.returns
unfolding with_character
returns c = rw (c.collecting.ensures, c.with.ensures)
