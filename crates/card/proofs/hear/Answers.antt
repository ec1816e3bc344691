-- `hear` answers what a frame for this card asks.
-- By the law of what is heard. Assumes nothing.
use Rattle.card.proofs.Examining.{heard_so}
use Rattle.card.proofs.hear.Goals as goal

pub returns : goal.returns
returns c = heard_so _ c.in_ok-service.ensures.ok_part c.requires (rw c.new.ensures at c.with.ensures)
