-- `is_link` answers whether a frame is for the card that an image describes.
-- By the first record, if there is one. Assumes nothing.
use borrow.Author.Rules.{rules}
use Rattle.card.proofs.is_link.Goals as goal

pub returns : goal.returns
returns c = search rules
