-- `written` writes a reply and answers how many octets it has.
-- A buffer of the length that is required is never short. Assumes nothing.
use Rattle.card.proofs.Gap.{as_written}
use Rattle.card.proofs.written.Goals as goal

pub returns : goal.returns
returns c = as_written _ _ c.requires _ c.write.ensures c.unwrap_or.ensures
