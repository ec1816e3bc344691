-- `in_order` answers whether one key may stand right behind another.
-- Where the kinds differ, by which is the lower one. Assumes nothing.
use borrow.Author.Tests.{ne_eqb}
use Rattle.image.specs.working.Keys.{keys_in_order}
use Rattle.image.proofs.in_order.Goals as goal

pub returns-then-kind-behind : goal.returns-then-kind-behind
unfolding keys_in_order
returns-then-kind-behind c = rw (ne_eqb _ _ c.if-kind-behind.true)
