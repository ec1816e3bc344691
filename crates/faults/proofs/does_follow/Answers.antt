-- `does_follow` answers whether the record where the walk stands is in order behind the last one.
-- The first has none before it; else by the keys of the two. Assumes nothing.
use mathlib.Core.Path.{sym, ◌∙◌}
use borrow.Author.Tests.{eq-eqb}
use Rattle.faults.proofs.Walking.{first_follows, follow_keys}
use Rattle.faults.proofs.does_follow.Goals as goal

pub returns-then-walk-eq0 : goal.returns-then-walk-eq0
returns-then-walk-eq0 c = λ before s. rw (eq-eqb _ _ c.if-walk-eq0.true) (first_follows before _ (sym s.counted ∙ c.if-walk-eq0.true))

pub returns-else-walk-eq0 : goal.returns-else-walk-eq0
returns-else-walk-eq0 c = λ before s. c.in_order.ensures ∙ follow_keys _ before _ s _ _ c.if-walk-eq0.false c.key_at.ensures c.requires.1
