-- `after_data` answers data, or mirror 10.
-- By how many records are given. Assumes nothing.
use borrow.Author.Tests.{eq-eqb, ne_eqb}
use Rattle.waiting.specs.NextReply.{firstly, after_data}
use Rattle.waiting.proofs.after_data.Goals as goal

pub returns-then-some-eq0 : goal.returns-then-some-eq0
unfolding after_data firstly
returns-then-some-eq0 c = rw (eq-eqb _ 0 c.if-some-eq0.true) c.mirror_with.ensures

pub returns : goal.returns
unfolding after_data firstly
returns c = rw (ne_eqb _ 0 c.if-some-eq0.false, c.«data».ensures)
