-- `names::cut_from` hands back a part of one of the two books.
-- By which of them has the name. Assumes nothing.
use mathlib.Core.Path.{◌∙◌}
use Rattle.names.specs.LookUp.{cut_from}
use Rattle.names.proofs.cut_from.Goals as goal

pub returns-in-Chosen : goal.returns-in-Chosen
unfolding cut_from
returns-in-Chosen c = c.part.ensures ∙ rw c.in-Chosen.is

pub returns-in-Italian : goal.returns-in-Italian
unfolding cut_from
returns-in-Italian c = c.part-in-Italian.ensures ∙ rw c.in-Italian.is
