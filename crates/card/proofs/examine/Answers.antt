-- `examine` answers what the run in a collector is to this card.
-- By whether the collector is overfull, or marked. Assumes nothing.
use mathlib.Core.Path.{◌∙◌}
use Rattle.card.proofs.Examining.{overfull_examined, marked_examined, run_examined}
use borrow.Author.Rules.{rules}
use Rattle.card.proofs.examine.Goals as goal

pub returns-then-collector-gt-LONGEST : goal.returns-then-collector-gt-LONGEST
returns-then-collector-gt-LONGEST c = overfull_examined _ _ (search rules)

pub returns-then-collector : goal.returns-then-collector
returns-then-collector c = marked_examined _ _ _ (search rules) (search rules) (search rules) c.fault_of_marked.ensures

pub returns : goal.returns
returns c = c.examine_run.ensures ∙ run_examined _ _ _ (search rules) (search rules) c.part.ensures
