-- `deed_of` answers what a message does by a rule.
-- By the row of its type. Assumes nothing.
use Rattle.deeds.proofs.deed_of.Goals as goal

pub returns-in-Some : goal.returns-in-Some
returns-in-Some c = rw (← c.row_of.ensures, c.in-Some.is) c.deed.ensures
