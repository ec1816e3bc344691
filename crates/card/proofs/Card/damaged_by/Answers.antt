-- `Card::damaged_by` answers the card after a run that is no sound frame.
-- By whether the run is damaged. Assumes nothing.
use Rattle.card.specs.State.{damaged_by}
use Rattle.card.proofs.Card.damaged_by.Goals as goal

pub returns-then-is_damaged : goal.returns-then-is_damaged
unfolding damaged_by
returns-then-is_damaged c = rw (← c.is_damaged.ensures, c.if-is_damaged.true, c.new.ensures, c.one_more.ensures)

pub returns-else-is_damaged : goal.returns-else-is_damaged
unfolding damaged_by
returns-else-is_damaged c = rw (← c.is_damaged.ensures, c.if-is_damaged.false)
