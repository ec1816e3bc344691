-- `turn` writes the text of a run.
-- By whether the buffer is short, and what the run is found to be. Assumes nothing.
use Rattle.input.specs.declared.Run.TheVariants as run
use Rattle.turns.specs.Printed.{after_run}
use Rattle.turns.proofs.Turning.{short_turned, run_turned, run_answered}
use Rattle.turns.proofs.turn.Goals as goal

pub returns-then-out-lt-ROOM : goal.returns-then-out-lt-ROOM
returns-then-out-lt-ROOM c = short_turned _ _ _ c.if-out-lt-ROOM.true c.refused.ensures

pub returns-in-End : goal.returns-in-End
unfolding after_run
returns-in-End c =
    run_turned _ _ _ _ _ _ c.if-out-lt-ROOM.false c.judge_run.ensures run.End c.in-End.is c.said.ensures

pub returns-in-Cut : goal.returns-in-Cut
unfolding after_run
returns-in-Cut c =
    run_turned _ _ _ _ _ _ c.if-out-lt-ROOM.false c.judge_run.ensures run.Cut c.in-Cut.is c.said-in-Cut.ensures

pub returns-in-Whole : goal.returns-in-Whole
returns-in-Whole c =
    run_answered _ _ _ _ _ _ c.if-out-lt-ROOM.false c.judge_run.ensures c.in-Whole.is c.part.ensures c.octets-card.ensures
    c.answer.ensures
