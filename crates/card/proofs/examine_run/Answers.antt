-- `examine_run` answers what a run is to this card.
-- The user octets of a sound frame are few enough. Assumes nothing.
use Rattle.frame.proofs.Judging.{variable_verdict}
use Rattle.card.proofs.examine_run.Goals as goal

pub examine_frame-requires-in-Variable : goal.examine_frame-requires-in-Variable
examine_frame-requires-in-Variable c = rw c.user.ensures (variable_verdict _ _ _ _ (rw c.in-Variable.is at c.in_ok-control.ensures)).fits

pub returns-in-Variable : goal.returns-in-Variable
returns-in-Variable c = rw ((variable_verdict _ _ _ _ (rw c.in-Variable.is at c.in_ok-control.ensures)).says, ← c.user.ensures) c.examine_frame-in-Variable.ensures
