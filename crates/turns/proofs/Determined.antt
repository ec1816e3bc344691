-- Every public contract of this crate leaves one outcome.
-- By what it says that a call does. Assumes nothing.
use Rattle.octets.proofs.Outcome.{OneOutcome, does_one}
use Rattle.turns.proofs.start.Reads as start
use Rattle.turns.proofs.turn.Reads as turn

start_one : OneOutcome (λ κs s. s.0.now) start.Post
start_one κs a r r' s s' p q = does_one p.0 q.0

turn_one : OneOutcome (λ κs s. s.0.now) turn.Post
turn_one κs a r r' s s' p q = does_one p.0 q.0
