-- Every public contract of this crate leaves one outcome.
-- By its one equation, or by what it says that a call does. Assumes nothing.
use Prim.Native.Nat.{ℕ}
use mathlib.Core.List.{List}
use Rattle.octets.proofs.Outcome.{OneResult, OneOutcome, one_outcome, does_one}
use Rattle.driving.proofs.Stepping.{stepped_one}
use Rattle.driving.proofs.start.Reads as start
use Rattle.driving.proofs.step.Reads as step
use Rattle.driving.proofs.image_after.Reads as image_after

start_one : OneResult start.Post
start_one κs a r r' s s' = one_outcome

-- of the reply buffer and of the buffer for the text
step_one : OneOutcome {L = List ℕ × List ℕ} (λ κs s. (s.1.1.1.0.now, s.0.now)) step.Post
step_one κs a r r' s s' = stepped_one _ _

image_after_one : OneOutcome (λ κs s. s.1.0.now) image_after.Post
image_after_one κs a r r' s s' = does_one
