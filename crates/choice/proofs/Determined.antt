-- Every public contract of this crate leaves one outcome.
-- By its one equation. Assumes nothing.
use Rattle.octets.proofs.Outcome.{OneResult, one_outcome}
use Rattle.choice.proofs.find.Reads as find
use Rattle.choice.proofs.next.Reads as next

find_one : OneResult find.Post
find_one κs a r r' s s' = one_outcome

next_one : OneResult next.Post
next_one κs a r r' s s' = one_outcome
