-- Every public contract of this crate leaves one outcome.
-- By its one equation. Assumes nothing.
use Rattle.octets.proofs.Outcome.{OneResult, one_outcome}
use Rattle.profile.proofs.Character.of.Reads as character_of
use Rattle.profile.proofs.Character.is_right.Reads as is_right

character_of_one : OneResult character_of.Post
character_of_one κs a r r' s s' = one_outcome

is_right_one : OneResult is_right.Post
is_right_one κs a r r' s s' = one_outcome
