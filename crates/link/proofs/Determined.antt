-- Every public contract of this crate leaves one outcome.
-- By its one equation. Assumes nothing.
use Rattle.octets.proofs.Outcome.{OneResult, one_outcome}
use Rattle.link.proofs.Link.power_on.Reads as link_power_on
use Rattle.link.proofs.Link.answer.Reads as answer

link_power_on_one : OneResult link_power_on.Post
link_power_on_one κs a r r' s s' = one_outcome

answer_one : OneResult answer.Post
answer_one κs a r r' s s' = one_outcome
