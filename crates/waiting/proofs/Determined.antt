-- Every public contract of this crate leaves one outcome.
-- By its one equation. Assumes nothing.
use Rattle.octets.proofs.Outcome.{OneResult, one_outcome}
use Rattle.waiting.proofs.next_reply.Reads as next_reply

next_reply_one : OneResult next_reply.Post
next_reply_one κs a r r' s s' = one_outcome
