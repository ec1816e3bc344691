-- Every public contract of this crate leaves one outcome.
-- By its one equation. Assumes nothing.
use Rattle.octets.proofs.Outcome.{OneResult, one_outcome}
use Rattle.deeds.proofs.carry_out.Reads as carry_out
use Rattle.deeds.proofs.Pending.new.Reads as pending_new
use Rattle.deeds.proofs.Pending.is_waiting.Reads as pending_is_waiting

carry_out_one : OneResult carry_out.Post
carry_out_one κs a r r' s s' = one_outcome

pending_new_one : OneResult pending_new.Post
pending_new_one κs a r r' s s' = one_outcome

pending_is_waiting_one : OneResult pending_is_waiting.Post
pending_is_waiting_one κs a r r' s s' = one_outcome
