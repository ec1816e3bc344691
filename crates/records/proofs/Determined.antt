-- Every public contract of this crate leaves one outcome.
-- By its one equation. Assumes nothing.
use Rattle.octets.proofs.Outcome.{OneResult, one_outcome}
use Rattle.records.proofs.length_of.Reads as length_of
use Rattle.records.proofs.is_whole.Reads as is_whole
use Rattle.records.proofs.kind_at.Reads as kind_at
use Rattle.records.proofs.after.Reads as after

length_of_one : OneResult length_of.Post
length_of_one κs a r r' s s' p q = one_outcome p.0 q.0

is_whole_one : OneResult is_whole.Post
is_whole_one κs a r r' s s' = one_outcome

kind_at_one : OneResult kind_at.Post
kind_at_one κs a r r' s s' = one_outcome

after_one : OneResult after.Post
after_one κs a r r' s s' = one_outcome
