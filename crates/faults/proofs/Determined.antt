-- Every public contract of this crate leaves one outcome.
-- By its one equation. Assumes nothing.
use Rattle.octets.proofs.Outcome.{OneResult, one_outcome}
use Rattle.faults.proofs.of_label_a.Reads as of_label_a
use Rattle.faults.proofs.of_label_b.Reads as of_label_b
use Rattle.faults.proofs.of_image.Reads as of_image

of_label_a_one : OneResult of_label_a.Post
of_label_a_one κs a r r' s s' = one_outcome

of_label_b_one : OneResult of_label_b.Post
of_label_b_one κs a r r' s s' = one_outcome

of_image_one : OneResult of_image.Post
of_image_one κs a r r' s s' = one_outcome
