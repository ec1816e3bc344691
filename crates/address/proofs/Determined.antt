-- Every public contract of this crate leaves one outcome.
-- By its one equation. Assumes nothing.
use Rattle.octets.proofs.Outcome.{OneResult, one_outcome}
use Rattle.address.proofs.LinkAddressPartialEq.eq.Reads as link_eq
use Rattle.address.proofs.PointAddressPartialEq.eq.Reads as point_eq

link_eq_one : OneResult link_eq.Post
link_eq_one κs a r r' s s' = one_outcome

point_eq_one : OneResult point_eq.Post
point_eq_one κs a r r' s s' = one_outcome
