-- Every public contract of this crate leaves one outcome.
-- By its one equation. Assumes nothing.
use Rattle.octets.proofs.Outcome.{OneResult, one_outcome}
use Rattle.fields.proofs.reading_key.Reads as reading_key
use Rattle.fields.proofs.event_key.Reads as event_key
use Rattle.fields.proofs.key_at.Reads as key_at
use Rattle.fields.proofs.identity_of.Reads as identity_of
use Rattle.fields.proofs.points.Reads as points
use Rattle.fields.proofs.point_of.Reads as point_of
use Rattle.fields.proofs.dates_at.Reads as dates_at
use Rattle.fields.proofs.dates_of.Reads as dates_of
use Rattle.fields.proofs.value_at.Reads as value_at
use Rattle.fields.proofs.event_at.Reads as event_at

reading_key_one : OneResult reading_key.Post
reading_key_one κs a r r' s s' = one_outcome

event_key_one : OneResult event_key.Post
event_key_one κs a r r' s s' = one_outcome

key_at_one : OneResult key_at.Post
key_at_one κs a r r' s s' = one_outcome

identity_of_one : OneResult identity_of.Post
identity_of_one κs a r r' s s' = one_outcome

points_one : OneResult points.Post
points_one κs a r r' s s' = one_outcome

point_of_one : OneResult point_of.Post
point_of_one κs a r r' s s' = one_outcome

dates_at_one : OneResult dates_at.Post
dates_at_one κs a r r' s s' = one_outcome

dates_of_one : OneResult dates_of.Post
dates_of_one κs a r r' s s' = one_outcome

value_at_one : OneResult value_at.Post
value_at_one κs a r r' s s' = one_outcome

event_at_one : OneResult event_at.Post
event_at_one κs a r r' s s' = one_outcome
