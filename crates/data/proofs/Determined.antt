-- Every public contract of this crate leaves one outcome.
-- By its one equation. Assumes nothing.
use Rattle.octets.proofs.Outcome.{OneResult, one_outcome}
use Rattle.data.proofs.identity.Reads as identity
use Rattle.data.proofs.clock.Reads as clock
use Rattle.data.proofs.dates.Reads as dates
use Rattle.data.proofs.reading.Reads as reading
use Rattle.data.proofs.events.Reads as events

identity_one : OneResult identity.Post
identity_one κs a r r' s s' = one_outcome

clock_one : OneResult clock.Post
clock_one κs a r r' s s' = one_outcome

dates_one : OneResult dates.Post
dates_one κs a r r' s s' = one_outcome

reading_one : OneResult reading.Post
reading_one κs a r r' s s' = one_outcome

events_one : OneResult events.Post
events_one κs a r r' s s' = one_outcome
