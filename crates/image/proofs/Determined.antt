-- Every public contract of this crate leaves one outcome.
-- By its one equation. Assumes nothing.
use Rattle.octets.proofs.Outcome.{OneResult, one_outcome}
use Rattle.image.proofs.sound.Reads as sound
use Rattle.image.proofs.is_reading_record.Reads as is_reading_record
use Rattle.image.proofs.is_event_record.Reads as is_event_record
use Rattle.image.proofs.in_order.Reads as in_order

sound_one : OneResult sound.Post
sound_one κs a r r' s s' = one_outcome

is_reading_record_one : OneResult is_reading_record.Post
is_reading_record_one κs a r r' s s' = one_outcome

is_event_record_one : OneResult is_event_record.Post
is_event_record_one κs a r r' s s' = one_outcome

in_order_one : OneResult in_order.Post
in_order_one κs a r r' s s' = one_outcome
