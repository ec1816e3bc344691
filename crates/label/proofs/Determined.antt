-- Every public contract of this crate leaves one outcome.
-- By its one equation. Assumes nothing.
use Rattle.octets.proofs.Outcome.{OneResult, one_outcome}
use Rattle.label.proofs.LabelA.read.Reads as a_read
use Rattle.label.proofs.LabelA.octets.Reads as a_octets
use Rattle.label.proofs.LabelB.read.Reads as b_read
use Rattle.label.proofs.LabelB.octets.Reads as b_octets
use Rattle.label.proofs.LabelA.date_time.Reads as a_date_time
use Rattle.label.proofs.LabelA.is_valid.Reads as a_is_valid
use Rattle.label.proofs.LabelA.instant.Reads as a_instant
use Rattle.label.proofs.LabelA.is_before.Reads as a_is_before
use Rattle.label.proofs.LabelB.second.Reads as b_second
use Rattle.label.proofs.LabelB.millisecond.Reads as b_millisecond
use Rattle.label.proofs.LabelB.is_valid.Reads as b_is_valid
use Rattle.label.proofs.LabelB.in_minute.Reads as b_in_minute
use Rattle.label.proofs.LabelB.is_before.Reads as b_is_before
use Rattle.label.proofs.LabelA.moment.Reads as a_moment
use Rattle.label.proofs.LabelB.moment.Reads as b_moment
use Rattle.label.proofs.LabelA.standard_time.Reads as a_standard_time

a_read_one : OneResult a_read.Post
a_read_one κs a r r' s s' = one_outcome

a_octets_one : OneResult a_octets.Post
a_octets_one κs a r r' s s' = one_outcome

b_read_one : OneResult b_read.Post
b_read_one κs a r r' s s' = one_outcome

b_octets_one : OneResult b_octets.Post
b_octets_one κs a r r' s s' = one_outcome

a_date_time_one : OneResult a_date_time.Post
a_date_time_one κs a r r' s s' = one_outcome

a_is_valid_one : OneResult a_is_valid.Post
a_is_valid_one κs a r r' s s' = one_outcome

a_instant_one : OneResult a_instant.Post
a_instant_one κs a r r' s s' = one_outcome

a_is_before_one : OneResult a_is_before.Post
a_is_before_one κs a r r' s s' = one_outcome

b_second_one : OneResult b_second.Post
b_second_one κs a r r' s s' = one_outcome

b_millisecond_one : OneResult b_millisecond.Post
b_millisecond_one κs a r r' s s' = one_outcome

b_is_valid_one : OneResult b_is_valid.Post
b_is_valid_one κs a r r' s s' = one_outcome

b_in_minute_one : OneResult b_in_minute.Post
b_in_minute_one κs a r r' s s' = one_outcome

b_is_before_one : OneResult b_is_before.Post
b_is_before_one κs a r r' s s' = one_outcome

a_moment_one : OneResult a_moment.Post
a_moment_one κs a r r' s s' = one_outcome

b_moment_one : OneResult b_moment.Post
b_moment_one κs a r r' s s' = one_outcome

a_standard_time_one : OneResult a_standard_time.Post
a_standard_time_one κs a r r' s s' = one_outcome
