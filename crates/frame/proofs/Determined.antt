-- Every public contract of this crate leaves one outcome.
-- By its one equation; of `judge`, since number and values determine an answer. Assumes nothing.
use Rattle.octets.proofs.Outcome.{OneResult, OneOutcome, OneReading, one_outcome, does_one}
use Rattle.frame.proofs.Judging.{judged_one}
use Rattle.frame.proofs.judge.Reads as judge
use Rattle.frame.proofs.user.Reads as user
use Rattle.frame.proofs.service_of.Reads as service_of
use Rattle.frame.proofs.Reply.plain.Reads as plain
use Rattle.frame.proofs.Fault.number.Reads as fault_number
use Rattle.frame.proofs.write.Reads as write

judge_one : OneResult judge.Post
judge_one κs a r r' s s' p q = judged_one (one_outcome p q)

user_one : OneReading (λ κs r. r.now) user.Post
user_one κs a r r' s s' = one_outcome

service_of_one : OneResult service_of.Post
service_of_one κs a r r' s s' = one_outcome

write_one : OneOutcome (λ κs s. s.0.now) write.Post
write_one κs a r r' s s' = does_one

plain_one : OneResult plain.Post
plain_one κs a r r' s s' = one_outcome

fault_number_one : OneResult fault_number.Post
fault_number_one κs a r r' s s' = one_outcome
