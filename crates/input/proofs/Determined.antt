-- Every public contract of this crate leaves one outcome.
-- By its one equation. Assumes nothing.
use Rattle.octets.proofs.Outcome.{OneResult, OneReading, one_outcome}
use Rattle.input.proofs.length_of_2.Reads as length_of_2
use Rattle.input.proofs.clock_at.Reads as clock_at
use Rattle.input.proofs.head_size.Reads as head_size
use Rattle.input.proofs.image_in.Reads as image_in
use Rattle.input.proofs.clock_in.Reads as clock_in
use Rattle.input.proofs.judge_head.Reads as judge_head
use Rattle.input.proofs.run_size.Reads as run_size
use Rattle.input.proofs.judge_run.Reads as judge_run
use Rattle.input.proofs.call_size.Reads as call_size
use Rattle.input.proofs.judge_call.Reads as judge_call

image_in_one : OneReading (λ κs r. r.now) image_in.Post
image_in_one κs a r r' s s' = one_outcome

length_of_2_one : OneResult length_of_2.Post
length_of_2_one κs a r r' s s' = one_outcome

clock_at_one : OneResult clock_at.Post
clock_at_one κs a r r' s s' = one_outcome

head_size_one : OneResult head_size.Post
head_size_one κs a r r' s s' = one_outcome

clock_in_one : OneResult clock_in.Post
clock_in_one κs a r r' s s' = one_outcome

judge_head_one : OneResult judge_head.Post
judge_head_one κs a r r' s s' = one_outcome

run_size_one : OneResult run_size.Post
run_size_one κs a r r' s s' = one_outcome

judge_run_one : OneResult judge_run.Post
judge_run_one κs a r r' s s' = one_outcome

call_size_one : OneResult call_size.Post
call_size_one κs a r r' s s' = one_outcome

judge_call_one : OneResult judge_call.Post
judge_call_one κs a r r' s s' = one_outcome
