-- Every public contract of this crate leaves one outcome.
-- By its one equation. Assumes nothing.
use Rattle.octets.proofs.Outcome.{OneResult, one_outcome}
use Rattle.message.proofs.row_of.Reads as row_of
use Rattle.message.proofs.Header.read.Reads as header_read
use Rattle.message.proofs.Header.octets.Reads as header_octets
use Rattle.message.proofs.ObjectRange.are_offered.Reads as are_offered
use Rattle.message.proofs.Request.read.Reads as request_read
use Rattle.message.proofs.mirrored.Reads as mirrored

row_of_one : OneResult row_of.Post
row_of_one κs a r r' s s' = one_outcome

header_read_one : OneResult header_read.Post
header_read_one κs a r r' s s' = one_outcome

header_octets_one : OneResult header_octets.Post
header_octets_one κs a r r' s s' = one_outcome

are_offered_one : OneResult are_offered.Post
are_offered_one κs a r r' s s' = one_outcome

request_read_one : OneResult request_read.Post
request_read_one κs a r r' s s' = one_outcome

mirrored_one : OneResult mirrored.Post
mirrored_one κs a r r' s s' = one_outcome
