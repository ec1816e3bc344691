-- Every public contract of this crate leaves one outcome.
-- By its one equation. Assumes nothing.
use Rattle.octets.proofs.Outcome.{OneResult, OneReading, one_outcome}
use Rattle.names.specs.working.Pass.{entries_from, judged}
use Rattle.names.proofs.Code.of_event.Reads as of_event
use Rattle.names.proofs.Fault.number.Reads as number
use Rattle.names.proofs.Which.number.Reads as book_number
use Rattle.names.proofs.check.Reads as check
use Rattle.names.proofs.look_up.Reads as look_up
use Rattle.names.proofs.name_at.Reads as name_at
use Rattle.names.proofs.name.Reads as name
use Rattle.names.proofs.entries_of.Reads as entries_of

of_event_one : OneResult of_event.Post
of_event_one κs a r r' s s' = one_outcome

number_one : OneResult number.Post
number_one κs a r r' s s' = one_outcome

book_number_one : OneResult book_number.Post
book_number_one κs a r r' s s' = one_outcome

check_one : OneResult check.Post
check_one κs a r r' s s' = one_outcome

look_up_one : OneResult look_up.Post
look_up_one κs a r r' s s' = one_outcome

name_at_one : OneReading (λ κs r. r.now) name_at.Post
name_at_one κs a r r' s s' = one_outcome

name_one : OneReading (λ κs r. r.now) name.Post
name_one κs a r r' s s' = one_outcome

-- which entries an iterator has left
entries_of_one : OneReading (λ κs r. judged r.number r.at r.before (entries_from r.book.now r.at)) entries_of.Post
entries_of_one κs a r r' s s' e f = rw (e.0, e.1, e.2, e.3, f.0, f.1, f.2, f.3)
