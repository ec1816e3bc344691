-- `gathered` answers up to 27 events' octets, and how many events these are.
-- The loop's invariant: so many of those left are gathered, and the next is found. Assumes nothing.
use Rattle.data.proofs.Portions.{Gathered}
use Rattle.data.proofs.gathered.Given as goal

abbrev pub invariant-loop-many : goal.invariant-loop-many
invariant-loop-many l = Gathered l.query l.image l.before l.message l.many l.found
