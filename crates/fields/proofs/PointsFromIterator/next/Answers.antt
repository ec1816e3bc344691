-- `PointsFrom::next` yields the first point that is left: its address and password.
-- By whether a point stands there. Assumes nothing.
use Rattle.std.proofs.Common.{◌+◌, ◌<◌, length, arith}
use Rattle.records.specs.Records.{length_of}
use Rattle.fields.specs.Parts.{point_of, password_of}
use Rattle.fields.specs.working.Standing.{entries_from}
use Rattle.fields.proofs.Answers.{next_entry, no_entry, entry_room}
use Rattle.fields.proofs.PointsFromIterator.next.Goals as goal

pub returns-in_err-r-clause-steps : goal.returns-in_err-r-clause-steps
returns-in_err-r-clause-steps c = let e = no_entry _ _ c.in_err-r.ensures in rw c.from_residual.ensures (e, e)

pub overflow_add-self : goal.overflow_add-self
overflow_add-self c = omega (arith, entry_room _ _ _ c.in_ok-r.ensures)

pub number_at-requires : goal.number_at-requires
unfolding length_of
number_at-requires c = omega (arith, c.in_ok-r.ensures.size)

pub number_at-requires-2 : goal.number_at-requires-2
unfolding length_of
number_at-requires-2 c = omega (arith, c.in_ok-r.ensures.size)

pub returns-clause-steps : goal.returns-clause-steps
unfolding point_of password_of
returns-clause-steps c = rw (c.number_at.ensures, c.number_at-2.ensures) (next_entry _ _ _ c.in_ok-r.ensures)

pub returns-clause-goes : goal.returns-clause-goes
returns-clause-goes c =
    let s = c.args.self.now in
    let later : length (entries_from s.image.now (s.at + 9)) < length (entries_from s.image.now s.at) = rw (next_entry _ _ _ c.in_ok-r.ensures) (omega arith) in
    grind (arith, later)

pub of_kind-requires : goal.of_kind-requires
unfolding length_of
of_kind-requires c = omega arith
