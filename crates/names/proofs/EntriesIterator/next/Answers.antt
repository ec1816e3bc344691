-- `Entries::next` yields the first entry that is left, or its fault.
-- By whether an entry is left, and by what is wrong with it. Assumes nothing.
use Rattle.std.proofs.Common.{◌+◌, ◌<◌, length, arith}
use Rattle.names.specs.working.Pass.{entries_from, judged}
use Rattle.names.proofs.Turns.{judged_end, judged_fault, judged_more, entry_room}
use Rattle.names.proofs.EntriesIterator.next.Goals as goal

pub returns-then-book-at-clause-steps : goal.returns-then-book-at-clause-steps
returns-then-book-at-clause-steps c = let e = judged_end _ _ _ _ c.if-book-at.true in (e, e)

pub overflow_add-self : goal.overflow_add-self
overflow_add-self c = let room = entry_room _ _ _ _ c.if-book-at.false c.in-Ok.ensures in omega (arith, room.1)

pub invariant_of-self : goal.invariant_of-self
invariant_of-self c =
    let room = entry_room _ _ _ _ c.if-book-at.false c.in-Ok.ensures in
    record { counted = omega (arith, room.0, c.args.self.now.counted) }

pub returns-in-Ok-clause-steps : goal.returns-in-Ok-clause-steps
returns-in-Ok-clause-steps c = judged_more _ _ _ _ c.if-book-at.false c.in-Ok.ensures

pub returns-in-Ok-clause-goes : goal.returns-in-Ok-clause-goes
returns-in-Ok-clause-goes c =
    let s = c.args.self.now in
    let entry = c.in-Ok.entry in
    let after = entry.place.at + entry.place.many in
    let later : length (judged (s.number + 1) after entry.code (entries_from s.book.now after)) < length (judged s.number s.at s.before (entries_from s.book.now s.at)) =
    rw (judged_more s.book.now s.at s.number s.before c.if-book-at.false c.in-Ok.ensures) (omega arith) in
    grind (arith, later)

pub returns-in-Err-clause-steps : goal.returns-in-Err-clause-steps
returns-in-Err-clause-steps c =
    let s = c.args.self.now in
    rw (judged_fault s.book.now s.at s.number s.before c.if-book-at.false c.in-Err.ensures, judged_end s.book.now (length s.book.now) s.number s.before (omega arith))

pub returns-in-Err-clause-goes : goal.returns-in-Err-clause-goes
returns-in-Err-clause-goes c =
    let s = c.args.self.now in
    let later : length (judged s.number (length s.book.now) s.before (entries_from s.book.now (length s.book.now)))
    < length (judged s.number s.at s.before (entries_from s.book.now s.at)) =
    rw (judged_fault s.book.now s.at s.number s.before c.if-book-at.false c.in-Err.ensures, judged_end s.book.now (length s.book.now) s.number s.before (omega arith)) (omega arith) in
    grind (arith, later)
