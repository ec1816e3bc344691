-- `names::pass` comes to the check of a book and the place of a code's entry.
-- The loop's invariant: over the entries that are left, with what was found before, the pass comes to that over the whole book. Assumes nothing.
use mathlib.Core.Path.{◌≡◌}
use Rattle.names.specs.working.Pass.{entries_from, judged, pass_on, passed}
use Rattle.names.proofs.pass.Given as goal

abbrev pub invariant-loop-entry : goal.invariant-loop-entry
invariant-loop-entry l =
    let left = l.entry-iterator in
    pass_on l.wanted l.found (judged left.number left.at left.before (entries_from left.book.now left.at)) ≡ passed l.wanted l.book
