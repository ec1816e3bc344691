-- `PlacesFrom::next` yields the first place that is left. By whether a record stands there. Assumes nothing.
use Rattle.std.proofs.Common.{arith, ◌+◌, ◌<◌, length}
use Rattle.records.specs.Said.{places_behind}
use Rattle.records.proofs.Records.{after_whole, after_within}
use Rattle.records.proofs.Said.{places_behind_end, places_behind_more}
use Rattle.records.proofs.PlacesFromIterator.next.Goals as goal

pub returns-in_err-whole-clause-steps : goal.returns-in_err-whole-clause-steps
returns-in_err-whole-clause-steps c = let e = places_behind_end _ _ (c.in_err-whole.ensures) in rw c.from_residual.ensures (e, e)

pub overflow_add-self : goal.overflow_add-self
overflow_add-self c =
    let w = c.in_ok-whole.ensures in
    rw w.1 (let h = after_within _ _ w.0 in omega (arith, after_whole _ _ w.0))

pub returns-clause-steps : goal.returns-clause-steps
returns-clause-steps c = places_behind_more _ _ (c.in_ok-whole.ensures)

pub returns-clause-goes : goal.returns-clause-goes
returns-clause-goes c =
    let it = c.args.self.now in
    let later : length (places_behind it.octets.now (it.at + length c.in_ok-whole.whole.now)) < length (places_behind it.octets.now it.at) =
    rw (places_behind_more it.octets.now it.at (c.in_ok-whole.ensures)) (omega arith) in
    grind (arith, later)
