-- `put_line` writes a line for which there is room.
-- The loop's invariant: the head and the pairs of the octets so far are put. Assumes nothing.
use Rattle.std.proofs.Common.{take, append-nil, length-append, rules, arith}
use lib.Seq.{take_all}
use Rattle.printing.specs.Text.{pairs}
use Rattle.printing.proofs.Text.{pairs_room}
use Rattle.printing.proofs.Lines.{behind, pair_behind, kept_length}
use Rattle.printing.proofs.put_line.Goals as goal

pub loop-octet-init : goal.loop-octet-init
unfolding pairs
loop-octet-init c = (kept_length c.put_part-end.ensures, rw append-nil c.put_part-end.ensures)

pub put_part-end-requires-in-loop-octet : goal.put_part-end-requires-in-loop-octet
put_part-end-requires-in-loop-octet c =
    let a = c.args in
    let l = c.loop-octet in
    omega (arith, l.invariant.0, l.invariant.1.ends, c.requires, pairs_room a.before.now a.octets.now l.octet-index (search rules), length-append a.head.now (pairs a.before.now (take l.octet-index a.octets.now)))

pub put_part-end-requires-in-loop-octet-2 : goal.put_part-end-requires-in-loop-octet-2
put_part-end-requires-in-loop-octet-2 c =
    let a = c.args in
    let l = c.loop-octet in
    let same = kept_length c.put_part-end-in-loop-octet.ensures in
    omega (arith, same, l.invariant.0, l.invariant.1.ends, c.put_part-end-in-loop-octet.ensures.ends, c.requires, pairs_room a.before.now a.octets.now l.octet-index (search rules), length-append a.head.now (pairs a.before.now (take l.octet-index a.octets.now)))

pub loop-octet-preserved : goal.loop-octet-preserved
loop-octet-preserved c =
    let a = c.args in
    let l = c.loop-octet in
    let two = rw c.pair.ensures at (behind c.put_part-end-in-loop-octet.ensures c.put_part-end-in-loop-octet-2.ensures) in
    let whole = pair_behind a.head.now a.before.now a.octets.now l.octet-index (search rules) l.invariant.1 two in
    (kept_length whole, whole)

pub returns : goal.returns
returns c =
    let a = c.args in
    let l = c.loop-octet in
    let all = take_all l.octet-index a.octets.now (search rules) in
    rw all at (behind l.invariant.1 c.put_part.ensures)
