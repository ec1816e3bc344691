-- `put_line` writes a line for which there is room.
-- The loop's invariant: the head and the pairs of the octets so far are put. Assumes nothing.
use Rattle.std.proofs.Common.{◌≡◌, ◌++◌, length, take}
use Rattle.printing.specs.Text.{pairs}
use Rattle.printing.specs.Line.{PutAt}
use Rattle.printing.proofs.put_line.Given as goal

abbrev pub invariant-loop-octet : goal.invariant-loop-octet
invariant-loop-octet l =
    (length l.out ≡ length l.fn.out) × PutAt l.fn.out 0 (l.head ++ pairs l.before (take l.octet-index l.octets)) l.end l.out
