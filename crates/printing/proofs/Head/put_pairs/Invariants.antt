-- `Head::put_pairs` puts the pairs of some octets behind what stands.
-- The loop's invariant: where there is room, those of the octets so far are put. Assumes nothing.
use Rattle.std.proofs.Common.{◌≡◌, ◌+◌, ◌*◌, ◌≤◌, [], ◌++◌, length, take}
use Rattle.printing.specs.Text.{pairs}
use Rattle.printing.proofs.Head.put_pairs.Given as goal

abbrev pub invariant-loop-octet : goal.invariant-loop-octet
invariant-loop-octet l = length l.fn.self + 2 * length l.octets ≤ 96 → l.self ≡ l.fn.self ++ pairs [] (take l.octet-index l.octets)
