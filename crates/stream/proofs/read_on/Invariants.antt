-- `read_on` reads behind the first so many octets, which stay, until enough stand there.
-- The loop's invariant: the octets that were there stand first, and what was read is in the space. Assumes nothing.
use Prim.Native.Nat.{◌≤◌, ◌-◌}
use lib.ListN.{length}
use Rattle.stream.specs.Window.{Kept}
use Rattle.stream.proofs.read_on.Given as goal

abbrev pub invariant-loop-have : goal.invariant-loop-have
invariant-loop-have l =
    (l.had ≤ l.have) × (l.have ≤ length l.space) × Kept l.had l.initial.space l.space

abbrev pub decreases-loop-have : goal.decreases-loop-have
decreases-loop-have l = length l.initial.space - l.have
