-- `image::is_orderly` answers whether each record is right, neighbours are in order, the points named are known, and records reach the end.
-- The loop's invariant: what is left of the test from here on, behind the last key, is the whole test. Assumes nothing.
use Prim.Native.Nat.{◌-◌}
use mathlib.Core.Path.{◌≡◌}
use lib.ListN.{length}
use Rattle.records.specs.Records.{place_after}
use Rattle.image.specs.working.Keys.{orderly, left}
use Rattle.image.proofs.is_orderly.Given as goal

abbrev pub invariant-loop-walk : goal.invariant-loop-walk
invariant-loop-walk l = (l.next ≡ place_after l.image l.walk.at) × (left l.image l.walk.at l.walk.last ≡ orderly l.image)

abbrev pub decreases-loop-walk : goal.decreases-loop-walk
decreases-loop-walk l = length l.image - l.walk.at
