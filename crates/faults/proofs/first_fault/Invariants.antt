-- `first_fault` answers the first fault of an image's records, or of their end.
-- The loop's invariant: the first fault from here on, given the records passed, is the first. Assumes nothing.
use Prim.Native.Nat.{◌-◌}
use lib.ListN.{length}
use Rattle.faults.specs.working.Walking.{Standing}
use Rattle.faults.proofs.first_fault.Given as goal

abbrev pub invariant-loop-rule : goal.invariant-loop-rule
invariant-loop-rule l = Standing l.image l.walk

abbrev pub decreases-loop-rule : goal.decreases-loop-rule
decreases-loop-rule l = length l.image - l.walk.at
