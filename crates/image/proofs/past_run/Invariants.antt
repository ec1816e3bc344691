-- `past_run` answers how far the records of a kind behind a record fit.
-- The loop's invariant: what is left of the test from here on, behind the last key, is what was left at the start. Assumes nothing.
use Prim.Native.Nat.{◌-◌}
use lib.ListN.{length}
use Rattle.image.proofs.Runs.{Stood}
use Rattle.image.proofs.past_run.Given as goal

abbrev pub invariant-loop-key : goal.invariant-loop-key
invariant-loop-key g l = Stood g.S.Series.kind l.image l.fn.from l.walk l.minute

abbrev pub decreases-loop-key : goal.decreases-loop-key
decreases-loop-key g l = length l.image - l.walk.at
