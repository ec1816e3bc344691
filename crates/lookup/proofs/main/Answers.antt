-- `main` lends its spaces whole.
-- Their lengths are those of the repeats that they are made by: a law, since counting a million octets takes too long. Assumes nothing.
use Prim.Native.Nat.{ℕ}
use mathlib.Core.Path.{sym}
use lib.ListN.{length-replicate}
use Rattle.lookup.proofs.main.Goals as goal

pub slice_bounds-calls-end : goal.slice_bounds-calls-end
slice_bounds-calls-end c = sym (length-replicate {0} {A = ℕ} 1500004 0)

pub slice_bounds-calls-end-2 : goal.slice_bounds-calls-end-2
slice_bounds-calls-end-2 c = sym (length-replicate {0} {A = ℕ} 4096 0)

pub slice_bounds-calls-end-3 : goal.slice_bounds-calls-end-3
slice_bounds-calls-end-3 c = sym (length-replicate {0} {A = ℕ} 1500000 0)

pub slice_bounds-calls-end-4 : goal.slice_bounds-calls-end-4
slice_bounds-calls-end-4 c = sym (length-replicate {0} {A = ℕ} 1500000 0)
