-- The lengths and the clock of an input.
-- A leading zero adds nothing; seven octets at most are put over seven zeros. Assumes nothing.
use Prim.Native.Nat.{ℕ, ◌+◌, ◌≤◌}
use mathlib.Core.Bool.{Bool}
use mathlib.Core.List.{List, [], ◌∷◌}
use mathlib.Core.Path.{◌≡◌, refl}
use native.Mathlib.Omega.{arith}
use lib.ListN.{length, take, drop, replicate, length-take}
use Rattle.octets.specs.Numbers.{low_first, high_first}
use Rattle.octets.proofs.Over.{Put, put_fits}
use Rattle.input.specs.Input.{clock_at}

pub high_zero : (a b d : ℕ) → high_first (0 ∷ a ∷ b ∷ d ∷ []) ≡ high_first (a ∷ b ∷ d ∷ [])
unfolding high_first low_first
high_zero a b d = refl

pub clock_is : (read : List ℕ) (at : ℕ) {top clock : List ℕ} {done : Bool} → top ≡ take 7 (drop at read)
    → Put (replicate 7 0) 0 top done clock → clock ≡ clock_at read at
unfolding clock_at
clock_is read at e p =
    let fits : 0 + length (take 7 (drop at read)) ≤ 7 = omega (arith, length-take 7 (drop at read)) in
    put_fits _ _ _ (rw e at p) fits
