-- Octets that are kept: adding part after part keeps all parts, and what is kept is what was put in.
-- By the laws of `over`. Assumes nothing.
use Rattle.std.proofs.Common.{◌≡◌, ℕ, true, false, ◌+◌, ◌<◌, ◌≤◌, List, ◌++◌, length, drop, replicate, refl, arith, length-append, take_at, le-leb}
use borrow.Author.Tests.{lt-leb, leb-true}
use lib.ListN.{length-replicate}
use Rattle.octets.specs.Over.{over}
use Rattle.octets.proofs.Over.{over_after, over_first}
use Rattle.octets.specs.declared.Kept.{Kept}
use Rattle.octets.specs.Keeping.{octets_of, kept_of}
use Rattle.octets.specs.Calls.{fits_at, put_into, added}

-- what fits, and what does not
module _ (k : Kept) (top : List ℕ) where
  pub added_fits : k.length + length top ≤ 252 → added k top ≡ record { octets = over k.octets k.length top; length = k.length + length top }
  unfolding added
  added_fits fits = rw (le-leb (k.length + length top) 252 fits)

  pub added_not : 252 < k.length + length top → added k top ≡ k
  unfolding added
  added_not long = rw (lt-leb (k.length + length top) 252 long)

  -- what fits by the array's length
  pub put_fits_in : length k.octets ≡ 252 → fits_at k.octets k.length top ≡ true → k.length + length top ≤ 252
  unfolding fits_at
  put_fits_in e t = omega (arith, leb-true, rw e at t)

  -- what a call that writes behind them leaves
  pub put_more : length k.octets ≡ 252 → fits_at k.octets k.length top ≡ true
      → record { octets = put_into k.octets k.length top; length = k.length + length top } ≡ added k top
  unfolding added fits_at
  put_more e t = rw (t, rw e at t)

  pub put_none : length k.octets ≡ 252 → fits_at k.octets k.length top ≡ false → record { octets = put_into k.octets k.length top; length = k.length } ≡ added k top
  unfolding added fits_at
  put_none e t = rw (t, rw e at t)

-- part after part, from none on
pub added_more : (xs ys : List ℕ) → length xs + length ys ≤ 252 → added (kept_of xs) ys ≡ kept_of (xs ++ ys)
unfolding added kept_of
added_more xs ys fits =
    let zeros : List ℕ = replicate 252 0 in
    let room : 0 + length xs + length ys ≤ length zeros = omega (arith, length-replicate {A = ℕ} 252 0) in
    let back : length xs ≡ 0 + length xs = omega arith in
    rw (le-leb (length xs + length ys) 252 fits, over_after zeros 0 xs ys (length xs) back room, length-append xs ys)

-- the octets that count are those that were kept
pub octets_back : (xs : List ℕ) → octets_of (kept_of xs) ≡ xs
unfolding octets_of kept_of
octets_back xs = rw (over_first (replicate 252 0) xs) (take_at xs (drop (length xs) (replicate 252 0)) (length xs) refl)
