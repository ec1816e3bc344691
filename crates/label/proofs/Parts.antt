-- Comparing by parts, the first that differs deciding: what the first parts decide and what they leave to the last ones, and that parts of which neither are earlier
-- are the same. By recursion on the parts. Assumes nothing.
use Prim.Native.Nat.{ℕ, ◌≤◌, ◌<◌}
use mathlib.Core.Bool.{Bool, true, false}
use mathlib.Core.List.{List, [], ◌∷◌, ◌++◌}
use mathlib.Core.Path.{◌≡◌, refl, sym, ap₂}
use native.Mathlib.Omega.{arith}
use borrow.Author.Tests.{eqb-true, eqb-false, ltb-true, ltb-false, eq-eqb, ne_eqb, lt-ltb, le-ltb}
use lib.Dec.{ltb, eqb}
use lib.ListN.{length}
use Rattle.octets.specs.Choice.{when◌then◌else◌}
use Rattle.octets.proofs.Choice.{not_both}
use Rattle.label.specs.Standard.{earlier}

-- one part of a comparison: it decides the order of two numbers, or the rest does
pub part_decides : (x y n m : ℕ) (rest : Bool) → (x < y → n < m) → (y < x → m < n) → (x ≡ y → rest ≡ ltb n m) → (when eqb x y then rest else ltb x y) ≡ ltb n m
part_decides x y n m rest up down same = by_tests (eqb x y) (ltb x y) refl refl
  where
    by_tests : (t u : Bool) → eqb x y ≡ t → ltb x y ≡ u → (when t then rest else u) ≡ ltb n m
    by_tests true u e f = same (eqb-true x y e)
    by_tests false true e f = sym (lt-ltb n m (up (ltb-true x y f)))
    by_tests false false e f =
        let other : x ≡ y → ⊥ = eqb-false x y e in
        let least : y ≤ x = ltb-false x y f in
        sym (le-ltb n m (omega (arith, down (omega arith))))

-- two numbers side by side
data Ranked (x y : ℕ) : Type 0 where
  lower : x < y → Ranked x y
  level : x ≡ y → Ranked x y
  higher : y < x → Ranked x y

ranked : (x y : ℕ) → Ranked x y
ranked x y = by_tests (ltb x y) (ltb y x) refl refl
  where
    by_tests : (t u : Bool) → ltb x y ≡ t → ltb y x ≡ u → Ranked x y
    by_tests true u e f = lower (ltb-true x y e)
    by_tests false true e f = higher (ltb-true y x f)
    by_tests false false e f =
        let least : y ≤ x = ltb-false x y e in
        let most : x ≤ y = ltb-false y x f in
        level (omega arith)

-- neither is earlier: the parts are the same
pub neither : (xs ys : List ℕ) → length xs ≡ length ys → earlier xs ys ≡ false → earlier ys xs ≡ false → xs ≡ ys
unfolding earlier
neither [] [] n e f = refl
neither [] (y ∷ ys) n e f = absurd (omega arith)
neither (x ∷ xs) [] n e f = absurd (omega arith)
neither (x ∷ xs) (y ∷ ys) n e f = by_heads (ranked x y) (neither xs ys (omega arith))
  where
    by_heads : Ranked x y → (earlier xs ys ≡ false → earlier ys xs ≡ false → xs ≡ ys) → x ∷ xs ≡ y ∷ ys
    by_heads (lower h) i = absurd (not_both e (simp (ne_eqb x y (λ p. omega arith)) (lt-ltb x y h)))
    by_heads (level p) i = ap₂ (λ (z : ℕ) (zs : List ℕ). z ∷ zs) p (i (simp (eq-eqb x y p) at e) (simp (eq-eqb y x (sym p)) at f))
    by_heads (higher h) i = absurd (not_both f (simp (ne_eqb y x (λ p. omega arith)) (lt-ltb y x h)))

-- the first parts decide, or the last ones do
pub earlier_append : (xs ys us vs : List ℕ) → length xs ≡ length ys
    → earlier (xs ++ us) (ys ++ vs) ≡ (when earlier xs ys then true else when earlier ys xs then false else earlier us vs)
unfolding earlier
earlier_append [] [] us vs n = refl
earlier_append [] (y ∷ ys) us vs n = absurd (omega arith)
earlier_append (x ∷ xs) [] us vs n = absurd (omega arith)
earlier_append (x ∷ xs) (y ∷ ys) us vs n = by_heads (ranked x y) (earlier_append xs ys us vs (omega arith))
  where
    by_heads : Ranked x y → earlier (xs ++ us) (ys ++ vs) ≡ (when earlier xs ys then true else when earlier ys xs then false else earlier us vs)
        → earlier (x ∷ xs ++ us) (y ∷ ys ++ vs) ≡ (when earlier (x ∷ xs) (y ∷ ys) then true else when earlier (y ∷ ys) (x ∷ xs) then false else earlier us vs)
    by_heads (lower h) i = simp (ne_eqb x y (λ p. omega arith), lt-ltb x y h)
    by_heads (level p) i = simp (eq-eqb x y p, eq-eqb y x (sym p)) i
    by_heads (higher h) i = simp (ne_eqb x y (λ p. omega arith), ne_eqb y x (λ p. omega arith), le-ltb x y (omega arith), lt-ltb y x h)
