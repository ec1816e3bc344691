-- The entries of octets laid one after the other are these octets; and entries laid one after the other, each as long as it says, are found again.
-- By recursion on the walk, and on the entries. Assumes nothing.
use Prim.Native.Nat.{ℕ, zero, suc, ◌+◌, ◌≤◌, ◌<◌}
use mathlib.Core.List.{List, [], ◌∷◌, ◌++◌, flatten}
use mathlib.Core.Path.{◌≡◌, refl, ap, ◌∙◌}
use native.Mathlib.Omega.{arith}
use lib.ListN.{length, get_or, take, drop, length-append, length-take, length-drop, take-append-drop, get_or-append}
use lib.Seq.{take_at, drop_at, get_or-take}
use Rattle.names.specs.Book.{size_of, walk, entries}
use Rattle.names.proofs.Standing.{entries_none, entries_some}

laid_walk : (most : ℕ) (s : List ℕ) → length s ≤ most → flatten (walk most s) ≡ s
unfolding walk flatten
laid_walk zero [] h = refl
laid_walk zero (x ∷ s) h = absurd (omega arith)
laid_walk (suc most) [] h = refl
laid_walk (suc most) (x ∷ s) h =
    ap (take (size_of (x ∷ s)) (x ∷ s) ++◌) (laid_walk most (drop (size_of (x ∷ s)) (x ∷ s)) (omega (arith, length-drop (size_of (x ∷ s)) (x ∷ s))))
    ∙ take-append-drop (size_of (x ∷ s)) (x ∷ s)

pub laid_again : (s : List ℕ) → flatten (entries s) ≡ s
unfolding entries
laid_again s = laid_walk (length s) s (omega arith)

-- an entry is no longer than it says
short_walk : (most : ℕ) (s : List ℕ) (n : ℕ) → length (get_or (walk most s) n []) ≤ size_of (get_or (walk most s) n [])
unfolding walk
short_walk zero s n = omega arith
short_walk (suc most) [] n = omega arith
short_walk (suc most) (x ∷ s) zero =
    omega (arith, length-take (size_of (x ∷ s)) (x ∷ s), get_or-take (size_of (x ∷ s)) (x ∷ s) 2 0 (omega arith))
short_walk (suc most) (x ∷ s) (suc n) = short_walk most (drop (size_of (x ∷ s)) (x ∷ s)) n

pub no_longer : (s : List ℕ) (n : ℕ) → length (get_or (entries s) n []) ≤ size_of (get_or (entries s) n [])
unfolding entries
no_longer s n = short_walk (length s) s n

-- and as long as it says, where another follows
some_left : (most : ℕ) (s : List ℕ) → 0 < length (walk most s) → 0 < length s
unfolding walk
some_left zero s h = absurd (omega arith)
some_left (suc most) [] h = absurd (omega arith)
some_left (suc most) (x ∷ s) h = omega arith

whole_walk : (most : ℕ) (s : List ℕ) (n : ℕ) → n + 1 < length (walk most s) → length (get_or (walk most s) n []) ≡ size_of (get_or (walk most s) n [])
unfolding walk
whole_walk zero s n h = absurd (omega arith)
whole_walk (suc most) [] n h = absurd (omega arith)
whole_walk (suc most) (x ∷ s) zero h =
    let size = size_of (x ∷ s) in
    let left = some_left most (drop size (x ∷ s)) (omega arith) in
    omega (arith, left, length-drop size (x ∷ s), length-take size (x ∷ s), get_or-take size (x ∷ s) 2 0 (omega arith))
whole_walk (suc most) (x ∷ s) (suc n) h = whole_walk most (drop (size_of (x ∷ s)) (x ∷ s)) n (omega arith)

pub whole_but_last : (s : List ℕ) (n : ℕ) → n + 1 < length (entries s) → length (get_or (entries s) n []) ≡ size_of (get_or (entries s) n [])
unfolding entries
whole_but_last s n h = whole_walk (length s) s n h

-- entries found again
first_laid : (e rest : List ℕ) → length e ≡ size_of e → entries (e ++ rest) ≡ e ∷ entries rest
first_laid e rest w =
    let size : size_of (e ++ rest) ≡ size_of e = ap (3 +◌) (get_or-append e rest 0 2 (omega arith)) in
    entries_some (e ++ rest) (omega (arith, length-append e rest)) ∙ rw (size, take_at e rest (size_of e) w, drop_at e rest (size_of e) w)

pub found_again : (es : List (List ℕ)) → ((n : ℕ) → n < length es → length (get_or es n []) ≡ size_of (get_or es n [])) → entries (flatten es) ≡ es
unfolding flatten
found_again [] w = entries_none
found_again (e ∷ es) w = first_laid e (flatten es) (w 0 (omega arith)) ∙ ap (e ∷◌) (found_again es (λ n h. w (suc n) (omega arith)))
