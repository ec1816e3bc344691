-- The entries of any octets: none at the end, else the one that stands there and those behind it; its parts, its length, its fault.
-- By recursion on the number that bounds the walk: as many turns as there are octets are enough. Assumes nothing.
use Prim.Native.Nat.{ℕ, zero, suc, ◌+◌, ◌-◌, ◌≤◌, ◌<◌}
use mathlib.Core.Bool.{Bool, true, false, not}
use mathlib.Core.List.{List, [], ◌∷◌}
use mathlib.Core.Path.{◌≡◌, refl, sym, ap, ◌∙◌}
use native.Mathlib.Omega.{arith}
use borrow.Author.Tests.{lt-ltb, le-ltb, leb-true, leb-false}
use lib.Dec.{ltb, leb, eqb}
use lib.ListN.{length, get_or, take, drop, length-take, length-drop, drop_of_length-le}
use lib.Seq.{drop-drop, get_or-drop, get_or-take, length-take-le, take-nil}
use Rattle.octets.specs.Choice.{when◌then◌else◌}
use Rattle.names.specs.declared.Code.{Code}
use Rattle.names.specs.declared.Fault.TheVariants.{Cut, Name, Order}
use Rattle.std.specs.Prelude.{Option, Some, None}
use Rattle.names.specs.Codes.{code}
use Rattle.names.specs.Book.{code_of, length_of, size_of, name_of, walk, entries, in_order, fault_of}
use Rattle.names.specs.working.Pass.{entry_at, entries_from}

-- something is not nothing
pub some_none : {A : Type 0} {x : A} → ◌≡◌ {A = Option A} (Some x) None → ⊥
some_none e = cc

pub enough : (m n : ℕ) (s : List ℕ) → length s ≤ m → length s ≤ n → walk m s ≡ walk n s
unfolding walk
enough zero zero s h k = refl
enough zero (suc n) [] h k = refl
enough zero (suc n) (x ∷ s) h k = absurd (omega arith)
enough (suc m) zero [] h k = refl
enough (suc m) zero (x ∷ s) h k = absurd (omega arith)
enough (suc m) (suc n) [] h k = refl
enough (suc m) (suc n) (x ∷ s) h k =
    let shorter = length-drop (size_of (x ∷ s)) (x ∷ s) in
    ap (take (size_of (x ∷ s)) (x ∷ s) ∷◌) (enough m n (drop (size_of (x ∷ s)) (x ∷ s)) (omega arith) (omega arith))

pub entries_none : entries [] ≡ []
unfolding entries walk
entries_none = refl

pub entries_some : (s : List ℕ) → 0 < length s → entries s ≡ take (size_of s) s ∷ entries (drop (size_of s) s)
unfolding entries walk
entries_some [] h = absurd (omega arith)
entries_some (x ∷ s) h =
    let rest = drop (size_of (x ∷ s)) (x ∷ s) in
    ap (take (size_of (x ∷ s)) (x ∷ s) ∷◌) (enough (length s) (length rest) rest (omega (arith, length-drop (size_of (x ∷ s)) (x ∷ s))) (omega arith))

drop_take : (k n : ℕ) (l : List ℕ) → drop k (take n l) ≡ take (n - k) (drop k l)
drop_take zero n l = let e : n - 0 ≡ n = omega arith in rw e
drop_take (suc k) zero l = let e : 0 - suc k ≡ 0 = omega arith in rw e
drop_take (suc k) (suc n) [] = sym (take-nil (suc n - suc k))
drop_take (suc k) (suc n) (x ∷ l) = let e : suc n - suc k ≡ n - k = omega arith in rw e (drop_take k n l)

module _ (s : List ℕ) (at : ℕ) where
  pub entries_end : length s ≤ at → entries_from s at ≡ []
  unfolding entries_from
  entries_end h = rw (drop_of_length-le s h) entries_none

  -- its three octets in front of the name
  octet_of : (k : ℕ) → k < 3 → get_or (entry_at s at) k 0 ≡ get_or s (at + k) 0
  unfolding entry_at
  octet_of k h = get_or-take (size_of (drop at s)) (drop at s) k 0 (omega arith) ∙ get_or-drop at s k 0

  pub length_of_law : length_of (entry_at s at) ≡ get_or s (at + 2) 0
  length_of_law = octet_of 2 (omega arith)

  pub code_of_law : code_of (entry_at s at) ≡ code (get_or s at 0) (get_or s (at + 1) 0)
  unfolding code_of
  code_of_law = let e : at + 0 ≡ at = omega arith in rw (octet_of 0 (omega arith), octet_of 1 (omega arith), e)

  said : length_of (drop at s) ≡ get_or s (at + 2) 0
  said = get_or-drop at s 2 0

  pub entries_more : at < length s → entries_from s at ≡ entry_at s at ∷ entries_from s (at + size_of (entry_at s at))
  unfolding entries_from entry_at
  entries_more h =
      let size : size_of (take (size_of (drop at s)) (drop at s)) ≡ size_of (drop at s) = ap (3 +◌) (get_or-take (size_of (drop at s)) (drop at s) 2 0 (omega arith)) in
      rw (size, ← (drop-drop (size_of (drop at s)) at s)) (entries_some (drop at s) (omega (arith, length-drop at s)))

  -- its name is a part of the octets
  pub name_there : name_of (entry_at s at) ≡ take (get_or s (at + 2) 0) (drop (at + 3) s)
  unfolding name_of entry_at
  name_there =
      let less : 3 + get_or s (at + 2) 0 - 3 ≡ get_or s (at + 2) 0 = omega arith in
      rw (said, drop_take 3 (3 + get_or s (at + 2) 0) (drop at s), less, drop-drop 3 at s)

  -- its length: no more than there are octets, and what it says where they are there
  pub entry_most : length (entry_at s at) ≤ length s - at
  unfolding entry_at
  entry_most = simp (length-take, length-drop) (omega arith)

  entry_whole : at + 3 + get_or s (at + 2) 0 ≤ length s → length (entry_at s at) ≡ 3 + get_or s (at + 2) 0
  unfolding entry_at
  entry_whole h = rw said (length-take-le (3 + get_or s (at + 2) 0) (drop at s) (omega (arith, length-drop at s)))

  -- its fault: cut, or by its length and its code
  module _ (number : ℕ) (before : Code) where
    pub fault_cut : at ≤ length s → length s < at + 3 + get_or s (at + 2) 0 → fault_of number before (entry_at s at) ≡ Some Cut
    unfolding fault_of
    fault_cut h k = rw (lt-ltb (length (entry_at s at)) (size_of (entry_at s at)) (omega (arith, entry_most, length_of_law)))

    pub fault_fits : at + 3 + get_or s (at + 2) 0 ≤ length s
        → fault_of number before (entry_at s at)
        ≡ (when eqb (get_or s (at + 2) 0) 0 then Some Name else when ltb 40 (get_or s (at + 2) 0) then Some Name else when not (in_order number before (code_of (entry_at s at))) then Some Order else None)
    unfolding fault_of
    fault_fits h = rw (le-ltb (length (entry_at s at)) (size_of (entry_at s at)) (omega (arith, entry_whole h, length_of_law)), length_of_law)

    pub fault_none : at ≤ length s → fault_of number before (entry_at s at) ≡ None → at + 3 + get_or s (at + 2) 0 ≤ length s
    fault_none h e = by_test (leb (at + 3 + get_or s (at + 2) 0) (length s)) refl
      where
        by_test : (t : Bool) → leb (at + 3 + get_or s (at + 2) 0) (length s) ≡ t → at + 3 + get_or s (at + 2) 0 ≤ length s
        by_test true f = leb-true _ _ f
        by_test false f = let cut = sym (fault_cut h (leb-false _ _ f)) ∙ e in absurd (some_none cut)
