-- Records in groups: together they are the records in their order, all but the last are full, of 27 there are as few as that allows.
-- By the groups that are left when the first is taken. Assumes nothing.
use Prim.Native.Nat.{ℕ, zero, suc, ◌+◌, ◌/◌, ◌≤◌, ◌<◌}
use mathlib.Core.List.{List, [], ◌∷◌, ◌++◌, map, flatten}
use mathlib.Core.Path.{◌≡◌, refl, sym, ap, ◌∙◌}
use native.Mathlib.Omega.{arith}
use lib.ListN.{length, get_or, take, drop, length-take, length-drop, length-map, take-append-drop}
use Rattle.waiting.specs.Collected.{groups_of, in_groups}

-- groups of 1 + less records, when there may be as many groups as records
module _ (less : ℕ) where
  flat_of : (most : ℕ) (rs : List (List ℕ)) → length rs ≤ most → flatten (groups_of most (suc less) rs) ≡ rs
  unfolding groups_of flatten
  flat_of zero [] fits = refl
  flat_of zero (r ∷ rs) fits = absurd (omega (arith, fits))
  flat_of (suc most) [] fits = refl
  flat_of (suc most) (r ∷ rs) fits =
      ap (take (suc less) (r ∷ rs) ++◌) (flat_of most (drop less rs) (omega (arith, fits, length-drop less rs)))
      ∙ take-append-drop (suc less) (r ∷ rs)

  some_left : (most : ℕ) (rs : List (List ℕ)) → 0 < length (groups_of most (suc less) rs) → 0 < length rs
  unfolding groups_of
  some_left zero rs some = absurd (omega (arith, some))
  some_left (suc most) [] some = some
  some_left (suc most) (r ∷ rs) some = omega arith

  -- a group behind which there is another is full
  full_of : (most : ℕ) (rs : List (List ℕ)) (i : ℕ) → suc i < length (groups_of most (suc less) rs)
      → length (get_or (groups_of most (suc less) rs) i []) ≡ suc less
  unfolding groups_of
  full_of zero rs i before = absurd (omega (arith, before))
  full_of (suc most) [] i before = absurd (omega (arith, before))
  full_of (suc most) (r ∷ rs) zero before =
      omega (arith, some_left most (drop less rs) (omega (arith, before)), length-drop less rs, length-take less rs)
  full_of (suc most) (r ∷ rs) (suc i) before = full_of most (drop less rs) i (omega (arith, before))

number_of : (most : ℕ) (rs : List (List ℕ)) → length rs ≤ most → length (groups_of most 27 rs) ≡ (length rs + 26) / 27
unfolding groups_of
number_of zero [] fits = refl
number_of zero (r ∷ rs) fits = absurd (omega (arith, fits))
number_of (suc most) [] fits = refl
number_of (suc most) (r ∷ rs) fits =
    let left : length (drop 26 rs) ≤ most = omega (arith, fits, length-drop 26 rs) in
    omega (arith, number_of most (drop 26 rs) left, length-drop 26 rs)

ones_of_law : {B : Type 0} (f : List (List ℕ) → B) (most : ℕ) (rs : List (List ℕ)) → length rs ≤ most
    → map f (groups_of most 1 rs) ≡ map (λ r. f (r ∷ [])) rs
unfolding groups_of
ones_of_law f zero [] fits = refl
ones_of_law f zero (r ∷ rs) fits = absurd (omega (arith, fits))
ones_of_law f (suc most) [] fits = refl
ones_of_law f (suc most) (r ∷ rs) fits = ap (f (r ∷ []) ∷◌) (ones_of_law f most rs (omega (arith, fits)))

module _ (rs : List (List ℕ)) where
  pub groups_number : length (in_groups 27 rs) ≡ (length rs + 26) / 27
  unfolding in_groups
  groups_number = number_of (length rs) rs (omega arith)

  pub groups_full : (i : ℕ) → i + 1 < length (in_groups 27 rs) → length (get_or (in_groups 27 rs) i []) ≡ 27
  unfolding in_groups
  groups_full i before = full_of 26 (length rs) rs i (omega (arith, before))

  pub groups_order : flatten (in_groups 27 rs) ≡ rs
  unfolding in_groups
  groups_order = flat_of 26 (length rs) rs (omega arith)

  -- a group of one is a record
  pub groups_of_one : {B : Type 0} (f : List (List ℕ) → B) → map f (in_groups 1 rs) ≡ map (λ r. f (r ∷ [])) rs
  unfolding in_groups
  groups_of_one f = ones_of_law f (length rs) rs (omega arith)

  pub ones_number : length (in_groups 1 rs) ≡ length rs
  ones_number =
      sym (length-map (in_groups 1 rs) (λ g. g)) ∙ ap length (groups_of_one (λ g. g)) ∙ length-map rs (λ r. r ∷ [])

pub drop_taken : (n : ℕ) (rs : List (List ℕ)) → drop (length (take n rs)) rs ≡ drop n rs
drop_taken zero rs = refl
drop_taken (suc n) [] = refl
drop_taken (suc n) (r ∷ rs) = drop_taken n rs
