-- A window that is filled: what stands in it is moved to the front, and what is read stands behind it, turn after turn.
-- By what is kept, and kept further. Assumes nothing.
use Rattle.std.proofs.Common.{◌≡◌, refl, ℕ, ◌+◌, ◌≤◌, ◌⊎◌, inl, inr, List, Bool, true, false, min, length, take, sym, ap, ◌∙◌, arith}
use lib.Seq.{take-take}
use Rattle.std.specs.List.{copy_within}
use Rattle.std.proofs.lemmas.Grind.{common_steps}
use Rattle.octets.specs.Over.{laid_in, Does}
use Rattle.stream.specs.declared.Window.{Window}
use Rattle.stream.specs.Window.{seen_in, has_in, Kept, Filled, FilledAs}

-- what is kept, kept again
pub kept_further : {had have : ℕ} {space more left : List ℕ} → had ≤ have → Kept had space more → Kept have more left → Kept had space left
kept_further {had} {have} {space} {more} {left} h k l =
    record {
      same_length = l.same_length ∙ k.same_length;
      first = sym (take-take had have left h) ∙ ap (λ (s : List ℕ). take had s) l.first ∙ take-take had have more h ∙ k.first;
    }

-- the octets in a window, moved to the front
pub moved_to_front : (space left : List ℕ) (w : Window) (from have : ℕ) → from ≡ min w.from (length space) → have ≡ length (seen_in space w)
    → left ≡ copy_within space from (from + have) 0 → Does (length (seen_in space w)) (laid_in space (seen_in space w)) have left
moved_to_front space left w from have f h e = grind (arith, common_steps)

-- filled turn after turn: nothing is read yet, or it is filled to the first size, which was more than stood there
abbrev pub FilledSoFar : (List ℕ → ℕ → Type 0) → List ℕ → Window → Window → List ℕ → Type 0
FilledSoFar says space w now here =
    ((now ≡ w) × (here ≡ space)) ⊎ ((size : ℕ) × says (seen_in space w) size × (has_in space w size ≡ false) × Filled space w size now here)

filled_twice : (space here left : List ℕ) (w now r : Window) (size more : ℕ) → has_in space w size ≡ false → Filled space w size now here → Filled here now more r left
    → Filled space w size r left
filled_twice space here left w now r size more few f g = grind (arith, common_steps)

module _ (says : List ℕ → ℕ → Type 0) (space here left : List ℕ) (w now r : Window) (size : ℕ) where
  -- once more: to a size that is said of what stands there by then
  pub filled_further : FilledSoFar says space w now here → says (seen_in here now) size → Filled here now size r left → FilledSoFar says space w r left
  filled_further (inl (e, f)) s g = by_test (has_in space w size) refl
    where
      by_test : (t : Bool) → has_in space w size ≡ t → FilledSoFar says space w r left
      by_test true enough =
          let h : Filled space w size r left = rw (e, f) at g in
          inl (h.same_window enough, h.unchanged enough)
      by_test false few = inr (size, (rw (e, f) at s), few, (rw (e, f) at g))
  filled_further (inr (first, t, few, f)) s g = inr (first, t, few, filled_twice space here left w now r first size few f g)

  -- and for the last time
  pub filled_on : FilledSoFar says space w now here → says (seen_in here now) size → Filled here now size r left → FilledAs says space w r left
  filled_on (inl (e, f)) s g = (size, (rw (e, f) at s), (rw (e, f) at g))
  filled_on (inr (first, t, few, f)) s g = (first, t, filled_twice space here left w now r first size few f g)
