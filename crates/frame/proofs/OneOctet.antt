-- A sound frame with exactly one octet changed is not sound, in either form.
-- An octet that the checksum covers, or the checksum itself, has one value only that gives the right sum; every other octet is fixed by the
-- form and the run's length. Over the family. Assumes nothing.
use Rattle.std.proofs.Common.{◌≡◌, ℕ, ◌+◌, ◌-◌, ◌%◌, ◌<◌, ◌≤◌, true, List, length, get_or, take, drop, set, sym, refl, ap, ◌∙◌, arith, length-set, get_or-set_other, get_or-set_same}
use native.Mathlib.Decide.{dec_lt, ℕ_discrete}
use lib.Seq.{take-set-le, take-set-lt, drop-set-add}
use Rattle.octets.specs.Sum.{octet_sum, checksum}
use Rattle.octets.proofs.Numbers.{Octets}
use Rattle.octets.proofs.Sum.{octet_sum_set}
use Rattle.frame.specs.Family.{Family}
use Rattle.frame.specs.Frame.{Frame, sound, covered, sum_right, judge}
use Rattle.frame.proofs.Sealed.{covered_length, covered_at}
use Rattle.frame.proofs.Frame.{Proper, FixedRun, VariableRun, Sound, as_fixed, as_variable, sound_facts, sum_facts}

-- sums that are the same but for one octet
one_value : (x y a b : ℕ) → x + a ≡ y + b → x % 256 ≡ y % 256 → a < 256 → b < 256 → a ≡ b
one_value x y a b e m ha hb = omega arith

module _ (run : List ℕ) (octets : Octets run) (new : ℕ) (small : new < 256) where
  -- at the octet j behind the start, up to the checksum
  module _ (start j : ℕ) (within : start + j + 1 < length run) (right : sum_right start run ≡ true) (after : sum_right start (set run (start + j) new) ≡ true) where
    abbrev many : ℕ
    many = length run - (start + 2)

    changed : covered start (set run (start + j) new) ≡ take many (set (drop start run) j new)
    changed = rw (length-set, drop-set-add)

    sum_before : checksum (take many (drop start run)) ≡ get_or run (length run - 2) 0
    sum_before = sum_facts start run right

    sum_after : checksum (take many (set (drop start run) j new)) ≡ get_or (set run (start + j) new) (length run - 2) 0
    sum_after = rw (← changed) (sum_facts start (set run (start + j) new) after ∙ ap (λ (n : ℕ). get_or (set run (start + j) new) (n - 2) 0) (length-set run (start + j) new))

    at_sum : start + j ≡ length run - 2 → new ≡ get_or run (start + j) 0
    at_sum e =
        let untouched : take many (set (drop start run) j new) ≡ take many (drop start run) = take-set-le many (drop start run) j new (omega arith) in
        sym (get_or-set_same run (start + j) new 0 (omega arith))
        ∙ ap (λ (m : ℕ). get_or (set run (start + j) new) m 0) e
        ∙ sym sum_after
        ∙ ap checksum untouched
        ∙ sum_before
        ∙ ap (λ (m : ℕ). get_or run m 0) (sym e)

    in_body : start + j + 2 < length run → new ≡ get_or run (start + j) 0
    unfolding checksum
    in_body h =
        let j_in : j < many = omega arith in
        let b = take many (drop start run) in
        let stays : get_or (set run (start + j) new) (length run - 2) 0 ≡ get_or run (length run - 2) 0 = get_or-set_other run (start + j) (length run - 2) new 0 (λ e. omega arith) in
        let there : get_or b j 0 ≡ get_or run (start + j) 0 = covered_at start run (omega arith) j (omega arith) in
        let long : j < length b = omega (arith, covered_length start run (omega arith)) in
        let sums = octet_sum_set b j new long in
        let same : octet_sum (set b j new) % 256 ≡ octet_sum b % 256 = rw (← take-set-lt many (drop start run) j new j_in) (sum_after ∙ stays ∙ sym sum_before) in
        sym (one_value _ _ _ _ sums same (omega (arith, octets (start + j))) small) ∙ there

    same_octet : new ≡ get_or run (start + j) 0
    same_octet = by_place (dec_lt (start + j + 2) (length run))
      where
        by_place : Dec (start + j + 2 < length run) → new ≡ get_or run (start + j) 0
        by_place (yes h) = in_body h
        by_place (no h) = at_sum (omega arith)

-- both runs sound: the changed octet is the old one
module _ (k : Family) (proper : Proper k) (run : List ℕ) (octets : Octets run) (i new : ℕ) (small : new < 256) (place : i < length run) where
  abbrev run' : List ℕ
  run' = set run i new

  here : get_or run' i 0 ≡ new
  here = get_or-set_same run i new 0 place

  elsewhere : (j : ℕ) → (j ≡ i → ⊥) → get_or run' j 0 ≡ get_or run j 0
  elsewhere j h = get_or-set_other run i j new 0 h

  -- an octet that is the same number in both runs
  fixed_at : (j x : ℕ) → get_or run j 0 ≡ x → get_or run' j 0 ≡ x → j ≡ i → new ≡ get_or run i 0
  fixed_at j x e f p = sym here ∙ ap (λ (m : ℕ). get_or run' m 0) (sym p) ∙ f ∙ sym e ∙ ap (λ (m : ℕ). get_or run m 0) p

  -- behind the start octets and before the end octet, the sum decides
  summed_at : (start : ℕ) → sum_right start run ≡ true → sum_right start run' ≡ true → start ≤ i → i + 1 < length run → new ≡ get_or run i 0
  summed_at start s s' h h' =
      let e : start + (i - start) ≡ i = omega arith in
      rw e at (same_octet run octets new small start (i - start) (omega arith) s (rw e s'))

  long' : length run' ≡ length run
  long' = length-set run i new

  last' : get_or run' (length run' - 1) 0 ≡ 0x16 → get_or run' (length run - 1) 0 ≡ 0x16
  last' e = rw long' at e

  both_fixed : FixedRun k run → sum_right 1 run ≡ true → FixedRun k run' → sum_right 1 run' ≡ true → new ≡ get_or run i 0
  both_fixed r s r' s' = by_place (ℕ_discrete 0 i) (ℕ_discrete (length run - 1) i)
    where
      by_place : Dec (0 ≡ i) → Dec (length run - 1 ≡ i) → new ≡ get_or run i 0
      by_place (yes p) d = fixed_at 0 0x10 r.first r'.first p
      by_place (no p) (yes q) = fixed_at (length run - 1) 0x16 r.last (last' r'.last) q
      by_place (no p) (no q) = summed_at 1 s s' (omega arith) (omega arith)

  both_variable : VariableRun k run → sum_right 4 run ≡ true → VariableRun k run' → sum_right 4 run' ≡ true → new ≡ get_or run i 0
  both_variable r s r' s' = by_place (ℕ_discrete 0 i) (ℕ_discrete 1 i) (ℕ_discrete 2 i) (ℕ_discrete 3 i) (ℕ_discrete (length run - 1) i)
    where
      -- L is the same number in both, by the length
      l : get_or run' 1 0 ≡ get_or run 1 0
      l = omega (arith, r.long, r'.long, long')

      by_place : Dec (0 ≡ i) → Dec (1 ≡ i) → Dec (2 ≡ i) → Dec (3 ≡ i) → Dec (length run - 1 ≡ i) → new ≡ get_or run i 0
      by_place (yes p) d₁ d₂ d₃ d = fixed_at 0 0x68 r.first r'.first p
      by_place (no p₀) (yes p) d₂ d₃ d = fixed_at 1 _ refl l p
      by_place (no p₀) (no p₁) (yes p) d₃ d = fixed_at 2 _ r.again (r'.again ∙ l) p
      by_place (no p₀) (no p₁) (no p₂) (yes p) d = fixed_at 3 0x68 r.fourth r'.fourth p
      by_place (no p₀) (no p₁) (no p₂) (no p₃) (yes p) = fixed_at (length run - 1) 0x16 r.last (last' r'.last) p
      by_place (no p₀) (no p₁) (no p₂) (no p₃) (no p) = summed_at 4 s s' (omega arith) (omega arith)

  pub one_octet : (f f' : Frame) → judge k run ≡ sound f → judge k (set run i new) ≡ sound f' → new ≡ get_or run i 0
  one_octet f f' e e' = by_forms (sound_facts k run f e) (sound_facts k run' f' e')
    where
      by_forms : Sound k run f → Sound k run' f' → new ≡ get_or run i 0
      by_forms (as_fixed r s p) (as_fixed r' s' p') = both_fixed r s r' s'
      by_forms (as_fixed r s p) (as_variable r' s' p') = absurd (omega (arith, r.long, r'.long, r'.least, long', proper.counts))
      by_forms (as_variable r s p) (as_fixed r' s' p') = absurd (omega (arith, r.long, r'.long, r.least, long', proper.counts))
      by_forms (as_variable r s p) (as_variable r' s' p') = both_variable r s r' s'

  -- so a sound frame with exactly one octet changed is not sound
  pub one_octet_changed : (f f' : Frame) → judge k run ≡ sound f → (new ≡ get_or run i 0 → ⊥) → judge k (set run i new) ≡ sound f' → ⊥
  one_octet_changed f f' e other e' = other (one_octet f f' e e')
