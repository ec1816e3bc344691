-- A sound frame of the eleven-bit profile in which one, two or three bits were altered is not sound.
-- A bit altered makes the number of ones odd where it was even, in its character and in the whole run. So one or three bits spoil the parity somewhere. Two
-- spoil it unless they lie in one character; then that octet alone is another, and a sound frame with one octet changed is not sound. Assumes nothing.
use Prim.Native.Nat.{ℕ, zero, suc, ◌+◌, ◌-◌, ◌%◌, ◌≤◌, ◌<◌}
use mathlib.Core.Bool.{Bool, true, false, not, ◌&&◌, ◌||◌, false≢true}
use mathlib.Core.List.{List, [], ◌∷◌, map}
use mathlib.Core.Path.{◌≡◌, refl, sym, ap, ◌∙◌}
use native.Mathlib.Omega.{arith}
use native.Mathlib.Decide.{dec_lt, ℕ_discrete}
use borrow.Author.Tests.{eqb-true, ltb-true, eq-eqb, ne_eqb, lt-ltb, le-ltb}
use lib.Dec.{eqb, ltb}
use lib.ListN.{length, get_or, set, length-set, length-map, get_or-map}
use lib.Seq.{get_or-set_same, get_or-set_other, set-set}
use Rattle.octets.specs.Conditions.{holds}
use Rattle.octets.specs.Sum.{octet_sum}
use Rattle.octets.proofs.Choice.{flipped, not_both}
use Rattle.octets.proofs.Computed.{pass_all, at_each}
use Rattle.octets.proofs.Conditions.{and_left, and_right, holds_at}
use Rattle.octets.proofs.Numbers.{Octets}
use Rattle.octets.proofs.Sum.{octet_sum_set, octet_sum_append}
use Rattle.frame.specs.Family.{Family}
use Rattle.frame.specs.Frame.{Frame, sound}
use Rattle.frame.proofs.Frame.{Proper}
use Rattle.frame.proofs.OneOctet.{one_octet_changed}
use Rattle.profile.specs.declared.Character.{Character}
use Rattle.profile.specs.declared.Profile.TheVariants.{Eleven}
use Rattle.profile.specs.Character.{low_bits, bit_of, bits_of, ones, even_parity, rightly}
use Rattle.profile.specs.Profile.{octets_in, are_right, judge_in}
use Rattle.profile.specs.Altered.{Place, with_bit, with_bit_of, altered_at, altered, Within, Places, FewAltered}
use Rattle.profile.proofs.Judging.{sound_in}
use Rattle.profile.proofs.Parity.{rightly_even}

unequal : {a b : ℕ} → not (eqb a b) ≡ true → a ≡ b → ⊥
unequal {a} {b} t e = not_both (flipped (eqb a b) true t) (eq-eqb a b e)

-- A data bit altered: the number of ones changes its parity, what is left is another octet, and another data bit altered does not give the first back.
-- Computed over eight bits, or pairs of them, of 256 octets
abbrev alterings : ℕ → ℕ → List Bool
alterings bit octet =
    eqb (ones (low_bits 8 (with_bit bit octet)) % 2) ((ones (low_bits 8 octet) + 1) % 2)
    ∷ ltb (with_bit bit octet) 256
    ∷ not (eqb (with_bit bit octet) octet)
    ∷ []

abbrev alters_twice : ℕ → ℕ → ℕ → Bool
alters_twice bit other octet = eqb bit other || not (eqb (with_bit bit (with_bit other octet)) octet)

abbrev octets_pass : (ℕ → Bool) → Bool
octets_pass test = pass_all test 0 256

module _ (bit octet : ℕ) (b : bit < 8) (o : octet < 256) where
  alters : holds (alterings bit octet) ≡ true
  unfolding low_bits with_bit octet_sum holds
  alters = at_each (λ (n : ℕ). holds (alterings bit n)) 256 (at_each (λ (m : ℕ). octets_pass (λ n. holds (alterings m n))) 8 refl bit b) octet o

  bit_parity : ones (low_bits 8 (with_bit bit octet)) % 2 ≡ (ones (low_bits 8 octet) + 1) % 2
  bit_parity = eqb-true _ _ (holds_at (alterings bit octet) alters 0)

  bit_octet : with_bit bit octet < 256
  bit_octet = ltb-true _ _ (holds_at (alterings bit octet) alters 1)

  bit_other : with_bit bit octet ≡ octet → ⊥
  bit_other = unequal (holds_at (alterings bit octet) alters 2)

  bits_other : (other : ℕ) → other < 8 → (bit ≡ other → ⊥) → with_bit bit (with_bit other octet) ≡ octet → ⊥
  unfolding with_bit
  bits_other other b' apart =
      unequal (rw (ne_eqb bit other apart) at
      (at_each (alters_twice bit other) 256
      (at_each (λ (m : ℕ). octets_pass (alters_twice bit m)) 8
      (at_each (λ (l : ℕ). pass_all (λ m. octets_pass (alters_twice l m)) 0 8) 8 refl bit b) other b') octet o))

-- of a character
abbrev ones_of : Character → ℕ
ones_of c = ones (bits_of c)

data_and_parity : (c : Character) → ones_of c ≡ ones (low_bits 8 c.octet) + bit_of c.parity
unfolding bits_of octet_sum
data_and_parity c = octet_sum_append (low_bits 8 c.octet) (bit_of c.parity ∷ []) ∙ omega arith

other_parity : (t : Bool) → bit_of (not t) + bit_of t ≡ 1
other_parity true = refl
other_parity false = refl

even_ones : (c : Character) → even_parity c ≡ true → ones_of c % 2 ≡ 0
unfolding even_parity
even_ones c e = eqb-true _ _ e

module _ (c : Character) (o : c.octet < 256) where
  altered_parity : (bit : ℕ) → ones_of (with_bit_of bit c) % 2 ≡ (ones_of c + 1) % 2
  unfolding with_bit_of
  altered_parity bit = by_bit (dec_lt bit 8)
    where
      by_bit : Dec (bit < 8) → ones_of (with_bit_of bit c) % 2 ≡ (ones_of c + 1) % 2
      by_bit (yes low) = rw (lt-ltb bit 8 low, data_and_parity c, data_and_parity (record { octet = with_bit bit c.octet; parity = c.parity })) (omega (arith, bit_parity bit c.octet low o))
      by_bit (no high) = rw (le-ltb bit 8 (omega arith), data_and_parity c, data_and_parity (record { octet = c.octet; parity = not c.parity })) (omega (arith, other_parity c.parity))

  altered_octet : (bit : ℕ) → (with_bit_of bit c).octet < 256
  unfolding with_bit_of
  altered_octet bit = by_bit (dec_lt bit 8)
    where
      by_bit : Dec (bit < 8) → (with_bit_of bit c).octet < 256
      by_bit (yes low) = rw (lt-ltb bit 8 low) (bit_octet bit c.octet low o)
      by_bit (no high) = rw (le-ltb bit 8 (omega arith)) o

  -- two bits of one character
  altered_other : (bit other : ℕ) → bit < 9 → other < 9 → (bit ≡ other → ⊥) → (with_bit_of bit (with_bit_of other c)).octet ≡ c.octet → ⊥
  unfolding with_bit_of
  altered_other bit other h h' apart = by_bits (dec_lt bit 8) (dec_lt other 8)
    where
      by_bits : Dec (bit < 8) → Dec (other < 8) → (with_bit_of bit (with_bit_of other c)).octet ≡ c.octet → ⊥
      by_bits (yes low) (yes low') = rw (lt-ltb bit 8 low, lt-ltb other 8 low') (bits_other bit c.octet low o other low' apart)
      by_bits (yes low) (no high) = rw (lt-ltb bit 8 low, le-ltb other 8 (omega arith)) (bit_other bit c.octet low o)
      by_bits (no high) (yes low) = rw (le-ltb bit 8 (omega arith), lt-ltb other 8 low) (bit_other other c.octet low o)
      by_bits (no high) (no high') = absurd (apart (omega arith))

-- What is altered is that bit of the nine and no other: so `with_bit_of` says what it means. Computed over nine bits of 256 octets with either parity bit
abbrev same_bits : List ℕ → List ℕ → Bool
same_bits [] [] = true
same_bits [] (y ∷ ys) = false
same_bits (x ∷ xs) [] = false
same_bits (x ∷ xs) (y ∷ ys) = eqb x y && same_bits xs ys

same_bits_law : (xs ys : List ℕ) → same_bits xs ys ≡ true → xs ≡ ys
same_bits_law [] [] t = refl
same_bits_law [] (y ∷ ys) t = absurd (false≢true t)
same_bits_law (x ∷ xs) [] t = absurd (false≢true t)
same_bits_law (x ∷ xs) (y ∷ ys) t =
    ap (λ (n : ℕ). n ∷ xs) (eqb-true x y (and_left (eqb x y) (same_bits xs ys) t))
    ∙ ap (λ (l : List ℕ). y ∷ l) (same_bits_law xs ys (and_right (eqb x y) (same_bits xs ys) t))

-- the nine bits with one of them the other way round
abbrev flipped_at : ℕ → List ℕ → List ℕ
flipped_at bit bits = set bits bit (1 - get_or bits bit 0)

abbrev alters_one : Bool → ℕ → ℕ → Bool
alters_one parity bit octet =
    let c : Character = record { octet = octet; parity = parity } in
    same_bits (bits_of (with_bit_of bit c)) (flipped_at bit (bits_of c))

all_pass : (parity : Bool) → pass_all (λ m. octets_pass (alters_one parity m)) 0 9 ≡ true
unfolding bits_of low_bits with_bit with_bit_of
all_pass true = refl
all_pass false = refl

pub one_bit_alone : (bit : ℕ) (c : Character) → bit < 9 → c.octet < 256 → bits_of (with_bit_of bit c) ≡ flipped_at bit (bits_of c)
one_bit_alone bit c b o = same_bits_law _ _ (by_parity c.parity)
  where
    by_parity : (parity : Bool) → alters_one parity bit c.octet ≡ true
    by_parity parity = at_each (alters_one parity bit) 256 (at_each (λ (m : ℕ). octets_pass (alters_one parity m)) 9 (all_pass parity) bit b) c.octet o

-- of a run
pub map_set : {A B : Type 0} (f : A → B) (l : List A) (i : ℕ) (y : A) → map f (set l i y) ≡ set (map f l) i (f y)
map_set f [] i y = refl
map_set f (x ∷ xs) zero y = refl
map_set {B = B} f (x ∷ xs) (suc i) y = ap (λ (zs : List B). f x ∷ zs) (map_set f xs i y)

set_octets : (xs : List ℕ) (i new : ℕ) → Octets xs → new < 256 → Octets (set xs i new)
set_octets [] i new o h j = o j
set_octets (x ∷ xs) zero new o h zero = h
set_octets (x ∷ xs) zero new o h (suc j) = o (suc j)
set_octets (x ∷ xs) (suc i) new o h zero = o 0
set_octets (x ∷ xs) (suc i) new o h (suc j) = set_octets xs i new (λ m. o (suc m)) h j

-- a character of it, by its place; behind the last there are zeros with their right parity bits
abbrev at : List Character → ℕ → Character
at run i = get_or run i (rightly 0)

octet_at_law : (run : List Character) (i : ℕ) → get_or (octets_in Eleven run) i 0 ≡ (at run i).octet
unfolding rightly
octet_at_law run i = get_or-map (λ (c : Character). c.octet) run i (rightly 0)

even_at : (run : List Character) → are_right Eleven run ≡ true → (i : ℕ) → even_parity (at run i) ≡ true
even_at run right i = sym (get_or-map even_parity run i (rightly 0)) ∙ rw (rightly_even 0) (holds_at (map even_parity run) right i)

ones_at : (run : List Character) (i : ℕ) → get_or (map ones_of run) i 0 ≡ ones_of (at run i)
unfolding rightly bits_of low_bits octet_sum
ones_at run i = get_or-map ones_of run i (rightly 0)

abbrev total : List Character → ℕ
total run = octet_sum (map ones_of run)

even_total : (run : List Character) → are_right Eleven run ≡ true → total run % 2 ≡ 0
unfolding holds octet_sum
even_total [] right = refl
even_total (c ∷ run) right = omega (arith, even_ones c (and_left _ _ right), even_total run (and_right (even_parity c) _ right))

module _ (run : List Character) (octets : Octets (octets_in Eleven run)) where
  small : (i : ℕ) → (at run i).octet < 256
  small i = rw (← octet_at_law run i) (octets i)

  module _ (place : Place) where
    altered_octets : Octets (octets_in Eleven (altered_at place run))
    unfolding altered_at
    altered_octets =
        rw (map_set (λ (c : Character). c.octet))
        (set_octets (octets_in Eleven run) place.character _ octets (altered_octet (at run place.character) (small place.character) place.bit))

    altered_total : place.character < length run → total (altered_at place run) % 2 ≡ (total run + 1) % 2
    unfolding altered_at
    altered_total within =
        let i = place.character in
        let new = with_bit_of place.bit (at run i) in
        let sums = octet_sum_set (map ones_of run) i (ones_of new) (rw (length-map run ones_of) within) in
        let old : get_or (map ones_of run) i 0 ≡ ones_of (at run i) = ones_at run i in
        rw (map_set ones_of) (omega (arith, sums, old, altered_parity (at run i) (small i) place.bit))

place_same : {p q : Place} → p.character ≡ q.character → p.bit ≡ q.bit → p ≡ q
place_same {p} {q} e f = ap (λ (i : ℕ). record { character = i; bit = p.bit }) e ∙ ap (λ (b : ℕ). record { character = q.character; bit = b }) f

-- the number of characters is kept
altered_kept : (run : List Character) (places : List Place) → length (altered places run) ≡ length run
unfolding altered altered_at
altered_kept run [] = refl
altered_kept run (place ∷ places) = length-set (altered places run) place.character _ ∙ altered_kept run places

pub few_some : (run run' : List Character) → FewAltered run run' → length run' ≡ 0 → ⊥
few_some run run' x none = by_places x.places x.some x.distinct (ap (λ (l : List Character). length l) (sym x.so) ∙ none)
  where
    by_places : (places : List Place) → 1 ≤ length places → Places (length run) places → length (altered places run) ≡ 0 → ⊥
    by_places [] some within e = omega arith
    by_places (place ∷ places) some within e = omega (arith, within.0.in_run, altered_kept run (place ∷ places), e)

-- two bits: in two characters they spoil the parity of both, and in one they make its octet another
module _ (k : Family) (proper : Proper k) (run : List Character) (octets : Octets (octets_in Eleven run)) (f f' : Frame) (e : judge_in Eleven k run ≡ sound f) where
  module _ (p q : Place) (within : Within (length run) p) (of_nine : q.bit < 9) (apart : p ≡ q → ⊥) where
    abbrev c : Character
    c = at run p.character

    two_characters : (p.character ≡ q.character → ⊥) → are_right Eleven (altered (p ∷ q ∷ []) run) ≡ true → ⊥
    unfolding altered altered_at
    two_characters other right =
        let i = p.character in
        let run₁ = altered_at q run in
        let kept : at run₁ i ≡ c = get_or-set_other run q.character i _ (rightly 0) other in
        let here : at (altered_at p run₁) i ≡ with_bit_of p.bit c =
        get_or-set_same run₁ i _ (rightly 0) (rw (length-set run q.character) within.in_run) ∙ ap (with_bit_of p.bit) kept in
        let was = even_ones c (even_at run (sound_in Eleven k run f e).0 i) in
        let is = even_ones (with_bit_of p.bit c) (rw here at (even_at (altered_at p run₁) right i)) in
        omega (arith, was, is, altered_parity c (small run octets i) p.bit)

    one_character : p.character ≡ q.character → judge_in Eleven k (altered (p ∷ q ∷ []) run) ≡ sound f' → ⊥
    unfolding altered altered_at
    one_character same e' =
        let i = p.character in
        let new = with_bit_of p.bit (with_bit_of q.bit c) in
        let so : altered (p ∷ q ∷ []) run ≡ set run i new =
        rw (← same, get_or-set_same run p.character (with_bit_of q.bit c) (rightly 0) within.in_run) (set-set run i _ new) in
        let changed : octets_in Eleven (altered (p ∷ q ∷ []) run) ≡ set (octets_in Eleven run) i new.octet =
        ap (octets_in Eleven) so ∙ map_set (λ (x : Character). x.octet) run i new in
        let other : new.octet ≡ get_or (octets_in Eleven run) i 0 → ⊥ =
        λ z. altered_other c (small run octets i) p.bit q.bit within.of_nine of_nine (λ b. apart (place_same same b)) (z ∙ octet_at_law run i) in
        one_octet_changed k proper (octets_in Eleven run) octets i new.octet
        (altered_octet (with_bit_of q.bit c) (altered_octet c (small run octets i) q.bit) p.bit)
        (rw (length-map run (λ (x : Character). x.octet)) within.in_run) f f' (sound_in Eleven k run f e).1 other
        (rw (← changed) (sound_in Eleven k (altered (p ∷ q ∷ []) run) f' e').1)

    two_bits : judge_in Eleven k (altered (p ∷ q ∷ []) run) ≡ sound f' → ⊥
    two_bits e' = by_place (ℕ_discrete p.character q.character)
      where
        by_place : Dec (p.character ≡ q.character) → ⊥
        by_place (yes same) = one_character same e'
        by_place (no other) = two_characters other (sound_in Eleven k (altered (p ∷ q ∷ []) run) f' e').0

  -- an odd number of them, whichever they are
  all_octets : (places : List Place) → Octets (octets_in Eleven (altered places run))
  unfolding altered
  all_octets [] = octets
  all_octets (place ∷ places) = altered_octets (altered places run) (all_octets places) place

  all_total : (places : List Place) → Places (length run) places → total (altered places run) % 2 ≡ (total run + length places) % 2
  unfolding altered
  all_total [] within = omega arith
  all_total (place ∷ places) within =
      omega (
        arith,
        altered_total (altered places run) (all_octets places) place (rw (altered_kept run places) within.0.in_run),
        all_total places within.1.1,
      )

  odd_altered : (places : List Place) → Places (length run) places → length places % 2 ≡ 1 → judge_in Eleven k (altered places run) ≡ sound f' → ⊥
  odd_altered places within odd e' =
      omega (
        arith,
        all_total places within,
        even_total run (sound_in Eleven k run f e).0,
        even_total (altered places run) (sound_in Eleven k (altered places run) f' e').0,
      )

  few : (places : List Place) → Places (length run) places → 1 ≤ length places → length places ≤ 3 → judge_in Eleven k (altered places run) ≡ sound f' → ⊥
  few [] within some most e' = absurd (omega arith)
  few (p ∷ []) within some most e' = odd_altered (p ∷ []) within refl e'
  few (p ∷ q ∷ []) within some most e' = two_bits p q within.0 within.1.1.0.of_nine within.1.0.0 e'
  few (p ∷ q ∷ r ∷ []) within some most e' = odd_altered (p ∷ q ∷ r ∷ []) within refl e'
  few (p ∷ q ∷ r ∷ s ∷ places) within some most e' = absurd (omega arith)

  pub few_altered : (run' : List Character) → FewAltered run run' → judge_in Eleven k run' ≡ sound f' → ⊥
  few_altered run' x e' = few x.places x.distinct x.some x.few (rw x.so at e')
