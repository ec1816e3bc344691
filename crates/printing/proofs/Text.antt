-- Figures and pairs: how many there are, the kit's digits, and pairs written one after the other.
-- By recursion on the places and on the octets. Assumes nothing.
use Prim.Native.Nat.{ℕ, zero, suc, ◌+◌, ◌*◌, ◌/◌, ◌%◌, ◌^◌, ◌≤◌, ◌<◌}
use mathlib.Core.List.{List, [], ◌∷◌, ◌++◌, append_assoc, append-nil}
use mathlib.Core.Path.{◌≡◌, refl, sym}
use native.Mathlib.Nat.{suc-mul, zero-mul}
use native.Mathlib.Numerals.{add-one}
use native.Mathlib.Omega.{arith}
use borrow.Author.Tests.{lt-ltb, le-ltb}
use lib.Dec.{ltb}
use lib.ListN.{length, take, get_or, length-append}
use lib.Seq.{take-suc}
use Rattle.std.specs.Prelude.{decimal as decimal_text}
use Rattle.std.proofs.lemmas.Fmt.{AppendsLastDigit, decimal_from_appends, length-decimal-le}
use Rattle.octets.proofs.Choice.{either}
use Rattle.printing.specs.Text.{figures, decimal, hex_figure, pair_of, pairs}

-- no more figures than places
figures_length : (places n : ℕ) → length (figures places n) ≤ places
unfolding figures
figures_length zero n = omega arith
figures_length (suc places) n =
    either (λ (l : List ℕ). length l ≤ suc places) (ltb n 10)
    (λ h. omega arith)
    (λ h. omega (arith, figures_length places (n / 10), length-append (figures places (n / 10)) ((48 + n % 10) ∷ [])))

pub decimal_length : (n : ℕ) → length (decimal n) ≤ 20
unfolding decimal
decimal_length n = figures_length 20 n

-- what the kit writes of a number are its figures
appends : AppendsLastDigit figures
unfolding figures
appends = record {
  one = λ k n h. rw (lt-ltb n 10 h);
  more = λ k n h. rw (le-ltb n 10 h);
}

pub digits_decimal : (n : ℕ) → n < 2 ^ 64 → decimal_text n ≡ decimal n
unfolding decimal
digits_decimal n h = sym (decimal_from_appends figures appends 20 n h (length-decimal-le 20 n (omega arith) (omega arith) h))

-- pairs: how many octets they have, and one more behind the first i
pub pairs_length : (before octets : List ℕ) → length (pairs before octets) ≡ length octets * (length before + 2)
unfolding pairs pair_of
pairs_length before [] = sym (zero-mul (length before + 2))
pairs_length before (octet ∷ rest) =
    rw (suc-mul (length rest) (length before + 2))
    (simp length-append (omega (arith, pairs_length before rest)))

pairs_append : (before xs ys : List ℕ) → pairs before (xs ++ ys) ≡ pairs before xs ++ pairs before ys
unfolding pairs pair_of
pairs_append before [] ys = refl
pairs_append before (octet ∷ xs) ys = rw (pairs_append before xs ys) (simp append_assoc)

one_pair : (before : List ℕ) (octet : ℕ) → pairs before (octet ∷ []) ≡ before ++ pair_of octet
unfolding pairs pair_of
one_pair before octet = simp append-nil

pub pairs_more : (before xs : List ℕ) (i : ℕ) → i < length xs
    → pairs before (take i xs) ++ (before ++ pair_of (get_or xs i 0)) ≡ pairs before (take (i + 1) xs)
pairs_more before xs i h =
    sym (rw (add-one, take-suc xs i 0 h, pairs_append before (take i xs) (get_or xs i 0 ∷ []), one_pair))

pub pairs_room : (before xs : List ℕ) (i : ℕ) → i < length xs
    → length (pairs before (take i xs)) + (length before + 2) ≤ length (pairs before xs)
unfolding pairs pair_of
pairs_room before [] i h = absurd (omega arith)
pairs_room before (octet ∷ xs) zero h = simp length-append (omega arith)
pairs_room before (octet ∷ xs) (suc i) h = simp length-append (omega (arith, pairs_room before xs i (omega arith)))
