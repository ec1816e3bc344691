-- Even parity: a parity bit is right where it is 1 exactly when the data bits have an odd number of ones. So an octet as it is sent has its right one.
-- By the two values of the parity bit. Assumes nothing.
use Prim.Native.Nat.{ℕ, zero, suc, ◌+◌, ◌*◌, ◌/◌, ◌%◌, ◌^◌, ◌<◌}
use mathlib.Core.Bool.{Bool, true, false, beq}
use mathlib.Core.List.{[], ◌∷◌}
use mathlib.Core.Path.{◌≡◌, refl, sym, ap, ◌∙◌}
use native.Mathlib.Nat.{pow-suc}
use native.Mathlib.Omega.{arith}
use native.Mathlib.Decide.{ℕ_discrete}
use borrow.Author.Tests.{eq-eqb, ne_eqb}
use lib.Count.{ones as count_ones, ones_step}
use lib.Dec.{eqb}
use Rattle.octets.specs.Sum.{octet_sum}
use Rattle.octets.proofs.Sum.{octet_sum_append}
use Rattle.profile.specs.declared.Character.{Character}
use Rattle.profile.specs.Character.{low_bits, bit_of, bits_of, ones, even_parity, rightly}

-- the processor's count of a number's ones is that of its lowest bits, where these are all that it has
pub count_of_bits : (many n : ℕ) → n < 2 ^ many → count_ones n ≡ ones (low_bits many n)
unfolding low_bits octet_sum count_ones
count_of_bits zero n h = let none : n ≡ 0 = omega arith in rw none refl
count_of_bits (suc many) n h = ones_step n ∙ ap (n % 2 +◌) (count_of_bits many (n / 2) (let less : n < 2 ^ many * 2 = rw pow-suc at h in omega arith))

-- with so many ones among the data bits
told : (many : ℕ) (parity : Bool) → beq (eqb (many % 2) 1) parity ≡ eqb ((many + (bit_of parity + 0)) % 2) 0
told many parity = by_rest parity (ℕ_discrete (many % 2) 1)
  where
    by_rest : (parity : Bool) → Dec (many % 2 ≡ 1) → beq (eqb (many % 2) 1) parity ≡ eqb ((many + (bit_of parity + 0)) % 2) 0
    by_rest true (yes e) = rw (eq-eqb (many % 2) 1 e, eq-eqb ((many + (1 + 0)) % 2) 0 (omega arith))
    by_rest true (no e) = rw (ne_eqb (many % 2) 1 e, ne_eqb ((many + (1 + 0)) % 2) 0 (λ z. omega arith))
    by_rest false (yes e) = rw (eq-eqb (many % 2) 1 e, ne_eqb ((many + (0 + 0)) % 2) 0 (λ z. omega arith))
    by_rest false (no e) = rw (ne_eqb (many % 2) 1 e, eq-eqb ((many + (0 + 0)) % 2) 0 (omega arith))

pub even_told : (c : Character) → beq (eqb (ones (low_bits 8 c.octet) % 2) 1) c.parity ≡ even_parity c
unfolding even_parity bits_of octet_sum
even_told c = told (ones (low_bits 8 c.octet)) c.parity ∙ rw (octet_sum_append (low_bits 8 c.octet) (bit_of c.parity ∷ []))

same : (t : Bool) → beq t t ≡ true
same true = refl
same false = refl

pub rightly_even : (octet : ℕ) → even_parity (rightly octet) ≡ true
unfolding rightly
rightly_even octet = sym (even_told (rightly octet)) ∙ same (eqb (ones (low_bits 8 octet) % 2) 1)
