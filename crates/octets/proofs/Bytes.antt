-- What std reads and writes as bytes of a number is what this crate's definitions read and write as octets, at every width.
-- By recursion on the width, the last octet first. Assumes nothing.
use Rattle.std.proofs.Common.{◌≡◌, ℕ, zero, suc, ◌+◌, ◌-◌, ◌*◌, ◌/◌, ◌^◌, ◌<◌, ◌≤◌, List, [], ◌∷◌, ◌++◌, length, get_or, take, refl, ap, ◌∙◌, pow-suc, arith, take-suc, take_all, length-take-le}
use Rattle.std.proofs.Math.Nat.{div-div-eq-div-mul, div-one, sub_self}
use Rattle.std.proofs.lemmas.List.{reverse-append}
use Rattle.std.specs.Int.{sum_through, byte_worth, bytes_low_first}
use Rattle.octets.specs.Numbers.{low_first, high_first, low_octets}

-- one octet more at the end
low_push : (octets : List ℕ) (last : ℕ) → low_first (octets ++ (last ∷ [])) ≡ low_first octets + last * 256 ^ length octets
unfolding low_first
low_push [] last = omega arith
low_push (octet ∷ rest) last = rw (pow-suc 256 (length rest)) (omega (arith, low_push rest last))

high_push : (octets : List ℕ) (last : ℕ) → high_first (octets ++ (last ∷ [])) ≡ last + 256 * high_first octets
unfolding high_first low_first
high_push octets last = rw (reverse-append octets (last ∷ []))

high_one : (octet : ℕ) → high_first (octet ∷ []) ≡ octet
unfolding high_first low_first
high_one octet = omega arith

worth : (i octet : ℕ) → byte_worth i octet ≡ octet * 256 ^ i
worth zero octet = omega arith
worth (suc i) octet = refl

-- the octets up to the last that is counted
module _ (octets : List ℕ) where
  through_low : (last : ℕ) → last < length octets → sum_through (λ i. byte_worth i (get_or octets i 0)) last ≡ low_first (take (suc last) octets)
  unfolding low_first
  through_low zero h = rw (take-suc octets 0 0 h) (omega arith)
  through_low (suc last) h =
      rw (through_low last (omega arith), take-suc octets (suc last) 0 h, low_push, length-take-le (suc last) octets (omega arith)) refl

  through_high : (top last : ℕ) → last ≤ top → last < length octets
      → sum_through (λ i. byte_worth (top - i) (get_or octets i 0)) last ≡ high_first (take (suc last) octets) * 256 ^ (top - last)
  through_high top zero within h = rw (take-suc octets 0 0 h, high_one, worth) refl
  through_high top (suc last) within h =
      let power : 256 ^ (top - last) ≡ 256 ^ (top - suc last) * 256 = ap (λ k. 256 ^ k) (omega arith) ∙ pow-suc 256 (top - suc last) in
      rw (through_high top last (omega arith) (omega arith), take-suc octets (suc last) 0 h, high_push, worth, power) (omega arith)

  pub from_low : (last : ℕ) → length octets ≡ suc last → sum_through (λ i. byte_worth i (get_or octets i 0)) last ≡ low_first octets
  from_low last e = through_low last (omega arith) ∙ ap low_first (take_all (suc last) octets (omega arith))

  pub from_high : (last : ℕ) → length octets ≡ suc last → sum_through (λ i. byte_worth (last - i) (get_or octets i 0)) last ≡ high_first octets
  from_high last e = through_high last last (omega arith) (omega arith) ∙ rw (take_all (suc last) octets (omega arith), sub_self last) (omega arith)

to_from : (from many n : ℕ) → bytes_low_first from many n ≡ low_octets many (n / 256 ^ from)
unfolding low_octets
to_from from zero n = refl
to_from zero (suc many) n = rw (to_from 1 many n, div-one) refl
to_from (suc from) (suc many) n = rw (to_from (suc (suc from)) many n, pow-suc 256 (suc from), div-div-eq-div-mul n (256 ^ suc from) 256) refl

pub to_low : (many n : ℕ) → bytes_low_first 0 many n ≡ low_octets many n
to_low many n = to_from 0 many n ∙ ap (low_octets many) (omega arith)
