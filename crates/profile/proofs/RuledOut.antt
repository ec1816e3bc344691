-- What the public contracts of this crate do not allow: two wrong outcomes or more of each.
-- By computing the character, or by its parts. Assumes nothing.
use Prim.Native.Nat.{ℕ}
use mathlib.Core.Bool.{true, false}
use mathlib.Core.Path.{◌≡◌, sym, ap, ◌∙◌}
use contract.Lifetimes.{Lfts}
use Rattle.octets.specs.Sum.{octet_sum}
use Rattle.octets.proofs.Choice.{not_both}
use Rattle.octets.proofs.Outcome.{RuledOut, never}
use Rattle.profile.specs.declared.Character.{Character}
use Rattle.profile.specs.Character.{low_bits, bits_of, even_parity, rightly}
use Rattle.profile.proofs.Parity.{rightly_even}
use Rattle.profile.proofs.Character.of.Reads as character_of
use Rattle.profile.proofs.Character.is_right.Reads as is_right

module _ (κs : Lfts 0) where
  -- another octet than the one that is sent
  character_of_octet : (octet : ℕ) (wrong : Character) → (wrong.octet ≡ octet → ⊥) → RuledOut (character_of.Post κs) (octet, tt) wrong
  unfolding rightly
  character_of_octet octet wrong other s p = other (ap (λ (c : Character). c.octet) p)

  -- a character whose parity is odd
  character_of_odd : (octet : ℕ) (wrong : Character) → even_parity wrong ≡ false → RuledOut (character_of.Post κs) (octet, tt) wrong
  character_of_odd octet wrong odd s p = not_both odd (ap even_parity p ∙ rightly_even octet)

  -- odd parity taken for right: 01 with parity bit 0
  is_right_odd : RuledOut (is_right.Post κs) (record { octet = 1; parity = false }, tt) true
  unfolding even_parity bits_of low_bits octet_sum
  is_right_odd s p = never (cc)

  -- the data bits alone looked at: 01 with parity bit 1, whose data bits have an odd number of ones, refused
  is_right_data : RuledOut (is_right.Post κs) (record { octet = 1; parity = true }, tt) false
  unfolding even_parity bits_of low_bits octet_sum
  is_right_data s p = never (cc)

  -- an octet as it is sent refused, whichever it is
  is_right_sent : (octet : ℕ) → RuledOut (is_right.Post κs) (rightly octet, tt) false
  is_right_sent octet s p = not_both (sym p) (rightly_even octet)
