-- Characters of a line with eleven bits. #104: "each octet comes with an even parity bit"; SD1, "Rete PSTN": start bit, 8 data bits, parity, stop bit.
-- Assumes nothing.
use Rattle.std.specs.Prelude.{ℕ, zero, suc, ◌/◌, ◌%◌, Bool, true, false, List, [], ◌∷◌, ◌++◌, eqb}
use Rattle.octets.specs.Sum.{octet_sum}
use Rattle.profile.specs.declared.Character.{Character}

-- the lowest bits of a number, so many of them, the lowest first
unfoldable pub low_bits : ℕ → ℕ → List ℕ
low_bits zero number = []
low_bits (suc many) number = number % 2 ∷ low_bits many (number / 2)

abbrev pub bit_of : Bool → ℕ
bit_of true = 1
bit_of false = 0

-- a character's nine bits in the order of the line: the eight data bits, the lowest first, and the parity bit
unfoldable pub bits_of : Character → List ℕ
bits_of c = low_bits 8 c.octet ++ (bit_of c.parity ∷ [])

-- how many of some bits are ones: their sum
abbrev pub ones : List ℕ → ℕ
ones bits = octet_sum bits

-- data bits and parity bit together have an even number of ones
unfoldable pub even_parity : Character → Bool
even_parity c = eqb (ones (bits_of c) % 2) 0

-- an octet with the parity bit that is right
unfoldable pub rightly : ℕ → Character
rightly octet = record { octet = octet; parity = eqb (ones (low_bits 8 octet) % 2) 1 }
