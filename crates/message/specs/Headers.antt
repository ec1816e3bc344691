-- The header of a message. Document 01, "Messages": type, structure octet (SQ 0, count N), cause (bit 8 T, bit 7 P/N, six bits cause),
-- metering point low octet first, record address. Octets that a message does not have count as 0. Assumes nothing.
use Rattle.std.specs.Prelude.{ℕ, ◌+◌, ◌*◌, List, [], ◌∷◌, ◌++◌, get_or}
use Rattle.octets.specs.Bits.{bits◌to◌of◌}
use Rattle.octets.specs.Numbers.{low_first, low_octets}
use Rattle.message.specs.declared.Header.{Header}

-- the cause octet's parts, and the octet of them
abbrev pub t_of : ℕ → ℕ
t_of octet = bits 8 to 8 of octet

abbrev pub pn_of : ℕ → ℕ
pn_of octet = bits 7 to 7 of octet

abbrev pub cause_of : ℕ → ℕ
cause_of octet = bits 1 to 6 of octet

abbrev pub cause_octet : ℕ → ℕ → ℕ → ℕ
cause_octet t pn cause = t * 128 + pn * 64 + cause

unfoldable pub header_of : List ℕ → Header
header_of m =
    record {
      type_id = get_or m 0 0;
      structure = get_or m 1 0;
      cause = get_or m 2 0;
      point = record { 0 = low_first (get_or m 3 0 ∷ get_or m 4 0 ∷ []) };
      record_address = get_or m 5 0;
    }

unfoldable pub header_octets : Header → List ℕ
header_octets h = h.type_id ∷ h.structure ∷ h.cause ∷ (low_octets 2 h.point.0 ++ (h.record_address ∷ []))
