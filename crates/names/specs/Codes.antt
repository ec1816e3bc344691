-- The code of an event. SD1 4.4.2: "SPA: Single point information address (8 bit)", "SPQ: Single point information qualifier (7 bit) + SPI (un bit)", in
-- two octets, SPI the lowest bit of the second. Assumes nothing.
use Rattle.std.specs.Prelude.{ℕ, Bool, true, false, ltb, eqb}
use Rattle.octets.specs.Choice.{when◌then◌else◌}
use Rattle.octets.specs.Bits.{bits◌to◌of◌}
use Rattle.names.specs.declared.Code.{Code}

abbrev pub code : ℕ → ℕ → Code
code spa spq = record { spa = spa; spq = spq }

-- of an event's two octets
unfoldable pub code_of_event : ℕ → ℕ → Code
code_of_event spa octet = code spa (bits 2 to 8 of octet)

unfoldable pub same_code : Code → Code → Bool
same_code a b = when eqb a.spa b.spa then eqb a.spq b.spq else false

-- "rising by SPA and SPQ without equals": by SPA, and with the same SPA by SPQ
unfoldable pub rises_to : Code → Code → Bool
rises_to a b =
    when ltb a.spa b.spa then true else
    when eqb a.spa b.spa then ltb a.spq b.spq else
    false
