-- What this crate's own calls leave where it may not fit: of a lent buffer, and of octets that are kept. The card's definition does without it.
-- Assumes nothing.
use Rattle.std.specs.Prelude.{ℕ, ◌+◌, Bool, List, length, nat_le}
use Rattle.octets.specs.Choice.{when◌then◌else◌}
use Rattle.octets.specs.Over.{over}
use Rattle.octets.specs.declared.Kept.{Kept}

-- whether it fits
unfoldable pub fits_at : List ℕ → ℕ → List ℕ → Bool
fits_at under at top = nat_le (at + length top) (length under)

-- what writing leaves of the buffer: `top` over it, or all as it was where that does not fit
abbrev pub put_into : List ℕ → ℕ → List ℕ → List ℕ
put_into under at top = when fits_at under at top then over under at top else under

-- more octets behind those that count; what does not fit leaves all as it was
unfoldable pub added : Kept → List ℕ → Kept
added k top =
    when nat_le (k.length + length top) 252 then record { octets = over k.octets k.length top; length = k.length + length top } else
    k
