-- A run in which bits were altered. #104: "a sound frame in which one, two or three data or parity bits were altered, the number of characters kept".
-- Assumes nothing.
use Rattle.std.specs.Prelude.{ℕ, ◌+◌, ◌-◌, ◌/◌, ◌%◌, ◌^◌, ◌≤◌, ◌<◌, not, List, [], ◌∷◌, ◌≡◌, eqb, ltb, length, get_or, set}
use Rattle.octets.specs.Choice.{when◌then◌else◌}
use Rattle.profile.specs.declared.Character.{Character}
use Rattle.profile.specs.Character.{rightly}

-- a character of the run and one of its nine bits, both counted from 0, the bits as they are sent: 0 to 7 the data bits, 8 the parity bit
pub record Place : Type 0 where
  pub character : ℕ
  pub bit : ℕ

-- a bit of a number altered, counted from 0, the lowest first: a 0 becomes a 1, a 1 becomes a 0
unfoldable pub with_bit : ℕ → ℕ → ℕ
with_bit bit number = when eqb (number / 2 ^ bit % 2) 0 then number + 2 ^ bit else number - 2 ^ bit

unfoldable pub with_bit_of : ℕ → Character → Character
with_bit_of bit c =
    when ltb bit 8 then record { octet = with_bit bit c.octet; parity = c.parity } else
    record { octet = c.octet; parity = not c.parity }

-- the bit at a place of a run altered; and at each of some places
unfoldable pub altered_at : Place → List Character → List Character
altered_at place run = set run place.character (with_bit_of place.bit (get_or run place.character (rightly 0)))

unfoldable pub altered : List Place → List Character → List Character
altered [] run = run
altered (place ∷ places) run = altered_at place (altered places run)

-- a place in a run of so many characters
pub record Within (many : ℕ) (place : Place) : Type 0 where
  pub in_run : place.character < many
  pub of_nine : place.bit < 9

-- another place than all of these
abbrev pub NoneOf : List Place → Place → Type 0
NoneOf [] place = Unit {0}
NoneOf (other ∷ others) place = (place ≡ other → ⊥) × NoneOf others place

-- places in a run of so many characters, no two the same
abbrev pub Places : ℕ → List Place → Type 0
Places many [] = Unit {0}
Places many (place ∷ places) = Within many place × (NoneOf places place × Places many places)

-- one, two or three bits of a run were altered
pub record FewAltered (run run' : List Character) : Type 0 where
  pub places : List Place
  pub some : 1 ≤ length places
  pub few : length places ≤ 3
  pub distinct : Places (length run) places
  pub so : run' ≡ altered places run
