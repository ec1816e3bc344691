-- The records of any octets. Document 01, "The meter image": each a 2-octet length, a kind and a body; the length counts kind and body.
-- Assumes nothing.
use Rattle.std.specs.Prelude.{ℕ, zero, suc, ◌+◌, Bool, true, false, List, [], ◌∷◌, ltb, leb, eqb, length, get_or, take, drop}
use Rattle.octets.specs.Choice.{when◌then◌else◌}
use Rattle.octets.specs.Conditions.{holds}
use Rattle.octets.specs.Numbers.{high_first}

-- the length that a record of each kind has; 0 for what is no kind
unfoldable pub length_of : ℕ → ℕ
length_of kind =
    when eqb kind 1 then 9 else
    when eqb kind 2 then 7 else
    when eqb kind 3 then 11 else
    when eqb kind 4 then 39 else
    when eqb kind 5 then 13 else
    0

-- of the record that stands first: its kind, and how many octets it takes with those of its length
abbrev pub kind_of : List ℕ → ℕ
kind_of s = get_or s 2 0

abbrev pub size_of : List ℕ → ℕ
size_of s = 2 + length_of (kind_of s)

-- a whole record stands first: its kind is one of the five, its length is that kind's, and all of it is there
unfoldable pub is_whole : List ℕ → Bool
is_whole s = holds (ltb 0 (length_of (kind_of s)) ∷ eqb (high_first (take 2 s)) (length_of (kind_of s)) ∷ leb (size_of s) (length s) ∷ [])

-- the records from the front on, each as its octets, up to the first that is not whole; the number bounds how many
unfoldable pub walk : ℕ → List ℕ → List (List ℕ)
walk zero s = []
walk (suc most) s = elim (is_whole s) [ true ↦ take (size_of s) s ∷ walk most (drop (size_of s) s) | false ↦ [] ]

unfoldable pub records : List ℕ → List (List ℕ)
records s = walk (length s) s

-- from a place on: whether a whole record stands there, its octets, and the records from there
unfoldable pub whole_at : List ℕ → ℕ → Bool
whole_at s at = is_whole (drop at s)

unfoldable pub record_at : List ℕ → ℕ → List ℕ
record_at s at = take (size_of (drop at s)) (drop at s)

unfoldable pub records_from : List ℕ → ℕ → List (List ℕ)
records_from s at = records (drop at s)

-- its kind, and the place after it; where none is whole, kind 0 and the place itself
unfoldable pub kind_at : List ℕ → ℕ → ℕ
kind_at s at = when whole_at s at then get_or s (at + 2) 0 else 0

unfoldable pub place_after : List ℕ → ℕ → ℕ
place_after s at = when whole_at s at then at + length (record_at s at) else at
