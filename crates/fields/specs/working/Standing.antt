-- The record of a kind that stands at a place, as the code reads it, and the points as it goes over them. Nothing here has to be believed: that it
-- comes to what `Answers` and `Calls` say of an image is proved. Assumes nothing.
use Rattle.std.specs.Prelude.{ℕ, ◌+◌, ◌≡◌, List, map, length}
use Rattle.address.specs.declared.PointAddress.{PointAddress}
use Rattle.records.specs.Records.{length_of, kind_at, record_at}
use Rattle.fields.specs.Parts.{point_of, password_of}
use Rattle.fields.specs.Answers.{points_from}

-- a record of a kind stands at a place, and has these octets
pub record StandsThere (kind : ℕ) (s : List ℕ) (at : ℕ) (r : List ℕ) : Type 0 where
  pub is_kind : kind_at s at ≡ kind
  pub is_record : r ≡ record_at s at
  pub size : length r ≡ 2 + length_of kind

-- a point's address and password; and those of the points from a place on
abbrev pub entry : List ℕ → PointAddress × ℕ
entry r = (record { 0 = point_of r }, password_of r)

abbrev pub entries_from : List ℕ → ℕ → List (PointAddress × ℕ)
entries_from image at = map entry (points_from image at)
