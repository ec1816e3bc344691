-- The single parts of an image. Each is what stands there, or that nothing does, so that any octets have an answer.
-- Assumes nothing.
use Rattle.std.specs.Prelude.{ℕ, ◌+◌, Bool, eqb, length, Option, Some, None}
use mathlib.Core.List.{List, [], ◌∷◌, flatten}
use Rattle.octets.specs.Choice.{when◌then◌else◌}
use Rattle.address.specs.declared.PointAddress.{PointAddress}
use Rattle.records.specs.Records.{kind_at, record_at, records_from, place_after}
use Rattle.fields.specs.Parts.{link_of, date_of, maker_of, product_of, point_of, password_of, first_date, second_date, is_kind}
use Rattle.fields.specs.declared.Identity.{Identity}
use Rattle.fields.specs.declared.Point.{Point}
use Rattle.fields.specs.declared.Dates.{Dates}

-- version 1, then records: the first stands at place 1
unfoldable pub records_of : List ℕ → List (List ℕ)
records_of image = records_from image 1

-- the first record, where it is of kind 1
unfoldable pub identity_found : List ℕ → Option Identity
identity_found image =
    let r = record_at image 1 in
    when eqb (kind_at image 1) 1 then Some (record { link = record { 0 = link_of r }; date = date_of r; maker = maker_of r; product = product_of r }) else
    None

-- the records from the front on up to the first of which a test does not hold
unfoldable pub leading : (List ℕ → Bool) → List (List ℕ) → List (List ℕ)
leading f [] = []
leading f (r ∷ rs) = when f r then r ∷ leading f rs else []

-- the points stand behind the first record, one after the other
unfoldable pub points_from : List ℕ → ℕ → List (List ℕ)
points_from image at = leading (is_kind 2) (records_from image at)

unfoldable pub points_of : List ℕ → List (List ℕ)
points_of image = points_from image (place_after image 1)

-- the first of them with an address, counted from a number on
unfoldable pub point_in : ℕ → ℕ → List (List ℕ) → Option Point
point_in address number [] = None
point_in address number (r ∷ rs) =
    when eqb (point_of r) address then Some (record { number = number; password = password_of r }) else
    point_in address (number + 1) rs

unfoldable pub point_found : PointAddress → List ℕ → Option Point
point_found address image = point_in address.0 1 (points_of image)

-- the switch dates at a place
unfoldable pub dates_at : List ℕ → ℕ → Option Dates
dates_at image at =
    let r = record_at image at in
    when eqb (kind_at image at) 3 then Some (record { first = first_date r; second = second_date r }) else
    None

-- those of the image stand behind the points
unfoldable pub dates_place : List ℕ → ℕ
dates_place image = place_after image 1 + length (flatten (points_of image))

unfoldable pub dates_found : List ℕ → Option Dates
dates_found image = dates_at image (dates_place image)
