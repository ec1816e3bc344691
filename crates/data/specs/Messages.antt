-- The data messages, octet by octet. Document 01, "Types 8 and 11: ..", and document 02, #101: lengths 11 + 6 each object, 6 + 9 each event,
-- 12, 13, 16; all of cause 5. Numbers are low octet first, labels stand as in the image. Assumes nothing.
use Rattle.std.specs.Prelude.{ℕ, zero, suc, List, [], ◌∷◌, ◌++◌, length}
use Rattle.octets.specs.Numbers.{low_octets}
use Rattle.octets.specs.Values.{unsigned}
use Rattle.address.specs.declared.PointAddress.{PointAddress}
use Rattle.label.specs.Label.{label_a_octets, label_b_octets}
use Rattle.fields.specs.declared.Identity.{Identity}
use Rattle.fields.specs.declared.Dates.{Dates}
use Rattle.fields.specs.Parts.{reading_label, value_of, quality_of, spa_of, spq_of, event_label}
use Rattle.message.specs.declared.ObjectRange.{ObjectRange}
use Rattle.message.specs.Headers.{header_octets}
use Rattle.message.specs.Requests.{objects_many}

-- type, N, point and record address; the cause is 5
unfoldable pub reply_header : ℕ → ℕ → PointAddress → ℕ → List ℕ
reply_header type count point address =
    header_octets (record { type_id = type; structure = count; cause = 5; point = point; record_address = address })

-- type 71 (N 1): date, maker, product
unfoldable pub identity_reply : PointAddress → Identity → List ℕ
identity_reply point head = reply_header 71 1 point 0 ++ (head.date ∷ head.maker ∷ low_octets 4 head.product)

-- type 72 (N 1): clock
unfoldable pub clock_reply : PointAddress → List ℕ → List ℕ
clock_reply point clock = reply_header 72 1 point 0 ++ clock

-- type 131 (N 1): dates
unfoldable pub dates_reply : PointAddress → Dates → List ℕ
dates_reply point dates = reply_header 131 1 point 0 ++ (label_a_octets dates.first ++ label_a_octets dates.second)

-- of a reading: object number, value, quality; so many objects, one after the other
unfoldable pub object_octets : ℕ → List ℕ → List ℕ
object_octets object r = object ∷ (low_octets 4 (unsigned (value_of object r)) ++ (quality_of object r ∷ []))

unfoldable pub objects_octets : ℕ → ℕ → List ℕ → List ℕ
objects_octets object zero r = []
objects_octets object (suc many) r = object_octets object r ++ objects_octets (suc object) many r

-- types 8 and 11 (N = last − first + 1): objects first to last, label
unfoldable pub reading_reply : ℕ → PointAddress → ℕ → ObjectRange → List ℕ → List ℕ
reading_reply type point address objects r =
    let many = objects_many objects in
    reply_header type many point address ++ (objects_octets objects.first many r ++ label_a_octets (reading_label r))

-- type 1: of each event SPA, SPQ/SPI octet, time b
unfoldable pub event_octets : List ℕ → List ℕ
event_octets r = spa_of r ∷ spq_of r ∷ label_b_octets (event_label r)

unfoldable pub events_octets : List (List ℕ) → List ℕ
events_octets [] = []
events_octets (r ∷ rs) = event_octets r ++ events_octets rs

unfoldable pub events_reply : PointAddress → ℕ → List (List ℕ) → List ℕ
events_reply point address rs = reply_header 1 (length rs) point address ++ events_octets rs
