-- What stands where in a record of each kind: two octets of length, the kind, and the body from octet 3 on. Plain numbers are high octet
-- first; labels stand in wire order. Assumes nothing.
use Rattle.std.specs.Prelude.{ℕ, ◌+◌, ◌-◌, ◌*◌, Bool, ◌&&◌, List, eqb, ℤ, get_or, take, drop}
use Rattle.octets.specs.Numbers.{high_first}
use Rattle.octets.specs.Values.{signed}
use Rattle.records.specs.Records.{kind_of}
use Rattle.label.specs.declared.LabelA.{LabelA}
use Rattle.label.specs.declared.LabelB.{LabelB}
use Rattle.label.specs.Label.{label_a_at, label_b_at}

-- a number of so many octets at a place
unfoldable pub number_at : ℕ → List ℕ → ℕ → ℕ
number_at width r at = high_first (take width (drop at r))

-- kind 1: link address, date, maker, product (2, 1, 1, 4)
unfoldable pub link_of : List ℕ → ℕ
link_of r = number_at 2 r 3

unfoldable pub date_of : List ℕ → ℕ
date_of r = get_or r 5 0

unfoldable pub maker_of : List ℕ → ℕ
maker_of r = get_or r 6 0

unfoldable pub product_of : List ℕ → ℕ
product_of r = number_at 4 r 7

-- kinds 2, 4 and 5: point
unfoldable pub point_of : List ℕ → ℕ
point_of r = number_at 2 r 3

-- kind 2: password
unfoldable pub password_of : List ℕ → ℕ
password_of r = number_at 4 r 5

-- kind 3: two labels a
unfoldable pub first_date : List ℕ → LabelA
first_date r = label_a_at r 3

unfoldable pub second_date : List ℕ → LabelA
second_date r = label_a_at r 8

-- kinds 4 and 5: record address
unfoldable pub record_address : List ℕ → ℕ
record_address r = get_or r 5 0

-- kind 4: label a, six (value 4, quality 1); the objects are numbered 1 to 6
unfoldable pub reading_label : List ℕ → LabelA
reading_label r = label_a_at r 6

unfoldable pub value_of : ℕ → List ℕ → ℤ
value_of object r = signed (number_at 4 r (11 + (object - 1) * 5))

unfoldable pub quality_of : ℕ → List ℕ → ℕ
quality_of object r = get_or r (15 + (object - 1) * 5) 0

-- kind 5: SPA, SPQ/SPI, label b
unfoldable pub spa_of : List ℕ → ℕ
spa_of r = get_or r 6 0

unfoldable pub spq_of : List ℕ → ℕ
spq_of r = get_or r 7 0

unfoldable pub event_label : List ℕ → LabelB
event_label r = label_b_at r 8

-- a record of a kind, and the record of a point
abbrev pub is_kind : ℕ → List ℕ → Bool
is_kind kind r = eqb (kind_of r) kind

abbrev pub is_point : ℕ → List ℕ → Bool
is_point point r = eqb (kind_of r) 2 && eqb (point_of r) point
