-- What the public contracts of this crate do not allow: two wrong outcomes or more of each.
-- By computation on small images; and by the test where nothing of the kind stands. Assumes nothing.
use Rattle.std.specs.Prelude.{Option, Some, None}
use Prim.Native.Nat.{ℕ}
use mathlib.Core.Bool.{false, and-false}
use mathlib.Core.List.{List, [], ◌∷◌, ◌++◌, flatten}
use mathlib.Core.Path.{◌≡◌, ap}
use native.Mathlib.Omega.{arith}
use contract.Lifetimes.{Lfts}
use lib.Dec.{eqb}
use lib.IntN.{ℤ, pos, nat_abs}
use lib.ListN.{length, get_or}
use borrow.Author.Tests.{ne_eqb}
use Rattle.octets.specs.Conditions.{holds}
use Rattle.octets.specs.Numbers.{low_first, high_first}
use Rattle.octets.specs.Values.{signed}
use Rattle.octets.proofs.Outcome.{RuledOut, Place, lent, never}
use Rattle.address.specs.declared.LinkAddress.{LinkAddress}
use Rattle.label.specs.declared.LabelA.{LabelA}
use Rattle.label.specs.declared.LabelB.{LabelB}
use Rattle.records.specs.Records.{length_of, is_whole, walk, records, whole_at, record_at, records_from, kind_at, place_after}
use Rattle.fields.specs.declared.Key.{Key}
use Rattle.fields.specs.declared.Point.{Point}
use Rattle.fields.specs.declared.Dates.{Dates}
use Rattle.fields.specs.declared.Value.{Value}
use Rattle.fields.specs.declared.Event.{Event}
use Rattle.label.specs.Label.{label_a_at, label_b_at}
use Rattle.fields.specs.Parts.{number_at, link_of, maker_of, product_of, point_of, password_of, second_date, reading_label, value_of, quality_of, spa_of, event_label}
use Rattle.fields.specs.working.Key.{at_minute, no_label, key, key_of, key_at, key_as}
use Rattle.fields.specs.Answers.{identity_found, leading, points_from, points_of, point_in, point_found, dates_at, dates_place, dates_found}
use Rattle.fields.specs.Calls.{value_found, event_found}
use Rattle.fields.proofs.key_at.Reads as key_at_call
use Rattle.fields.proofs.reading_key.Reads as reading_key
use Rattle.fields.proofs.event_key.Reads as event_key
use Rattle.fields.proofs.identity_of.Reads as identity_of
use Rattle.fields.proofs.points.Reads as points
use Rattle.fields.proofs.point_of.Reads as point_of_call
use Rattle.fields.proofs.dates_at.Reads as dates_at_call
use Rattle.fields.proofs.dates_of.Reads as dates_of
use Rattle.fields.proofs.value_at.Reads as value_at
use Rattle.fields.proofs.event_at.Reads as event_at
use Rattle.fields.specs.declared.Identity.{Identity}

-- to unfold one of these is to unfold what a record, and the points behind the first one, stand on
the_record : Unit {0}
unfolding kind_at record_at whole_at is_whole holds length_of high_first low_first
the_record = tt

the_points : Unit {0}
unfolding points_of points_from leading flatten records_from records walk place_after the_record
the_points = tt

-- records of each kind: link address 1, date 26, maker 7, product 12345678 hex; points 1 and 2 with their passwords; two switch dates; a
-- reading of point 1 and record 11, values 1 to 5 and -1, quality 9; an event of point 1 and record 52, SPA 3, SPQ/SPI 4
abbrev head1 : List ℕ
head1 = 0 ∷ 9 ∷ 1 ∷ 0 ∷ 1 ∷ 26 ∷ 7 ∷ 0x12 ∷ 0x34 ∷ 0x56 ∷ 0x78 ∷ []

abbrev point1 : List ℕ
point1 = 0 ∷ 7 ∷ 2 ∷ 0 ∷ 1 ∷ 0x12 ∷ 0x34 ∷ 0x56 ∷ 0x78 ∷ []

abbrev point2 : List ℕ
point2 = 0 ∷ 7 ∷ 2 ∷ 0 ∷ 2 ∷ 0x9A ∷ 0xBC ∷ 0xDE ∷ 0xF0 ∷ []

abbrev dates1 : List ℕ
dates1 = 0 ∷ 11 ∷ 3 ∷ 0 ∷ 2 ∷ 29 ∷ 3 ∷ 26 ∷ 0 ∷ 3 ∷ 25 ∷ 10 ∷ 26 ∷ []

abbrev reading1 : List ℕ
reading1 =
    0 ∷ 39 ∷ 4 ∷ 0 ∷ 1 ∷ 11 ∷ 15 ∷ 0 ∷ 1 ∷ 1 ∷ 26 ∷ 0 ∷ 0 ∷ 0 ∷ 1 ∷ 9 ∷ 0 ∷ 0 ∷ 0 ∷ 2 ∷ 9 ∷ 0 ∷ 0 ∷ 0 ∷ 3 ∷ 9 ∷ 0 ∷ 0 ∷ 0 ∷ 4 ∷ 9 ∷ 0 ∷ 0 ∷ 0 ∷ 5 ∷ 9
    ∷ 0xFF ∷ 0xFF ∷ 0xFF ∷ 0xFF ∷ 9 ∷ []

abbrev event1 : List ℕ
event1 = 0 ∷ 13 ∷ 5 ∷ 0 ∷ 1 ∷ 52 ∷ 3 ∷ 4 ∷ 0xE7 ∷ 0xEF ∷ 15 ∷ 0 ∷ 1 ∷ 1 ∷ 26 ∷ []

-- an image with one point and switch dates, one with two points and none
abbrev image1 : List ℕ
image1 = 1 ∷ head1 ++ point1 ++ dates1

abbrev image2 : List ℕ
image2 = 1 ∷ head1 ++ point1 ++ point2

abbrev label_a : ℕ → ℕ → ℕ → ℕ → ℕ → LabelA
label_a minute hour day month year = record { minute = minute; hour = hour; day = day; month = month; year = year }

abbrev label_b : ℕ → ℕ → LabelA → LabelB
label_b low high a = record { low = low; high = high; a = a }

-- what is found, as numbers
abbrev head_numbers : Option Identity → List ℕ
head_numbers (Some h) = h.link.0 ∷ h.date ∷ h.maker ∷ h.product ∷ []
head_numbers None = []

abbrev point_numbers : Option Point → List ℕ
point_numbers (Some p) = p.number ∷ p.password ∷ []
point_numbers None = []

abbrev dates_days : Option Dates → List ℕ
dates_days (Some d) = d.first.day ∷ d.second.day ∷ []
dates_days None = []

abbrev value_numbers : Option Value → List ℕ
value_numbers (Some v) = nat_abs v.value ∷ v.quality ∷ []
value_numbers None = []

abbrev event_numbers : Option Event → List ℕ
event_numbers (Some e) = e.spa ∷ e.spq ∷ []
event_numbers None = []

module _ (κs : Lfts 1) (x : Place) where
  -- a reading's key with its kind alone
  key_at_reading : RuledOut (key_at_call.Post κs) (lent x reading1, (0, tt)) (key 4 0 0 no_label)
  unfolding key_at key_of point_of number_at the_record
  key_at_reading s p = omega (arith, ap (λ (r : Key). r.point.0) p)

  -- a point's address low octet first
  key_at_point : RuledOut (key_at_call.Post κs) (lent x point1, (0, tt)) (key 2 256 0 no_label)
  unfolding key_at key_of point_of number_at the_record
  key_at_point s p = omega (arith, ap (λ (r : Key). r.point.0) p)

  -- kind 0 for switch dates
  key_at_dates : RuledOut (key_at_call.Post κs) (lent x dates1, (0, tt)) (key 0 0 0 no_label)
  unfolding key_at key_of the_record
  key_at_dates s p = omega (arith, ap (λ (r : Key). r.kind) p)

  -- a key of any kind where no whole record stands, whatever the octets
  key_at_none : (octets : List ℕ) (at : ℕ) (k : Key) → whole_at octets at ≡ false → (k.kind ≡ 0 → ⊥)
      → RuledOut (key_at_call.Post κs) (lent x octets, (at, tt)) k
  unfolding key_at
  key_at_none octets at k none n s p = n (ap (λ (r : Key). r.kind) (rw none at p))

  -- the label one octet late
  reading_key_label : RuledOut (reading_key.Post κs) (lent x reading1, (0, tt)) (key 4 1 11 (at_minute (label_a 0 1 1 26 0)))
  unfolding key_as key_at key_of reading_label label_a_at the_record
  reading_key_label s p = omega (arith, ap (λ (r : Key). r.label.a.minute) p)

  -- the kind of an event for a reading
  reading_key_kind : RuledOut (reading_key.Post κs) (lent x reading1, (0, tt)) (key 5 1 11 (at_minute (label_a 15 0 1 1 26)))
  unfolding key_as key_at key_of the_record
  reading_key_kind s p = omega (arith, ap (λ (r : Key). r.kind) p)

  -- the key of a reading where none stands, whatever the octets
  reading_key_none : (octets : List ℕ) (at : ℕ) (k : Key) → (kind_at octets at ≡ 4 → ⊥) → (k.kind ≡ 0 → ⊥)
      → RuledOut (reading_key.Post κs) (lent x octets, (at, tt)) k
  unfolding key_as
  reading_key_none octets at k none n s p = n (ap (λ (r : Key). r.kind) (rw (ne_eqb (kind_at octets at) 4 none) at p))

  -- the label one octet early
  event_key_label : RuledOut (event_key.Post κs) (lent x event1, (0, tt)) (key 5 1 52 (label_b 4 0xE7 (label_a 0xEF 15 0 1 1)))
  unfolding key_as key_at key_of event_label label_b_at the_record
  event_key_label s p = omega (arith, ap (λ (r : Key). r.label.low) p)

  -- the kind of a reading for an event
  event_key_kind : RuledOut (event_key.Post κs) (lent x event1, (0, tt)) (key 4 1 52 (label_b 0xE7 0xEF (label_a 15 0 1 1 26)))
  unfolding key_as key_at key_of the_record
  event_key_kind s p = omega (arith, ap (λ (r : Key). r.kind) p)

  -- the key of an event where none stands, whatever the octets
  event_key_none : (octets : List ℕ) (at : ℕ) (k : Key) → (kind_at octets at ≡ 5 → ⊥) → (k.kind ≡ 0 → ⊥)
      → RuledOut (event_key.Post κs) (lent x octets, (at, tt)) k
  unfolding key_as
  event_key_none octets at k none n s p = n (ap (λ (r : Key). r.kind) (rw (ne_eqb (kind_at octets at) 5 none) at p))

  -- the product one octet early, whatever the rest
  identity_of_product : (link : LinkAddress) (date maker : ℕ)
      → RuledOut (identity_of.Post κs) (lent x image1, tt) (Some (record { link = link; date = date; maker = maker; product = 0x07123456 }))
  unfolding identity_found product_of number_at the_record
  identity_of_product link date maker s p = omega (arith, ap (λ (r : Option Identity). get_or (head_numbers r) 3 0) p)

  -- the date as the maker, whatever the rest
  identity_of_maker : (link : LinkAddress) (date product : ℕ)
      → RuledOut (identity_of.Post κs) (lent x image1, tt) (Some (record { link = link; date = date; maker = 26; product = product }))
  unfolding identity_found maker_of the_record
  identity_of_maker link date product s p = omega (arith, ap (λ (r : Option Identity). get_or (head_numbers r) 2 0) p)

  -- the link address low octet first, whatever the rest
  identity_of_link : (date maker product : ℕ)
      → RuledOut (identity_of.Post κs) (lent x image1, tt) (Some (record { link = record { 0 = 256 }; date = date; maker = maker; product = product }))
  unfolding identity_found link_of number_at the_record
  identity_of_link date maker product s p = omega (arith, ap (λ (r : Option Identity). get_or (head_numbers r) 0 0) p)

  -- one point more than there are
  points_from_one : RuledOut (points.Post κs) (lent x image2, tt) 3
  unfolding the_points
  points_from_one s p = omega arith

  -- each point counted twice
  points_twice : RuledOut (points.Post κs) (lent x image2, tt) 4
  unfolding the_points
  points_twice s p = omega arith

  -- points numbered from 0, whatever the password
  point_of_number : (password : ℕ)
      → RuledOut (point_of_call.Post κs) (lent x image2, (record { 0 = 1 }, tt)) (Some (record { number = 0; password = password }))
  unfolding point_found point_in point_of number_at the_points
  point_of_number password s p = omega (arith, ap (λ (r : Option Point). get_or (point_numbers r) 0 0) p)

  -- the password one octet early, whatever the number
  point_of_password : (number : ℕ)
      → RuledOut (point_of_call.Post κs) (lent x image2, (record { 0 = 1 }, tt)) (Some (record { number = number; password = 0x01123456 }))
  unfolding point_found point_in point_of password_of number_at the_points
  point_of_password number s p = omega (arith, ap (λ (r : Option Point). get_or (point_numbers r) 1 0) p)

  -- the first point's password for the second point
  point_of_other : (number : ℕ)
      → RuledOut (point_of_call.Post κs) (lent x image2, (record { 0 = 2 }, tt)) (Some (record { number = number; password = 0x12345678 }))
  unfolding point_found point_in point_of password_of number_at the_points
  point_of_other number s p = omega (arith, ap (λ (r : Option Point). get_or (point_numbers r) 1 0) p)

  -- a point that is not in the image, whatever its number and password
  point_of_none : (n : Point) → RuledOut (point_of_call.Post κs) (lent x image2, (record { 0 = 3 }, tt)) (Some n)
  unfolding point_found point_in point_of number_at the_points
  point_of_none n s p = omega (arith, ap (λ (r : Option Point). length (point_numbers r)) p)

  -- the first date twice
  dates_at_second : (first : LabelA)
      → RuledOut (dates_at_call.Post κs) (lent x dates1, (0, tt)) (Some (record { first = first; second = label_a 0 2 29 3 26 }))
  unfolding dates_at second_date label_a_at the_record
  dates_at_second first s p = omega (arith, ap (λ (r : Option Dates). get_or (dates_days r) 1 0) p)

  -- switch dates where none stand, whatever the octets
  dates_at_kind : (octets : List ℕ) (at : ℕ) (d : Dates) → (kind_at octets at ≡ 3 → ⊥)
      → RuledOut (dates_at_call.Post κs) (lent x octets, (at, tt)) (Some d)
  unfolding dates_at
  dates_at_kind octets at d none s p = never (cc (rw (ne_eqb (kind_at octets at) 3 none) at p))

  -- nothing where switch dates stand behind a point
  dates_of_place : RuledOut (dates_of.Post κs) (lent x image1, tt) None
  unfolding dates_found dates_place dates_at the_points
  dates_of_place s p = omega (arith, ap (λ (r : Option Dates). length (dates_days r)) p)

  -- the first date twice, of an image
  dates_of_second : (first : LabelA)
      → RuledOut (dates_of.Post κs) (lent x image1, tt) (Some (record { first = first; second = label_a 0 2 29 3 26 }))
  unfolding dates_found dates_place dates_at second_date label_a_at the_points
  dates_of_second first s p = omega (arith, ap (λ (r : Option Dates). get_or (dates_days r) 1 0) p)

  -- switch dates of an image that has none, whatever they are
  dates_of_none : (d : Dates) → RuledOut (dates_of.Post κs) (lent x image2, tt) (Some d)
  unfolding dates_found dates_place dates_at the_points
  dates_of_none d s p = omega (arith, ap (λ (r : Option Dates). length (dates_days r)) p)

  -- an object 7, whatever the octets
  value_at_object : (octets : List ℕ) (at : ℕ) (v : Value) → RuledOut (value_at.Post κs) (lent x octets, (at, (7, tt))) (Some v)
  unfolding value_found
  value_at_object octets at v s p = never (cc (rw (and-false (eqb (kind_at octets at) 4)) at p))

  -- an object where no reading stands, whatever the octets
  value_at_kind : (octets : List ℕ) (at object : ℕ) (v : Value) → (kind_at octets at ≡ 4 → ⊥)
      → RuledOut (value_at.Post κs) (lent x octets, (at, (object, tt))) (Some v)
  unfolding value_found
  value_at_kind octets at object v none s p = never (cc (rw (ne_eqb (kind_at octets at) 4 none) at p))

  -- an octet of the value as quality
  value_at_quality : (v : ℤ) → RuledOut (value_at.Post κs) (lent x reading1, (0, (1, tt))) (Some (record { value = v; quality = 1 }))
  unfolding value_found quality_of the_record
  value_at_quality v s p = omega (arith, ap (λ (r : Option Value). get_or (value_numbers r) 1 0) p)

  -- the value low octet first
  value_at_order : (quality : ℕ)
      → RuledOut (value_at.Post κs) (lent x reading1, (0, (2, tt))) (Some (record { value = pos 0x02000000; quality = quality }))
  unfolding value_found value_of signed number_at the_record
  value_at_order quality s p = omega (arith, ap (λ (r : Option Value). get_or (value_numbers r) 0 0) p)

  -- a negative value without its sign
  value_at_sign : (quality : ℕ)
      → RuledOut (value_at.Post κs) (lent x reading1, (0, (6, tt))) (Some (record { value = pos 0xFFFFFFFF; quality = quality }))
  unfolding value_found value_of signed number_at the_record
  value_at_sign quality s p = omega (arith, ap (λ (r : Option Value). get_or (value_numbers r) 0 0) p)

  -- the SPQ/SPI octet as SPA, whatever the rest
  event_at_swapped : (spq : ℕ) (label : LabelB)
      → RuledOut (event_at.Post κs) (lent x event1, (0, tt)) (Some (record { spa = 4; spq = spq; label = label }))
  unfolding event_found spa_of the_record
  event_at_swapped spq label s p = omega (arith, ap (λ (r : Option Event). get_or (event_numbers r) 0 0) p)

  -- an event where a record of another kind or none stands, whatever the octets
  event_at_kind : (octets : List ℕ) (at : ℕ) (e : Event) → (kind_at octets at ≡ 5 → ⊥)
      → RuledOut (event_at.Post κs) (lent x octets, (at, tt)) (Some e)
  unfolding event_found
  event_at_kind octets at e none s p = never (cc (rw (ne_eqb (kind_at octets at) 5 none) at p))
