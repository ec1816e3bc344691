-- Document 02, #102, "The autumn hour", sentence by sentence, as statements about the definition: labels are compared in standard time, by the calendar and not only as
-- minutes, and wherever labels are compared. They shut out a definition that leaves SU out; one that adds the hour, takes it off the labels with SU 0, or compares SU as a
-- bit; one that takes one off the hour's number and leaves day, month or year; one for which no instant is negative, so that the first hour of 2000 in summer time
-- lies elsewhere; one that puts readings in order so and events not; one that chooses, or finds the first label after the last, by what the clocks show; and one that
-- judges SU. Assumes nothing.
use Rattle.std.specs.Prelude.{ℕ, ◌+◌, ◌<◌, Bool, true, false, not, ◌&&◌, List, [], ◌∷◌, map, ◌≡◌, eqb, ℤ, pos, negsuc, ◌-ℤ◌, length, get_or}
use Rattle.octets.specs.Choice.{when◌then◌else◌}
use Rattle.label.specs.declared.LabelA.{LabelA}
use Rattle.label.specs.declared.LabelB.{LabelB}
use Rattle.label.specs.Label.{label_a_at, date_time_a, valid_a, su, instant, before_a, valid_b, before_b, parts_a}
use Rattle.label.specs.Standard.{standard_at, as_it_stands, hour_earlier, standard_a, parts_in, standard_parts_a, standard_parts_b, parts_b, earlier}
use Rattle.records.specs.Records.{kind_of}
use Rattle.fields.specs.Parts.{point_of, record_address, reading_label, event_label}
use Rattle.fields.specs.Answers.{records_of}
use Rattle.image.specs.Image.{in_order, sound_image}
use Rattle.message.specs.declared.Request.{Request}
use Rattle.choice.specs.declared.Query.TheVariants.{Reading, Event}
use Rattle.choice.specs.Choice.{chosen}
use Rattle.rules.specs.Decide.{first_after_last, span_of}

-- "Labels a and b are compared in standard time": valid labels by year, month, day, hour, minute, and b also by second and millisecond
pub record InStandardTime : Type 0 where
  pub labels_a : (l l' : LabelA) → valid_a l ≡ true → valid_a l' ≡ true → before_a l l' ≡ earlier (standard_parts_a l) (standard_parts_a l')
  pub labels_b : (l l' : LabelB) → valid_b l ≡ true → valid_b l' ≡ true → before_b l l' ≡ earlier (standard_parts_b l) (standard_parts_b l')

-- with equal SU that is document 01's order, by the parts as they stand
pub record EqualSu : Type 0 where
  pub labels_a : (l l' : LabelA) → valid_a l ≡ true → valid_a l' ≡ true → su l ≡ su l' → before_a l l' ≡ earlier (parts_a l) (parts_a l')
  pub labels_b : (l l' : LabelB) → valid_b l ≡ true → valid_b l' ≡ true → su l.a ≡ su l'.a → before_b l l' ≡ earlier (parts_b l) (parts_b l')

-- "with SU 1 the label counts one hour earlier": between a label with SU 1 and one with SU 0 it is the same order with one hour taken off the first by the calendar
abbrev pub HourTakenOff : Type 0
HourTakenOff =
    (l l' : LabelA) → valid_a l ≡ true → valid_a l' ≡ true → su l ≡ 1 → su l' ≡ 0
    → (before_a l l' ≡ earlier (parts_in (hour_earlier (date_time_a l))) (parts_in (as_it_stands (date_time_a l'))))
    × (before_a l' l ≡ earlier (parts_in (as_it_stands (date_time_a l'))) (parts_in (hour_earlier (date_time_a l))))

-- "are the same instant": exactly those that are the same date and time in standard time
pub record SameInstant : Type 0 where
  pub same_so : (l l' : LabelA) → valid_a l ≡ true → valid_a l' ≡ true → instant l ≡ instant l' → standard_a l ≡ standard_a l'
  pub so_same : (l l' : LabelA) → valid_a l ≡ true → valid_a l' ≡ true → standard_a l ≡ standard_a l' → instant l ≡ instant l'

-- "A summer label in the first hour of 2000 lies before the year's start and must still compare": so many minutes before it, in the last hour of 1999, and before
-- every valid label with SU 0
abbrev pub FirstHour : Type 0
FirstHour =
    (l : LabelA) → valid_a l ≡ true → su l ≡ 1 → (minute : ℕ) → parts_a l ≡ 0 ∷ 1 ∷ 1 ∷ 0 ∷ minute ∷ []
    → (instant l ≡ pos minute -ℤ pos 60)
    × (standard_a l ≡ standard_at 1999 12 31 23 minute)
    × ((l' : LabelA) → valid_a l' ≡ true → su l' ≡ 0 → before_a l l' ≡ true)

-- SU is not judged: a label is valid with SU 1 where it is valid with SU 0
abbrev pub with_hour : LabelA → ℕ → LabelA
with_hour l hour = record { minute = l.minute; hour = hour; day = l.day; month = l.month; year = l.year }

abbrev pub NotJudged : Type 0
NotJudged = (l : LabelA) (hour : ℕ) → hour < 128 → valid_a (with_hour l (128 + hour)) ≡ valid_a (with_hour l hour)

-- 8, "image not sound": readings of one point and record address rise strictly in standard time, events rise, equals allowed; "two readings so labelled are still
-- refused", wherever they stand
pub record OrderOfImage : Type 0 where
  pub readings : (r q : List ℕ) → kind_of r ≡ 4 → kind_of q ≡ 4 → point_of r ≡ point_of q → record_address r ≡ record_address q
      → valid_a (reading_label r) ≡ true → valid_a (reading_label q) ≡ true
      → in_order r q ≡ earlier (standard_parts_a (reading_label r)) (standard_parts_a (reading_label q))
  pub events : (r q : List ℕ) → kind_of r ≡ 5 → kind_of q ≡ 5 → point_of r ≡ point_of q → record_address r ≡ record_address q
      → valid_b (event_label r) ≡ true → valid_b (event_label q) ≡ true
      → in_order r q ≡ not (earlier (standard_parts_b (event_label q)) (standard_parts_b (event_label r)))
  pub no_two : (image : List ℕ) (i j : ℕ) → i < j → j < length (records_of image)
      → kind_of (get_or (records_of image) i []) ≡ 4 → kind_of (get_or (records_of image) j []) ≡ 4
      → point_of (get_or (records_of image) i []) ≡ point_of (get_or (records_of image) j [])
      → record_address (get_or (records_of image) i []) ≡ record_address (get_or (records_of image) j [])
      → instant (reading_label (get_or (records_of image) i [])) ≡ instant (reading_label (get_or (records_of image) j []))
      → sound_image image ≡ false

-- from first to last in standard time, both in: neither before the first nor behind the last
abbrev pub from_to : LabelA → LabelA → LabelA → Bool
from_to first last l = not (earlier (standard_parts_a l) (standard_parts_a first)) && not (earlier (standard_parts_a last) (standard_parts_a l))

-- "Selection uses it too": a reading by its label, an event by its minute; and 18, first after last
pub record Selection : Type 0 where
  pub readings : (request : Request) (r : List ℕ) → valid_a request.first ≡ true → valid_a request.last ≡ true → valid_a (reading_label r) ≡ true
      → chosen (Reading (span_of request)) r
      ≡ (eqb (kind_of r) 4
      && (eqb (point_of r) request.header.point.0
      && (eqb (record_address r) request.header.record_address && from_to request.first request.last (reading_label r))))
  pub events : (request : Request) (r : List ℕ) → valid_a request.first ≡ true → valid_a request.last ≡ true → valid_a (event_label r).a ≡ true
      → chosen (Event (span_of request)) r
      ≡ (eqb (kind_of r) 5
      && (eqb (point_of r) request.header.point.0
      && (eqb (record_address r) request.header.record_address && from_to request.first request.last (event_label r).a)))
  pub first_after : (request : Request) → valid_a request.first ≡ true → valid_a request.last ≡ true
      → first_after_last request ≡ earlier (standard_parts_a request.last) (standard_parts_a request.first)

-- The request's examples, as one list: two labels by their octets, each with its instant, and how the first lies to the second
pub data Lies : Type 0 where
  before : Lies
  at_once : Lies
  behind : Lies

pub record Example : Type 0 where
  pub first : List ℕ
  pub first_instant : ℤ
  pub lies : Lies
  pub second : List ℕ
  pub second_instant : ℤ

abbrev pub example : List ℕ → ℤ → Lies → List ℕ → ℤ → Example
example first i lies second j = record { first = first; first_instant = i; lies = lies; second = second; second_instant = j }

abbrev pub examples : List Example
examples =
    -- 28 October 2001: 02:15 with SU 1, and with SU 0
    example (0x0F ∷ 0x82 ∷ 0xFC ∷ 0x0A ∷ 0x01 ∷ []) (pos 959115) before (0x0F ∷ 0x02 ∷ 0xFC ∷ 0x0A ∷ 0x01 ∷ []) (pos 959175)
    ∷ example (0x0F ∷ 0x02 ∷ 0xFC ∷ 0x0A ∷ 0x01 ∷ []) (pos 959175) behind (0x0F ∷ 0x82 ∷ 0xFC ∷ 0x0A ∷ 0x01 ∷ []) (pos 959115)
    -- 02:15 with SU 0, and 03:15 with SU 1
    ∷ example (0x0F ∷ 0x02 ∷ 0xFC ∷ 0x0A ∷ 0x01 ∷ []) (pos 959175) at_once (0x0F ∷ 0x83 ∷ 0xFC ∷ 0x0A ∷ 0x01 ∷ []) (pos 959175)
    -- 1 January 2000: 00:15 with SU 1 is at -45, before 00:00 with SU 0, and before 01:00 with SU 1, which is 00:00
    ∷ example (0x0F ∷ 0x80 ∷ 0xC1 ∷ 0x01 ∷ 0x00 ∷ []) (negsuc 44) before (0x00 ∷ 0x00 ∷ 0xC1 ∷ 0x01 ∷ 0x00 ∷ []) (pos 0)
    ∷ example (0x0F ∷ 0x80 ∷ 0xC1 ∷ 0x01 ∷ 0x00 ∷ []) (negsuc 44) before (0x00 ∷ 0x81 ∷ 0xC1 ∷ 0x01 ∷ 0x00 ∷ []) (pos 0)
    -- 00:15 with SU 1, and 23:15 with SU 0 of the day before: over midnight, a month's end, a leap day, the end of February in another year, a year's end
    ∷ example (0x0F ∷ 0x80 ∷ 0xFC ∷ 0x0A ∷ 0x01 ∷ []) (pos 958995) at_once (0x0F ∷ 0x17 ∷ 0xDB ∷ 0x0A ∷ 0x01 ∷ []) (pos 958995)
    ∷ example (0x0F ∷ 0x80 ∷ 0xC1 ∷ 0x09 ∷ 0x01 ∷ []) (pos 876915) at_once (0x0F ∷ 0x17 ∷ 0xBF ∷ 0x08 ∷ 0x01 ∷ []) (pos 876915)
    ∷ example (0x0F ∷ 0x80 ∷ 0x61 ∷ 0x03 ∷ 0x00 ∷ []) (pos 86355) at_once (0x0F ∷ 0x17 ∷ 0x5D ∷ 0x02 ∷ 0x00 ∷ []) (pos 86355)
    ∷ example (0x0F ∷ 0x80 ∷ 0x81 ∷ 0x03 ∷ 0x01 ∷ []) (pos 611955) at_once (0x0F ∷ 0x17 ∷ 0x7C ∷ 0x02 ∷ 0x01 ∷ []) (pos 611955)
    ∷ example (0x0F ∷ 0x80 ∷ 0x21 ∷ 0x01 ∷ 0x01 ∷ []) (pos 526995) at_once (0x0F ∷ 0x17 ∷ 0xFF ∷ 0x0C ∷ 0x00 ∷ []) (pos 526995)
    ∷ []

-- how two labels lie, by the definition
abbrev pub lies_to : LabelA → LabelA → Lies
lies_to l l' = when before_a l l' then before else when before_a l' l then behind else at_once

abbrev pub worked : Example → Example
worked e =
    let l = label_a_at e.first 0 in
    let l' = label_a_at e.second 0 in
    example e.first (instant l) (lies_to l l') e.second (instant l')

abbrev pub ExamplesHold : Type 0
ExamplesHold = map worked examples ≡ examples
