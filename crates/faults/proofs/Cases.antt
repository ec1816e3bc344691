-- The definitions, worked out: for each part of a label and each rule of an image a small case that breaks it, and what is then named. Over 65,535 octets is
-- not among them: see `Soundness`, `FirstFault`. By computation. Assumes nothing.
use Rattle.std.specs.Prelude.{Option, Some, None}
use Prim.Native.Nat.{ℕ}
use mathlib.Core.List.{List, [], ◌∷◌, flatten, map}
use mathlib.Core.Path.{◌≡◌, refl}
use lib.ListN.{replicate}
use Rattle.octets.specs.Conditions.{holds}
use Rattle.octets.specs.Numbers.{low_first, high_first}
use Rattle.label.specs.declared.LabelA.{LabelA}
use Rattle.label.specs.declared.LabelB.{LabelB}
use Rattle.label.specs.Calendar.{leap, leap_day, month_length, days_of_months, days_to_year, day_number}
use Rattle.label.specs.Time.{real, minutes}
use Rattle.label.specs.Label.{label_a_at, label_b_at, date_time_a, valid_a, instant, before_a, second, millisecond, valid_b, in_minute, before_b}
use Rattle.records.specs.Records.{length_of, is_whole, walk, records, records_from}
use Rattle.records.specs.Said.{keep, how_many}
use Rattle.fields.specs.Parts.{number_at, point_of, first_date, second_date, record_address, reading_label, event_label}
use Rattle.fields.specs.Answers.{records_of}
use Rattle.image.specs.Image.{reading_record, event_record, by_point, reading_before, event_before, in_order, knows}
use Rattle.faults.specs.declared.LabelFault.{LabelFault}
use Rattle.faults.specs.declared.LabelFault.TheVariants as label
use Rattle.faults.specs.declared.ImageRule.{ImageRule}
use Rattle.faults.specs.declared.ImageRule.TheVariants.{Version, FirstKind, PointZero, FirstDate, SecondDate, ReadingAddress, ReadingLabel, EventAddress, EventLabel, OutOfOrder, NinthPoint, NoPointBefore, UnknownPoint, Kind, Length, Cut, NoRecord, NoPoint}
use Rattle.faults.specs.declared.ImageFault.{ImageFault}
use Rattle.faults.specs.Labels.{time_fault, label_fault_a, label_fault_b}
use Rattle.faults.specs.Images.{of_whole, follows, broken_rule, fault_from, image_fault}

-- a label a by its octets as they stand; that of 1 January 2001 00:15; and a label b by its first two octets
abbrev label_a : ℕ → ℕ → ℕ → ℕ → ℕ → LabelA
label_a minute hour day month year = record { minute = minute; hour = hour; day = day; month = month; year = year }

abbrev label_b : ℕ → ℕ → LabelB
label_b low high = record { low = low; high = high; a = label_a 0x0F 0x00 0x21 0x01 0x01 }

-- a case and what is named of it
abbrev label_cases : List (Option LabelFault × Option LabelFault)
label_cases =
    (label_fault_a (label_a 0x0F 0x00 0x21 0x01 0x01), None)
    ∷ (label_fault_a (label_a 0x8F 0x00 0x21 0x01 0x01), Some label.Iv)
    ∷ (label_fault_a (label_a 0x4F 0x00 0x21 0x01 0x01), Some label.Tis)
    ∷ (label_fault_a (label_a 0x0F 0x20 0x21 0x01 0x01), Some label.HourReserved)
    ∷ (label_fault_a (label_a 0x0F 0x80 0x21 0x01 0x01), None)
    ∷ (label_fault_a (label_a 0x0F 0x00 0x21 0x11 0x01), Some label.EtiPti)
    ∷ (label_fault_a (label_a 0x0F 0x00 0x21 0x01 0x81), Some label.YearReserved)
    ∷ (label_fault_a (label_a 0x0F 0x00 0x21 0x01 0x64), Some label.Year)
    ∷ (label_fault_a (label_a 0x0F 0x00 0x21 0x0D 0x01), Some label.Month)
    ∷ (label_fault_a (label_a 0x0F 0x00 0x1D 0x02 0x01), Some label.Day)
    ∷ (label_fault_a (label_a 0x0F 0x00 0x1D 0x02 0x00), None)
    ∷ (label_fault_a (label_a 0x0F 0x18 0x21 0x01 0x01), Some label.Hour)
    ∷ (label_fault_a (label_a 0x3C 0x00 0x21 0x01 0x01), Some label.Minute)
    ∷ (label_fault_b (label_b 0xE7 0xEF), None)
    ∷ (label_fault_b (label_b 0x00 0xF0), Some label.Second)
    ∷ (label_fault_b (label_b 0xE8 0x03), Some label.Millisecond)
    ∷ []

labels_so : map (λ (case : Option LabelFault × Option LabelFault). case.0) label_cases ≡ map (λ (case : Option LabelFault × Option LabelFault). case.1) label_cases
unfolding label_fault_a label_fault_b time_fault date_time_a second millisecond low_first leap leap_day month_length
labels_so = refl

-- records: the first, a point, switch dates by the minutes of the two, a reading and an event by point, record address and minute
abbrev first : List ℕ
first = 0 ∷ 9 ∷ 1 ∷ 0 ∷ 1 ∷ 0 ∷ 0 ∷ 0 ∷ 0 ∷ 0 ∷ 0 ∷ []

abbrev point : ℕ → List ℕ
point n = 0 ∷ 7 ∷ 2 ∷ 0 ∷ n ∷ 0x12 ∷ 0x34 ∷ 0x56 ∷ 0x78 ∷ []

abbrev dates : ℕ → ℕ → List ℕ
dates minute next = 0 ∷ 11 ∷ 3 ∷ minute ∷ 0 ∷ 1 ∷ 1 ∷ 0 ∷ next ∷ 0 ∷ 1 ∷ 1 ∷ 0 ∷ []

abbrev reading : ℕ → ℕ → ℕ → List ℕ
reading n address minute = 0 ∷ 39 ∷ 4 ∷ 0 ∷ n ∷ address ∷ minute ∷ 0 ∷ 1 ∷ 1 ∷ 0 ∷ replicate 30 0

abbrev event : ℕ → ℕ → ℕ → List ℕ
event n address minute = 0 ∷ 13 ∷ 5 ∷ 0 ∷ n ∷ address ∷ 9 ∷ 1 ∷ 0 ∷ 0 ∷ minute ∷ 0 ∷ 1 ∷ 1 ∷ 0 ∷ []

abbrev fault : ImageRule → ℕ → ℕ → Option ImageFault
fault rule number at = Some (record { rule = rule; place = Some (record { number = number; at = at }) })

-- the records behind version 1, and what is named of the image
abbrev image_cases : List (List (List ℕ) × Option ImageFault)
image_cases =
    (first ∷ point 1 ∷ [], None)
    ∷ (first ∷ point 1 ∷ point 2 ∷ dates 0 0 ∷ reading 1 11 15 ∷ reading 2 11 15 ∷ event 1 52 0 ∷ event 1 52 0 ∷ [], None)
    ∷ (point 1 ∷ [], fault FirstKind 1 1)
    ∷ (first ∷ point 0 ∷ [], fault PointZero 2 12)
    ∷ (first ∷ point 1 ∷ dates 60 60 ∷ [], fault FirstDate 3 21)
    ∷ (first ∷ point 1 ∷ dates 0 60 ∷ [], fault SecondDate 3 21)
    ∷ (first ∷ point 1 ∷ reading 1 12 60 ∷ [], fault ReadingAddress 3 21)
    ∷ (first ∷ point 1 ∷ reading 1 21 60 ∷ [], fault ReadingLabel 3 21)
    ∷ (first ∷ point 1 ∷ event 1 56 60 ∷ [], fault EventAddress 3 21)
    ∷ (first ∷ point 1 ∷ event 1 129 60 ∷ [], fault EventLabel 3 21)
    ∷ (first ∷ first ∷ point 1 ∷ [], fault OutOfOrder 2 12)
    ∷ (first ∷ point 2 ∷ point 1 ∷ point 0 ∷ [], fault OutOfOrder 3 21)
    ∷ (first ∷ point 1 ∷ reading 1 11 15 ∷ reading 1 11 15 ∷ [], fault OutOfOrder 4 62)
    ∷ (first ∷ point 1 ∷ point 2 ∷ point 3 ∷ point 4 ∷ point 5 ∷ point 6 ∷ point 7 ∷ point 8 ∷ point 9 ∷ [], fault NinthPoint 10 84)
    ∷ (first ∷ dates 0 0 ∷ point 1 ∷ [], fault NoPointBefore 2 12)
    ∷ (first ∷ point 1 ∷ reading 2 11 15 ∷ [], fault UnknownPoint 3 21)
    ∷ (first ∷ point 1 ∷ (0 ∷ 7 ∷ 6 ∷ []) ∷ [], fault Kind 3 21)
    ∷ (first ∷ point 1 ∷ (7 ∷ 0 ∷ 2 ∷ []) ∷ [], fault Length 3 21)
    ∷ (first ∷ point 1 ∷ (0 ∷ 7 ∷ 2 ∷ 0 ∷ []) ∷ [], fault Cut 3 21)
    ∷ (first ∷ point 1 ∷ (0 ∷ []) ∷ [], fault Cut 3 21)
    ∷ ([], of_whole NoRecord)
    ∷ (first ∷ [], of_whole NoPoint)
    ∷ []

images_so : map (λ (case : List (List ℕ) × Option ImageFault). image_fault (1 ∷ flatten case.0)) image_cases
    ≡ map (λ (case : List (List ℕ) × Option ImageFault). case.1) image_cases
unfolding image_fault fault_from broken_rule follows flatten records_of records_from records walk is_whole holds length_of high_first low_first keep how_many number_at point_of first_date second_date record_address reading_label event_label reading_record event_record by_point reading_before event_before in_order knows label_a_at label_b_at valid_b second millisecond in_minute before_b before_a instant minutes day_number days_to_year days_of_months valid_a date_time_a real leap leap_day month_length
images_so = refl

-- and of images that do not begin with version 1
versions_so : map image_fault ([] ∷ (2 ∷ first) ∷ []) ≡ of_whole Version ∷ of_whole Version ∷ []
unfolding image_fault fault_from broken_rule follows flatten records_of records_from records walk is_whole holds length_of high_first low_first keep how_many in_order knows
versions_so = refl
