-- What the public contracts of this crate do not allow: two wrong outcomes or more of each.
-- By the rules of a sound image, and by computation. Assumes nothing.
use Prim.Native.Nat.{ℕ, ◌+◌, ◌<◌}
use mathlib.Core.Bool.{true, false, false≢true}
use mathlib.Core.List.{List, [], ◌∷◌, ◌++◌, flatten}
use mathlib.Core.Path.{◌≡◌, sym}
use native.Mathlib.Omega.{arith}
use contract.Lifetimes.{Lfts}
use borrow.Author.Tests.{ne_eqb, le-ltb, le-leb, lt-leb}
use lib.ListN.{length, get_or, replicate}
use Rattle.octets.specs.Conditions.{holds}
use Rattle.octets.specs.Numbers.{low_first, high_first}
use Rattle.octets.proofs.Choice.{not_both}
use Rattle.octets.proofs.Outcome.{RuledOut, Place, lent}
use Rattle.label.specs.Calendar.{leap, leap_day, month_length, days_of_months, days_to_year, day_number}
use Rattle.label.specs.Time.{real, minutes}
use Rattle.label.specs.Label.{date_time_a, valid_a, instant, before_a, millisecond, second, valid_b, in_minute, before_b, label_a_at, label_b_at}
use Rattle.records.specs.Records.{length_of, kind_of, is_whole, walk, records, records_from}
use Rattle.records.specs.Said.{every, linked, keep, how_many}
use Rattle.fields.specs.declared.Key.{Key}
use Rattle.fields.specs.Parts.{number_at, point_of, record_address, reading_label, event_label, is_kind}
use Rattle.fields.specs.Answers.{records_of}
use Rattle.image.specs.Image.{reading_record, event_record, right, by_point, reading_before, event_before, in_order, knows, sound_image}
use Rattle.image.specs.working.Keys.{keys_in_order}
use Rattle.image.proofs.Soundness.{rules, right_point, right_reading, right_event, sound_facts}
use Rattle.image.proofs.sound.Reads as sound
use Rattle.image.proofs.is_reading_record.Reads as is_reading_record
use Rattle.image.proofs.is_event_record.Reads as is_event_record
use Rattle.image.proofs.in_order.Reads as in_order_call

-- to unfold one of these is to unfold what a sound image, and the labels in it, stand on
the_image : Unit {0}
unfolding sound_image holds flatten records_of records_from records walk is_whole length_of high_first low_first every linked keep how_many number_at point_of right in_order knows
the_image = tt

the_labels : Unit {0}
unfolding record_address reading_record event_record by_point reading_before event_before reading_label event_label label_a_at label_b_at valid_b second millisecond in_minute before_b before_a instant minutes day_number days_to_year days_of_months valid_a date_time_a real leap leap_day month_length
the_labels = tt

-- version 1 and the first record, with link address 1
abbrev head : List ℕ
head = 1 ∷ 0 ∷ 9 ∷ 1 ∷ 0 ∷ 1 ∷ 0 ∷ 0 ∷ 0 ∷ 0 ∷ 0 ∷ 0 ∷ []

-- a point by its address
abbrev point : ℕ → List ℕ
point n = 0 ∷ 7 ∷ 2 ∷ 0 ∷ n ∷ 0x12 ∷ 0x34 ∷ 0x56 ∷ 0x78 ∷ []

-- a reading and an event of point 1, on 1 January 2000 by the octets of hour and minute; and in a minute of the first hour
abbrev reading_at : ℕ → ℕ → ℕ → List ℕ
reading_at address hour minute = 0 ∷ 39 ∷ 4 ∷ 0 ∷ 1 ∷ address ∷ minute ∷ hour ∷ 1 ∷ 1 ∷ 0 ∷ replicate 30 0

abbrev event_at : ℕ → ℕ → ℕ → List ℕ
event_at address hour minute = 0 ∷ 13 ∷ 5 ∷ 0 ∷ 1 ∷ address ∷ 9 ∷ 1 ∷ 0 ∷ 0 ∷ minute ∷ hour ∷ 1 ∷ 1 ∷ 0 ∷ []

abbrev reading : ℕ → ℕ → List ℕ
reading address minute = reading_at address 0 minute

abbrev event : ℕ → ℕ → List ℕ
event address minute = event_at address 0 minute

-- a record of an image, from the front
abbrev nth : List ℕ → ℕ → List ℕ
nth image n = get_or (records_of image) n []

module _ (κs : Lfts 1) (x : Place) (image : List ℕ) where
  -- an image of more than 65,535 octets is sound, whatever they are
  sound_long : 65535 < length image → RuledOut (sound.Post κs) (lent x image, tt) true
  sound_long long s p = omega (arith, (rules image (sym p)).short)

  -- an image of another version is sound, whatever follows
  sound_version : (get_or image 0 0 ≡ 1 → ⊥) → RuledOut (sound.Post κs) (lent x image, tt) true
  sound_version other s p = other (rules image (sym p)).version

  -- an image is sound whose records end before its end
  sound_end : 1 + length (flatten (records_of image)) < length image → RuledOut (sound.Post κs) (lent x image, tt) true
  sound_end early s p = omega (arith, (rules image (sym p)).reaches)

  -- an image with nine points or more is sound
  sound_nine_points : 8 < how_many (is_kind 2) (records_of image) → RuledOut (sound.Post κs) (lent x image, tt) true
  sound_nine_points many s p = omega (arith, (rules image (sym p)).few_points)

  -- an image without a point is sound
  sound_no_point : how_many (is_kind 2) (records_of image) ≡ 0 → RuledOut (sound.Post κs) (lent x image, tt) true
  sound_no_point none s p = omega (arith, (rules image (sym p)).some_point)

  -- an image is sound in which two records are out of order, however far apart
  sound_order : (i j : ℕ) → i < j → j < length (records_of image) → in_order (nth image i) (nth image j) ≡ false
      → RuledOut (sound.Post κs) (lent x image, tt) true
  sound_order i j before there out s p = not_both out ((sound_facts image (sym p)).two_in_order i j before there)

  -- each record of an image, wherever it stands
  module _ (n : ℕ) (there : n < length (records_of image)) where
    -- an image is sound that has a point of address 0
    sound_address_0 : kind_of (nth image n) ≡ 2 → point_of (nth image n) ≡ 0 → RuledOut (sound.Post κs) (lent x image, tt) true
    sound_address_0 kind zero s p = omega (arith, right_point (nth image n) ((sound_facts image (sym p)).each_is_right n there) kind)

    -- an image is sound that has a reading of another record address than 11 and 21
    sound_reading_record : kind_of (nth image n) ≡ 4 → reading_record (record_address (nth image n)) ≡ false
        → RuledOut (sound.Post κs) (lent x image, tt) true
    sound_reading_record kind out s p = not_both out (right_reading (nth image n) ((sound_facts image (sym p)).each_is_right n there) kind).0

    -- an image is sound that has a reading whose label is not valid
    sound_reading_label : kind_of (nth image n) ≡ 4 → valid_a (reading_label (nth image n)) ≡ false → RuledOut (sound.Post κs) (lent x image, tt) true
    sound_reading_label kind out s p = not_both out (right_reading (nth image n) ((sound_facts image (sym p)).each_is_right n there) kind).1

    -- an image is sound that has an event of a record address that is not in the list of 102
    sound_event_record : kind_of (nth image n) ≡ 5 → event_record (record_address (nth image n)) ≡ false → RuledOut (sound.Post κs) (lent x image, tt) true
    sound_event_record kind out s p = not_both out (right_event (nth image n) ((sound_facts image (sym p)).each_is_right n there) kind).0

    -- an image is sound that has a reading or an event of a point that is not in it
    sound_unknown_point : knows (records_of image) (nth image n) ≡ false → RuledOut (sound.Post κs) (lent x image, tt) true
    sound_unknown_point out s p = not_both out ((sound_facts image (sym p)).each_known n there)

module _ (κs : Lfts 1) (x : Place) where
  -- the smallest image is not sound
  sound_smallest : RuledOut (sound.Post κs) (lent x (head ++ point 1), tt) false
  unfolding the_image
  sound_smallest s p = false≢true p

  -- two points of one address are sound
  sound_equal_points : RuledOut (sound.Post κs) (lent x (head ++ (point 7 ++ point 7)), tt) true
  unfolding the_image
  sound_equal_points s p = false≢true (sym p)

  -- two readings of one label are sound
  sound_equal_readings : RuledOut (sound.Post κs) (lent x (head ++ (point 1 ++ (reading 11 15 ++ reading 11 15))), tt) true
  unfolding the_image the_labels
  sound_equal_readings s p = false≢true (sym p)

  -- an hour that comes twice is not sound: readings at 00:15, in summer time and then in standard time
  sound_hour_twice : RuledOut (sound.Post κs) (lent x (head ++ (point 1 ++ (reading_at 11 0x80 15 ++ reading_at 11 0 15))), tt) false
  unfolding the_image the_labels
  sound_hour_twice s p = false≢true p

  -- the same hour the other way round is sound
  sound_hour_back : RuledOut (sound.Post κs) (lent x (head ++ (point 1 ++ (reading_at 11 0 15 ++ reading_at 11 0x80 15))), tt) true
  unfolding the_image the_labels
  sound_hour_back s p = false≢true (sym p)

  -- two readings at one instant are sound: 00:15 in standard time and 01:15 in summer time
  sound_one_instant : RuledOut (sound.Post κs) (lent x (head ++ (point 1 ++ (reading_at 11 0 15 ++ reading_at 11 0x81 15))), tt) true
  unfolding the_image the_labels
  sound_one_instant s p = false≢true (sym p)

  -- readings whose labels rise are not sound
  sound_readings_rising : RuledOut (sound.Post κs) (lent x (head ++ (point 1 ++ (reading 11 15 ++ reading 11 30))), tt) false
  unfolding the_image the_labels
  sound_readings_rising s p = false≢true p

  -- two events at one instant are not sound: 01:15 in summer time and 00:15 in standard time
  sound_events_at_once : RuledOut (sound.Post κs) (lent x (head ++ (point 1 ++ (event_at 52 0x81 15 ++ event_at 52 0 15))), tt) false
  unfolding the_image the_labels
  sound_events_at_once s p = false≢true p

  -- an event in summer time is sound behind one that its clock shows at the same minute in standard time
  sound_events_hour_back : RuledOut (sound.Post κs) (lent x (head ++ (point 1 ++ (event_at 52 0 15 ++ event_at 52 0x80 15))), tt) true
  unfolding the_image the_labels
  sound_events_hour_back s p = false≢true (sym p)

  -- two events of one label are not sound
  sound_equal_events : RuledOut (sound.Post κs) (lent x (head ++ (point 1 ++ (event 52 0 ++ event 52 0))), tt) false
  unfolding the_image the_labels
  sound_equal_events s p = false≢true p

  -- an event that lies before the one in front of it is sound
  sound_events_back : RuledOut (sound.Post κs) (lent x (head ++ (point 1 ++ (event 52 1 ++ event 52 0))), tt) true
  unfolding the_image the_labels
  sound_events_back s p = false≢true (sym p)

module _ (κs : Lfts 0) where
  -- a record address between 11 and 21 is one of readings
  is_reading_record_between : (n : ℕ) → 11 < n → n < 21 → RuledOut (is_reading_record.Post κs) (n, tt) true
  unfolding reading_record
  is_reading_record_between n low high s p = false≢true (sym (rw (ne_eqb n 11 (λ e. omega arith), ne_eqb n 21 (λ e. omega arith)) at p))

  -- 21 is no record address of readings
  is_reading_record_21 : RuledOut (is_reading_record.Post κs) (21, tt) false
  unfolding reading_record
  is_reading_record_21 s p = false≢true p

  -- a record of a higher kind in order before one of a lower, whatever else they have
  in_order_kinds : (k l : Key) → l.kind < k.kind → RuledOut (in_order_call.Post κs) (k, (l, tt)) true
  unfolding keys_in_order
  in_order_kinds k l falls s p = false≢true (sym (rw (ne_eqb k.kind l.kind (λ e. omega arith), le-ltb k.kind l.kind (omega arith)) at p))

  -- two records of kind 3 in order, whatever else they have
  in_order_dates : (k l : Key) → k.kind ≡ 3 → l.kind ≡ 3 → RuledOut (in_order_call.Post κs) (k, (l, tt)) true
  unfolding keys_in_order
  in_order_dates k l first second s p = false≢true (sym (rw (first, second) at p))

  -- a record address from 56 to 127 is one of events
  is_event_record_between : (n : ℕ) → 55 < n → n < 128 → RuledOut (is_event_record.Post κs) (n, tt) true
  unfolding event_record
  is_event_record_between n low high s p = false≢true (sym (rw (le-leb 52 n (omega arith), lt-leb n 55 low, lt-leb 128 n high) at p))

  -- a record address under 52 is one of events
  is_event_record_under : (n : ℕ) → n < 52 → RuledOut (is_event_record.Post κs) (n, tt) true
  unfolding event_record
  is_event_record_under n low s p = false≢true (sym (rw (lt-leb 52 n low, lt-leb 128 n (omega arith)) at p))

  -- 128 is no record address of events
  is_event_record_128 : RuledOut (is_event_record.Post κs) (128, tt) false
  unfolding event_record
  is_event_record_128 s p = false≢true p
