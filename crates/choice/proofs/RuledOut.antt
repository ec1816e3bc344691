-- What the public contracts of this crate do not allow: two wrong outcomes or more of each.
-- By computation, and where all images are meant by recursion on the records. Assumes nothing.
use Rattle.std.specs.Prelude.{Some, None}
use Prim.Native.Nat.{ℕ, ◌+◌, ◌≤◌, ◌<◌}
use mathlib.Core.Bool.{Bool}
use mathlib.Core.List.{List, [], ◌∷◌, ◌++◌}
use mathlib.Core.Path.{◌≡◌, sym}
use native.Mathlib.Omega.{arith}
use contract.Lifetimes.{Lfts}
use lib.IntN.{ℤ, pos}
use lib.ListN.{length, replicate}
use Rattle.octets.specs.Conditions.{holds}
use Rattle.octets.specs.Numbers.{low_first, high_first}
use Rattle.octets.proofs.Choice.{either}
use Rattle.octets.proofs.Outcome.{RuledOut, Place, lent, never}
use Rattle.label.specs.Calendar.{leap, leap_day, month_length, days_of_months, days_to_year, day_number}
use Rattle.label.specs.Time.{real, minutes}
use Rattle.label.specs.Label.{date_time_a, valid_a, instant, label_a_at, label_b_at}
use Rattle.records.specs.Records.{length_of, is_whole, walk, records, records_from}
use Rattle.records.specs.Said.{places_of}
use Rattle.fields.specs.Parts.{number_at, point_of, record_address, reading_label, event_label}
use Rattle.fields.specs.Answers.{records_of}
use Rattle.choice.specs.declared.Query.{Query}
use Rattle.choice.specs.declared.Query.TheVariants.{Reading, Event}
use Rattle.choice.specs.Choice.{in_span, chosen}
use Rattle.choice.specs.Calls.{places_from, nth_place}
use Rattle.choice.proofs.find.Reads as find
use Rattle.choice.proofs.next.Reads as next

-- to unfold one of these is to unfold what the records of an image, and their minutes, stand on
the_records : Unit {0}
unfolding records_of records_from records walk is_whole length_of holds high_first low_first
the_records = tt

the_minutes : Unit {0}
unfolding number_at label_a_at label_b_at point_of record_address reading_label event_label instant minutes day_number days_to_year days_of_months valid_a date_time_a real leap leap_day month_length
the_minutes = tt

-- an event of point 1 and record address 52, in the minute numbered 1; two such stand at places 1 and 16
abbrev one : List ℕ
one = 0 ∷ 13 ∷ 5 ∷ 0 ∷ 1 ∷ 52 ∷ 9 ∷ 1 ∷ 0 ∷ 0 ∷ 1 ∷ 0 ∷ 1 ∷ 1 ∷ 0 ∷ []

abbrev event : List ℕ
event = 1 ∷ one

abbrev events : List ℕ
events = 1 ∷ (one ++ one)

-- the same event at 01:01 in summer time
abbrev summer : List ℕ
summer = 1 ∷ 0 ∷ 13 ∷ 5 ∷ 0 ∷ 1 ∷ 52 ∷ 9 ∷ 1 ∷ 0 ∷ 0 ∷ 1 ∷ 0x81 ∷ 1 ∷ 1 ∷ 0 ∷ []

-- a reading of point 1 and record address 11, at 00:00 of 2 January 2000: the minute numbered 1440, and the last of the day before
abbrev reading : List ℕ
reading = 1 ∷ 0 ∷ 39 ∷ 4 ∷ 0 ∷ 1 ∷ 11 ∷ 0 ∷ 0 ∷ 2 ∷ 1 ∷ 0 ∷ replicate 30 0

-- the events of a point with record address 52, from one minute to another
abbrev asked : ℕ → ℤ → ℤ → Query
asked point first last = Event (record { point = record { 0 = point }; record_address = 52; first = first; last = last })

-- no place of what is chosen lies before the first record's
no_earlier : (f : List ℕ → Bool) (from : ℕ) (rs : List (List ℕ)) (at : ℕ) → nth_place 0 (places_of f from rs) ≡ Some at → from ≤ at
unfolding nth_place places_of
no_earlier f from [] at = λ e. absurd (never (cc))
no_earlier f from (r ∷ rs) at =
    either (λ (places : List ℕ). nth_place 0 places ≡ Some at → from ≤ at) (f r) (λ _ e. let same : from ≡ at = cc in omega arith)
    (λ _ e. omega (arith, no_earlier f (from + length r) rs at e))

module _ (κs : Lfts 1) (x : Place) where
  -- an event left out whose minute is the first asked for
  find_first_out : RuledOut (find.Post κs) (lent x event, (asked 1 (pos 1) (pos 2), (0, tt))) None
  unfolding nth_place places_from chosen places_of in_span the_records the_minutes
  find_first_out s p = never (cc)

  -- an event chosen by what its clock shows: 01:01 in summer time, which is the minute numbered 1, left out of the minutes 1 to 2
  find_shown : RuledOut (find.Post κs) (lent x summer, (asked 1 (pos 1) (pos 2), (0, tt))) None
  unfolding nth_place places_from chosen places_of in_span the_records the_minutes
  find_shown s p = never (cc)

  -- an event left out whose minute is the last asked for
  find_last_out : RuledOut (find.Post κs) (lent x event, (asked 1 (pos 0) (pos 1), (0, tt))) None
  unfolding nth_place places_from chosen places_of in_span the_records the_minutes
  find_last_out s p = never (cc)

  -- the final label of a day, 00:00 of the next, left out of that day's readings
  find_final_label :
      RuledOut (find.Post κs) (lent x reading, (Reading (record { point = record { 0 = 1 }; record_address = 11; first = pos 15; last = pos 1440 }), (0, tt)))
      None
  unfolding nth_place places_from chosen places_of in_span the_records the_minutes
  find_final_label s p = never (cc)

  -- an event of another point chosen, whatever the range
  find_other_point : (first last : ℤ) → RuledOut (find.Post κs) (lent x event, (asked 2 first last, (0, tt))) (Some 1)
  unfolding nth_place places_from chosen places_of in_span number_at point_of the_records
  find_other_point first last s p = never (cc)

  -- an event of record address 52 chosen for 53, whatever the range
  find_other_record : (first last : ℤ)
      → RuledOut (find.Post κs) (lent x event, (Event (record { point = record { 0 = 1 }; record_address = 53; first = first; last = last }), (0, tt))) (Some 1)
  unfolding nth_place places_from chosen places_of in_span number_at point_of record_address the_records
  find_other_record first last s p = never (cc)

  -- the place of the first event for the second
  find_first : RuledOut (find.Post κs) (lent x events, (asked 1 (pos 1) (pos 1), (1, tt))) (Some 1)
  unfolding nth_place places_from chosen places_of in_span the_records the_minutes
  find_first s p = never (cc)

  -- the last event again where there is no further one
  find_past_end : RuledOut (find.Post κs) (lent x events, (asked 1 (pos 1) (pos 1), (2, tt))) (Some 16)
  unfolding nth_place places_from chosen places_of in_span the_records the_minutes
  find_past_end s p = never (cc)

  -- a place in an image that is empty, whatever is asked for
  find_in_nothing : (query : Query) (n at : ℕ) → RuledOut (find.Post κs) (lent x [], (query, (n, tt))) (Some at)
  unfolding nth_place places_from places_of the_records
  find_in_nothing query n at s p = never (cc)

  -- the first event again, where the search goes on behind it
  next_from_front : RuledOut (next.Post κs) (lent x events, (asked 1 (pos 1) (pos 1), (16, tt))) (Some 1)
  unfolding nth_place places_from chosen places_of in_span the_records the_minutes
  next_from_front s p = never (cc)

  -- the event behind the next one
  next_second : RuledOut (next.Post κs) (lent x events, (asked 1 (pos 1) (pos 1), (1, tt))) (Some 16)
  unfolding nth_place places_from chosen places_of in_span the_records the_minutes
  next_second s p = never (cc)

  -- the event left out that stands at the very place from which the search goes on
  next_here : RuledOut (next.Post κs) (lent x events, (asked 1 (pos 1) (pos 1), (16, tt))) None
  unfolding nth_place places_from chosen places_of in_span the_records the_minutes
  next_here s p = never (cc)

  -- a record found where the search goes on from inside another
  next_inside : (query : Query) (at : ℕ) → RuledOut (next.Post κs) (lent x events, (query, (2, tt))) (Some at)
  unfolding nth_place places_from places_of the_records
  next_inside query at s p = never (cc)

  -- an event of another point next, whatever the range
  next_other_point : (first last : ℤ) (at : ℕ) → RuledOut (next.Post κs) (lent x event, (asked 2 first last, (1, tt))) (Some at)
  unfolding nth_place places_from chosen places_of in_span number_at point_of the_records
  next_other_point first last at s p = never (cc)

  -- a place before the one from which the search goes on, whatever the image and what is asked for
  next_earlier : (image : List ℕ) (query : Query) (from at : ℕ) → at < from → RuledOut (next.Post κs) (lent x image, (query, (from, tt))) (Some at)
  unfolding places_from
  next_earlier image query from at earlier s p = omega (arith, no_earlier (chosen query) from (records_from image from) at (sym p))
