-- What the public contracts of this crate do not allow: two wrong outcomes or more of each.
-- By computation; of all labels by the condition that fails. Assumes nothing.
use Prim.Native.Nat.{ℕ, ◌+◌, ◌*◌, ◌%◌, ◌≤◌}
use mathlib.Core.Bool.{true, false, false≢true}
use mathlib.Core.List.{List, [], ◌∷◌}
use mathlib.Core.Path.{◌≡◌, refl, sym, ap, ◌∙◌}
use native.Mathlib.Omega.{arith}
use contract.Lifetimes.{Lfts}
use lib.IntN.{ℤ, pos, nat_abs, ◌-ℤ◌}
use lib.ListN.{length, get_or}
use lib.Signed.{non_neg}
use borrow.Author.Tests.{eqb-true, eq-eqb}
use Rattle.octets.specs.Bits.{bits◌to◌of◌}
use Rattle.octets.specs.Conditions.{holds}
use Rattle.octets.specs.Numbers.{low_first}
use Rattle.octets.proofs.Choice.{not_both}
use Rattle.octets.proofs.Conditions.{holds_at}
use Rattle.octets.proofs.Outcome.{RuledOut, Place, lent, never}
use Rattle.label.specs.declared.DateTime.{DateTime}
use Rattle.label.specs.declared.LabelA.{LabelA}
use Rattle.label.specs.declared.LabelB.{LabelB}
use Rattle.std.specs.Prelude.{Some, None, Result, Ok, Err}
use Rattle.std.proofs.lemmas.Option.{same_Some}
use Rattle.label.specs.declared.StandardTime.{StandardTime}
use Rattle.label.specs.Calendar.{leap, leap_day, month_length, days_of_months, days_to_year, day_number}
use Rattle.label.specs.Time.{real, minutes}
use Rattle.label.specs.Label.{label_a_at, label_b_at, label_a_octets, label_b_octets, date_time_a, valid_a, su, instant, before_a, millisecond, second, valid_b, in_minute, before_b}
use Rattle.label.specs.Standard.{standard_at, as_it_stands, hour_earlier, standard_a}
use Rattle.label.specs.Calls.{moment_of, moment_b}
use Rattle.label.proofs.Label.{instant_standard, instant_summer}
use Rattle.label.proofs.Instant.{less_back, a_at_once, a_not_after, b_not_itself}
use Rattle.label.proofs.Order.{hour_gone}
use Rattle.label.proofs.LabelA.read.Reads as a_read
use Rattle.label.proofs.LabelA.octets.Reads as a_octets
use Rattle.label.proofs.LabelB.read.Reads as b_read
use Rattle.label.proofs.LabelB.octets.Reads as b_octets
use Rattle.label.proofs.LabelA.date_time.Reads as a_date_time
use Rattle.label.proofs.LabelA.is_valid.Reads as a_is_valid
use Rattle.label.proofs.LabelA.instant.Reads as a_instant
use Rattle.label.proofs.LabelA.is_before.Reads as a_is_before
use Rattle.label.proofs.LabelA.moment.Reads as a_moment
use Rattle.label.proofs.LabelA.standard_time.Reads as a_standard_time
use Rattle.label.proofs.LabelB.second.Reads as b_second
use Rattle.label.proofs.LabelB.millisecond.Reads as b_millisecond
use Rattle.label.proofs.LabelB.is_valid.Reads as b_is_valid
use Rattle.label.proofs.LabelB.in_minute.Reads as b_in_minute
use Rattle.label.proofs.LabelB.is_before.Reads as b_is_before
use Rattle.label.proofs.LabelB.moment.Reads as b_moment

-- the instant that is told of a label b
abbrev told_instant : Result ℤ ℤ → ℤ
told_instant (Ok minute) = minute
told_instant (Err minute) = minute

-- to unfold one of these is to unfold what a valid label and an instant stand on
the_label : Unit {0}
unfolding valid_a date_time_a real holds leap leap_day month_length
the_label = tt

the_instant : Unit {0}
unfolding instant minutes day_number days_to_year days_of_months the_label
the_instant = tt

the_standard : Unit {0}
unfolding standard_a hour_earlier as_it_stands the_label
the_standard = tt

-- a date and time; a label a by its octets as they stand; and with two octets in front
abbrev date : ℕ → ℕ → ℕ → ℕ → ℕ → DateTime
date year month day hour minute = record { year = year; month = month; day = day; hour = hour; minute = minute }

abbrev label_a : ℕ → ℕ → ℕ → ℕ → ℕ → LabelA
label_a minute hour day month year = record { minute = minute; hour = hour; day = day; month = month; year = year }

abbrev label_b : ℕ → ℕ → LabelA → LabelB
label_b low high a = record { low = low; high = high; a = a }

-- x: where the octets lie, of which no contract says anything
module _ (x : Place) (κs : Lfts 1) where
  -- the year read first, whenever the first octet differs from the fifth
  a_read_order : (minute hour day month year : ℕ) → (year ≡ minute → ⊥)
      → RuledOut (a_read.Post κs) (lent x (minute ∷ hour ∷ day ∷ month ∷ year ∷ []), tt) (label_a year month day hour minute)
  unfolding label_a_at
  a_read_order minute hour day month year n s p = n (ap (λ (l : LabelA). l.minute) p)

  -- an octet that is not there as other than 0
  a_read_short : (minute hour day month : ℕ) (l : LabelA) → (l.year ≡ 0 → ⊥) → RuledOut (a_read.Post κs) (lent x (minute ∷ hour ∷ day ∷ month ∷ []), tt) l
  unfolding label_a_at
  a_read_short minute hour day month l n s p = n (ap (λ (l : LabelA). l.year) p)

  -- the two octets in front swapped, whenever they differ, whatever follows
  b_read_swapped : (low high : ℕ) (rest : List ℕ) (a : LabelA) → (high ≡ low → ⊥) → RuledOut (b_read.Post κs) (lent x (low ∷ high ∷ rest), tt) (label_b high low a)
  unfolding label_b_at
  b_read_swapped low high rest a n s p = n (ap (λ (l : LabelB). l.low) p)

  -- the label a read from the first octet on, whenever that is not the third
  b_read_front : (low high minute : ℕ) (rest : List ℕ) → (low ≡ minute → ⊥)
      → RuledOut (b_read.Post κs) (lent x (low ∷ high ∷ minute ∷ rest), tt) (label_b low high (label_a_at (low ∷ high ∷ minute ∷ rest) 0))
  unfolding label_b_at label_a_at
  b_read_front low high minute rest n s p = n (ap (λ (l : LabelB). l.a.minute) p)

module _ (κs : Lfts 0) where
  -- the year written first, whenever it differs from the minute's octet
  a_octets_order : (l : LabelA) → (l.year ≡ l.minute → ⊥)
      → RuledOut (a_octets.Post κs) (l, tt) (l.year ∷ l.month ∷ l.day ∷ l.hour ∷ l.minute ∷ [])
  unfolding label_a_octets
  a_octets_order l n s p = n (cc)

  -- the octet of the day without the weekday
  a_octets_day : (l : LabelA) → 32 ≤ l.day → RuledOut (a_octets.Post κs) (l, tt) (l.minute ∷ l.hour ∷ l.day % 32 ∷ l.month ∷ l.year ∷ [])
  unfolding label_a_octets
  a_octets_day l above s p = omega (arith, ap (λ (r : List ℕ). get_or r 2 0) p)

  -- the two octets in front swapped, whenever they differ
  b_octets_swapped : (l : LabelB) → (l.high ≡ l.low → ⊥) → RuledOut (b_octets.Post κs) (l, tt) (l.high ∷ l.low ∷ label_a_octets l.a)
  unfolding label_b_octets
  b_octets_swapped l n s p = n (cc)

  -- the label a alone
  b_octets_a : (l : LabelB) → RuledOut (b_octets.Post κs) (l, tt) (label_a_octets l.a)
  unfolding label_b_octets label_a_octets
  b_octets_a l s p = omega (arith, ap length p)

  -- the day with the weekday, whatever the rest
  a_date_time_weekday : (l : LabelA) (year month hour minute : ℕ) → 32 ≤ l.day
      → RuledOut (a_date_time.Post κs) (l, tt) (date year month l.day hour minute)
  unfolding date_time_a
  a_date_time_weekday l year month hour minute above s p = omega (arith, ap (λ (r : DateTime). r.day) p)

  -- the hour with the bits above it, whatever the rest
  a_date_time_hour : (l : LabelA) (year month day minute : ℕ) → 32 ≤ l.hour
      → RuledOut (a_date_time.Post κs) (l, tt) (date year month day l.hour minute)
  unfolding date_time_a
  a_date_time_hour l year month day minute above s p = omega (arith, ap (λ (r : DateTime). r.hour) p)

  -- minute 60 as valid, whatever the date and hour
  a_is_valid_minute : (hour day month year : ℕ) → RuledOut (a_is_valid.Post κs) (label_a 60 hour day month year, tt) true
  unfolding valid_a real date_time_a
  a_is_valid_minute hour day month year s p = false≢true (holds_at _ (holds_at _ (sym p) 0) 6)

  -- hour 24 as valid, whatever the date and minute
  a_is_valid_hour : (minute day month year : ℕ) → RuledOut (a_is_valid.Post κs) (label_a minute 24 day month year, tt) true
  unfolding valid_a real date_time_a
  a_is_valid_hour minute day month year s p = false≢true (holds_at _ (holds_at _ (sym p) 0) 5)

  -- day 0 as valid, whatever the month and time
  a_is_valid_day : (minute hour month year : ℕ) → RuledOut (a_is_valid.Post κs) (label_a minute hour 0 month year, tt) true
  unfolding valid_a real date_time_a
  a_is_valid_day minute hour month year s p = false≢true (holds_at _ (holds_at _ (sym p) 0) 3)

  -- 31 June as valid, whatever the year and time
  a_is_valid_length : (minute hour year : ℕ) → RuledOut (a_is_valid.Post κs) (label_a minute hour 31 6 year, tt) true
  unfolding valid_a real date_time_a month_length
  a_is_valid_length minute hour year s p = false≢true (holds_at _ (holds_at _ (sym p) 0) 4)

  -- 29 February 2000 as not valid
  a_is_valid_leap : RuledOut (a_is_valid.Post κs) (label_a 0 0 29 2 0, tt) false
  unfolding the_label
  a_is_valid_leap s p = never (cc)

  -- 29 February 2001 as valid
  a_is_valid_common : RuledOut (a_is_valid.Post κs) (label_a 0 0 29 2 1, tt) true
  unfolding the_label
  a_is_valid_common s p = never (cc)

  -- the last day of a year as not valid
  a_is_valid_last : RuledOut (a_is_valid.Post κs) (label_a 59 23 31 12 26, tt) false
  unfolding the_label
  a_is_valid_last s p = never (cc)

  -- a label with IV set as valid, whatever the rest
  a_is_valid_iv : (l : LabelA) → bits 8 to 8 of l.minute ≡ 1 → RuledOut (a_is_valid.Post κs) (l, tt) true
  unfolding valid_a
  a_is_valid_iv l set s p = omega (arith, eqb-true (bits 8 to 8 of l.minute) 0 (holds_at _ (sym p) 1))

  -- a label with TIS set as valid, whatever the rest
  a_is_valid_tis : (l : LabelA) → bits 7 to 7 of l.minute ≡ 1 → RuledOut (a_is_valid.Post κs) (l, tt) true
  unfolding valid_a
  a_is_valid_tis l set s p = omega (arith, eqb-true (bits 7 to 7 of l.minute) 0 (holds_at _ (sym p) 2))

  -- a label with ETI or PTI set as valid, whatever the rest
  a_is_valid_eti : (l : LabelA) → (bits 5 to 8 of l.month ≡ 0 → ⊥) → RuledOut (a_is_valid.Post κs) (l, tt) true
  unfolding valid_a
  a_is_valid_eti l set s p = set (eqb-true (bits 5 to 8 of l.month) 0 (holds_at _ (sym p) 3))

  -- a label with a reserved bit of its hour set as valid, whatever the rest
  a_is_valid_reserved : (l : LabelA) → (bits 6 to 7 of l.hour ≡ 0 → ⊥) → RuledOut (a_is_valid.Post κs) (l, tt) true
  unfolding valid_a
  a_is_valid_reserved l set s p = set (eqb-true (bits 6 to 7 of l.hour) 0 (holds_at _ (sym p) 4))

  -- a label refused for SU
  a_is_valid_su : RuledOut (a_is_valid.Post κs) (label_a 0 0x80 1 1 26, tt) false
  unfolding the_label
  a_is_valid_su s p = never (cc)

  -- 1 January 2001 00:15, label 0F 00 21 01 01, refused for its weekday
  a_is_valid_weekday : RuledOut (a_is_valid.Post κs) (label_a 0x0F 0 0x21 1 1, tt) false
  unfolding the_label
  a_is_valid_weekday s p = never (cc)

  -- an hour of 61 minutes
  a_instant_hour : RuledOut (a_instant.Post κs) (label_a 0 1 1 1 0, tt) (pos 61)
  unfolding the_instant
  a_instant_hour s p = omega (arith, ap nat_abs p)

  -- minutes counted from 31 December 1999
  a_instant_start : RuledOut (a_instant.Post κs) (label_a 0 0 1 1 0, tt) (pos 1440)
  unfolding the_instant
  a_instant_start s p = omega (arith, ap nat_abs p)

  -- a 29 February counted in 2001
  a_instant_march : RuledOut (a_instant.Post κs) (label_a 0 0 1 3 1, tt) (pos 613440)
  unfolding the_instant
  a_instant_march s p = omega (arith, ap nat_abs p)

  -- an instant other than 0 of a label that is not valid
  a_instant_not_valid : (l : LabelA) (n : ℕ) → valid_a l ≡ false → (n ≡ 0 → ⊥) → RuledOut (a_instant.Post κs) (l, tt) (pos n)
  unfolding instant
  a_instant_not_valid l n not_valid more s p = more (ap nat_abs (rw not_valid at p))

  -- the minute that its clock shows as the instant of a label in summer time, whatever valid label it is
  a_instant_shown : (l : LabelA) → valid_a l ≡ true → su l ≡ 1 → RuledOut (a_instant.Post κs) (l, tt) (pos (minutes (date_time_a l)))
  a_instant_shown l valid summer s p = omega (arith, less_back (minutes (date_time_a l)) (minutes (date_time_a l)) (sym (p ∙ instant_summer l valid (eq-eqb (su l) 1 summer))))

  -- an hour added in summer time, whatever valid label it is
  a_instant_added : (l : LabelA) → valid_a l ≡ true → su l ≡ 1 → RuledOut (a_instant.Post κs) (l, tt) (pos (minutes (date_time_a l) + 60))
  a_instant_added l valid summer s p = omega (arith, less_back (minutes (date_time_a l)) (minutes (date_time_a l) + 60) (sym (p ∙ instant_summer l valid (eq-eqb (su l) 1 summer))))

  -- an hour taken off a label in standard time, whatever valid label it is
  a_instant_standard : (l : LabelA) → valid_a l ≡ true → su l ≡ 0 → RuledOut (a_instant.Post κs) (l, tt) (pos (minutes (date_time_a l)) -ℤ pos 60)
  a_instant_standard l valid standard s p = omega (arith, less_back (minutes (date_time_a l)) (minutes (date_time_a l)) (p ∙ instant_standard l valid (rw standard)))

  -- 1 January 2000 00:15 in summer time at 0 or behind, as where no instant is negative
  a_instant_negative : (n : ℕ) → RuledOut (a_instant.Post κs) (label_a 15 0x80 1 1 0, tt) (pos n)
  unfolding the_instant
  a_instant_negative n s p = false≢true (sym (ap non_neg p))

  -- a label before itself, whatever label it is
  a_is_before_same : (l : LabelA) → RuledOut (a_is_before.Post κs) (l, (l, tt)) true
  a_is_before_same l s p = not_both (a_at_once l l refl) (sym p)

  -- the later label before the earlier, whatever labels they are
  a_is_before_other : (l m : LabelA) → before_a l m ≡ true → RuledOut (a_is_before.Post κs) (m, (l, tt)) true
  a_is_before_other l m before s p = not_both (a_not_after l m before) (sym p)

  -- octets compared as they stand, the minute first: 00:59 not before 01:00
  a_is_before_octets : RuledOut (a_is_before.Post κs) (label_a 59 0 1 1 0, (label_a 0 1 1 1 0, tt)) false
  unfolding before_a the_instant
  a_is_before_octets s p = never (cc)

  -- the hour that comes twice in autumn without an order: 28 October 2001 02:15 in summer time not before 02:15 in standard time
  a_is_before_autumn : RuledOut (a_is_before.Post κs) (label_a 0x0F 0x82 0xFC 0x0A 1, (label_a 0x0F 0x02 0xFC 0x0A 1, tt)) false
  unfolding before_a the_instant
  a_is_before_autumn s p = never (cc)

  -- SU compared as a bit: 28 October 2001 03:15 in summer time before 02:15 in standard time, which is the same instant
  a_is_before_bit : RuledOut (a_is_before.Post κs) (label_a 0x0F 0x83 0xFC 0x0A 1, (label_a 0x0F 0x02 0xFC 0x0A 1, tt)) true
  unfolding before_a the_instant
  a_is_before_bit s p = never (cc)

  -- no moment of a valid label
  a_moment_valid : (l : LabelA) → valid_a l ≡ true → RuledOut (a_moment.Post κs) (l, tt) None
  unfolding moment_of
  a_moment_valid l valid s p = let q = rw valid at p in cc

  -- a moment of a label that is not valid, whatever the instant
  a_moment_not_valid : (l : LabelA) (i : ℤ) → valid_a l ≡ false → RuledOut (a_moment.Post κs) (l, tt) (Some i)
  unfolding moment_of
  a_moment_not_valid l i not_valid s p = let q = rw not_valid at p in cc

  -- the days of an instant in place of its minutes
  a_moment_days : RuledOut (a_moment.Post κs) (label_a 0 0 2 1 0, tt) (Some (pos 1))
  unfolding moment_of the_instant
  a_moment_days s p = omega (arith, ap nat_abs (same_Some _ _ p))

  -- the moment of a label in summer time with the minute that its clock shows, whatever valid label it is
  a_moment_shown : (l : LabelA) → valid_a l ≡ true → su l ≡ 1 → RuledOut (a_moment.Post κs) (l, tt) (Some (pos (minutes (date_time_a l))))
  unfolding moment_of
  a_moment_shown l valid summer s p =
      let q = rw valid at p in
      omega (arith, less_back (minutes (date_time_a l)) (minutes (date_time_a l)) (sym (same_Some _ _ q ∙ instant_summer l valid (eq-eqb (su l) 1 summer))))

  -- a label in summer time told as its clock shows it, whatever valid label it is
  a_standard_time_shown : (l : LabelA) → valid_a l ≡ true → su l ≡ 1 → RuledOut (a_standard_time.Post κs) (l, tt) (as_it_stands (date_time_a l))
  a_standard_time_shown l valid summer s p = hour_gone l valid summer (sym p)

  -- 1 March 2000 00:15 in summer time on 28 February
  a_standard_time_leap : RuledOut (a_standard_time.Post κs) (label_a 15 0x80 1 3 0, tt) (standard_at 2000 2 28 23 15)
  unfolding the_standard
  a_standard_time_leap s p = omega (arith, ap (λ (r : StandardTime). r.day) p)

  -- 1 January 2000 00:15 in summer time in any other year than 1999
  a_standard_time_year : (r : StandardTime) → (r.year ≡ 1999 → ⊥) → RuledOut (a_standard_time.Post κs) (label_a 15 0x80 1 1 0, tt) r
  unfolding the_standard
  a_standard_time_year r other s p = other (ap (λ (r : StandardTime). r.year) p)

  module _ (a : LabelA) where
    -- the seconds of E7 EF with the upper bit of the milliseconds
    b_second_bits : RuledOut (b_second.Post κs) (label_b 0xE7 0xEF a, tt) 55
    unfolding second low_first
    b_second_bits s p = omega arith

    -- the seconds of E7 EF read high octet first
    b_second_swapped : RuledOut (b_second.Post κs) (label_b 0xE7 0xEF a, tt) 57
    unfolding second low_first
    b_second_swapped s p = omega arith

    -- the milliseconds of E7 EF with the lowest bit of the seconds
    b_millisecond_bits : RuledOut (b_millisecond.Post κs) (label_b 0xE7 0xEF a, tt) 2023
    unfolding millisecond low_first
    b_millisecond_bits s p = omega arith

    -- the milliseconds of E7 EF read high octet first
    b_millisecond_swapped : RuledOut (b_millisecond.Post κs) (label_b 0xE7 0xEF a, tt) 1007
    unfolding millisecond low_first
    b_millisecond_swapped s p = omega arith

    -- second 60 as valid, whatever the minute
    b_is_valid_second : RuledOut (b_is_valid.Post κs) (label_b 0 0xF0 a, tt) true
    unfolding valid_b holds second low_first
    b_is_valid_second s p = never (cc)

    -- 1000 milliseconds as valid, whatever the minute
    b_is_valid_millisecond : RuledOut (b_is_valid.Post κs) (label_b 0xE8 3 a, tt) true
    unfolding valid_b holds second millisecond low_first
    b_is_valid_millisecond s p = never (cc)

    -- a label b as valid whose label a is not, whatever its seconds and milliseconds
    b_is_valid_minute : (low high : ℕ) → valid_a a ≡ false → RuledOut (b_is_valid.Post κs) (label_b low high a, tt) true
    unfolding valid_b
    b_is_valid_minute low high not_valid s p = false≢true (sym not_valid ∙ holds_at _ (sym p) 2)

    -- 59 seconds and 999 milliseconds refused in a valid minute
    b_is_valid_last : valid_a a ≡ true → RuledOut (b_is_valid.Post κs) (label_b 0xE7 0xEF a, tt) false
    unfolding valid_b holds second millisecond low_first
    b_is_valid_last valid s p = never (cc)

    -- a moment of a label with second 60, whatever the minute
    b_moment_second : (i : ℤ) → RuledOut (b_moment.Post κs) (label_b 0 0xF0 a, tt) (Ok i)
    unfolding moment_b valid_b holds second low_first
    b_moment_second i s p = cc

    -- a moment of a label with 1000 milliseconds, whatever the minute
    b_moment_millisecond : (i : ℤ) → RuledOut (b_moment.Post κs) (label_b 0xE8 3 a, tt) (Ok i)
    unfolding moment_b valid_b holds second millisecond low_first
    b_moment_millisecond i s p = cc

    -- another instant than that of its label a, of a label with second 60
    b_moment_other : (i : ℤ) → (i ≡ instant a → ⊥) → RuledOut (b_moment.Post κs) (label_b 0 0xF0 a, tt) (Err i)
    unfolding moment_b valid_b holds second low_first
    b_moment_other i other s p = other (ap told_instant p)

  -- a second of 100 milliseconds, of every label with a second
  b_in_minute_hundred : (l : LabelB) → (second l ≡ 0 → ⊥) → RuledOut (b_in_minute.Post κs) (l, tt) (second l * 100 + millisecond l)
  unfolding in_minute
  b_in_minute_hundred l more s p = more (omega arith)

  -- a second of 1001 milliseconds, of every label with a second
  b_in_minute_more : (l : LabelB) → (second l ≡ 0 → ⊥) → RuledOut (b_in_minute.Post κs) (l, tt) (second l * 1001 + millisecond l)
  unfolding in_minute
  b_in_minute_more l more s p = more (omega arith)

  -- a label before itself, whatever label it is
  b_is_before_same : (l : LabelB) → RuledOut (b_is_before.Post κs) (l, (l, tt)) true
  b_is_before_same l s p = not_both (b_not_itself l) (sym p)

  -- the earlier minute not before the later, whatever the seconds and milliseconds
  b_is_before_minute : (l m : LabelB) → before_a l.a m.a ≡ true → RuledOut (b_is_before.Post κs) (l, (m, tt)) false
  unfolding before_b
  b_is_before_minute l m before s p = never (cc)

  -- octets compared as they stand: 256 milliseconds before 255 of the same second
  b_is_before_octets : (a : LabelA) → RuledOut (b_is_before.Post κs) (label_b 0 1 a, (label_b 0xFF 0 a, tt)) true
  unfolding before_b in_minute second millisecond low_first
  b_is_before_octets a s p = never (cc (a_at_once a a refl))
