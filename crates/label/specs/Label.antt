-- Labels a and b. Document 01, "Label a: ..", sentence by sentence, and for their order document 02, #102; the bits are numbered from 1.
-- Assumes nothing.
use Rattle.std.specs.Prelude.{ℕ, ◌+◌, ◌*◌, Bool, true, false, not, List, [], ◌∷◌, ltb, leb, eqb, ℤ, pos, ◌-ℤ◌, get_or}
use Rattle.std.specs.Int.Signed.{lt_z}
use Rattle.octets.specs.Bits.{bits◌to◌of◌}
use Rattle.octets.specs.Choice.{when◌then◌else◌}
use Rattle.octets.specs.Conditions.{holds}
use Rattle.octets.specs.Numbers.{low_first}
use Rattle.label.specs.declared.DateTime.{DateTime}
use Rattle.label.specs.declared.LabelA.{LabelA}
use Rattle.label.specs.declared.LabelB.{LabelB}
use Rattle.label.specs.Time.{real, minutes, parts_of}

-- the label a in the five octets from a place on, and the label b in seven; octets that are not there count as 0
unfoldable pub label_a_at : List ℕ → ℕ → LabelA
label_a_at s at =
    record { minute = get_or s at 0; hour = get_or s (at + 1) 0; day = get_or s (at + 2) 0; month = get_or s (at + 3) 0; year = get_or s (at + 4) 0 }

unfoldable pub label_b_at : List ℕ → ℕ → LabelB
label_b_at s at = record { low = get_or s at 0; high = get_or s (at + 1) 0; a = label_a_at s (at + 2) }

-- a label's octets, in the same order
unfoldable pub label_a_octets : LabelA → List ℕ
label_a_octets l = l.minute ∷ l.hour ∷ l.day ∷ l.month ∷ l.year ∷ []

unfoldable pub label_b_octets : LabelB → List ℕ
label_b_octets l = l.low ∷ l.high ∷ label_a_octets l.a

-- minute in bits 1 to 6, hour in bits 1 to 5, day in bits 1 to 5, month in bits 1 to 4, year in bits 1 to 7
unfoldable pub date_time_a : LabelA → DateTime
date_time_a l =
    record {
      year = bits 1 to 7 of l.year;
      month = bits 1 to 4 of l.month;
      day = bits 1 to 5 of l.day;
      hour = bits 1 to 5 of l.hour;
      minute = bits 1 to 6 of l.minute;
    }

-- TIS 7, IV 8; SU 8; weekday above; ETI and PTI above; other bits are reserved. Valid: a real date and time; IV, TIS, ETI, PTI and reserved bits
-- (two of the hour's octet, one of the year's) 0; neither the weekday nor SU is judged
unfoldable pub valid_a : LabelA → Bool
valid_a l =
    holds
    (real (date_time_a l)
    ∷ eqb (bits 8 to 8 of l.minute) 0
    ∷ eqb (bits 7 to 7 of l.minute) 0
    ∷ eqb (bits 5 to 8 of l.month) 0
    ∷ eqb (bits 6 to 7 of l.hour) 0
    ∷ eqb (bits 8 to 8 of l.year) 0
    ∷ [])

-- SU: 1 in summer time
abbrev pub su : LabelA → ℕ
su l = bits 8 to 8 of l.hour

-- "Labels a and b are compared in standard time: with SU 1 the label counts one hour earlier" (#102). The minutes since 1 January 2000 00:00, a signed
-- number: "a summer label in the first hour of 2000 lies before the year's start". A label that is not valid has 0, so that every label has an instant
unfoldable pub instant : LabelA → ℤ
instant l =
    when not (valid_a l) then pos 0 else
    when eqb (su l) 1 then pos (minutes (date_time_a l)) -ℤ pos 60 else
    pos (minutes (date_time_a l))

unfoldable pub before_a : LabelA → LabelA → Bool
before_a l l' = lt_z (instant l) (instant l')

-- label b adds in front 10 bits of milliseconds and 6 of seconds
unfoldable pub millisecond : LabelB → ℕ
millisecond l = bits 1 to 10 of (low_first (l.low ∷ l.high ∷ []))

unfoldable pub second : LabelB → ℕ
second l = bits 11 to 16 of (low_first (l.low ∷ l.high ∷ []))

unfoldable pub valid_b : LabelB → Bool
valid_b l = holds (leb (second l) 59 ∷ leb (millisecond l) 999 ∷ valid_a l.a ∷ [])

-- the milliseconds since its minute began
unfoldable pub in_minute : LabelB → ℕ
in_minute l = second l * 1000 + millisecond l

-- b also by second and millisecond
unfoldable pub before_b : LabelB → LabelB → Bool
before_b l l' =
    when before_a l.a l'.a then true else
    when before_a l'.a l.a then false else
    ltb (in_minute l) (in_minute l')

-- its parts as they stand
unfoldable pub parts_a : LabelA → List ℕ
parts_a l = parts_of (date_time_a l)
