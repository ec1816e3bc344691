-- Standard time by the calendar: what a label says in it, and the order by parts. The card's definition compares instants; that this comes to the same is a
-- theorem (`proofs/Order`). Assumes nothing.
use Rattle.std.specs.Prelude.{ℕ, ◌+◌, ◌-◌, Bool, false, ◌&&◌, List, [], ◌∷◌, ◌++◌, ltb, eqb}
use Rattle.octets.specs.Choice.{when◌then◌else◌}
use Rattle.label.specs.declared.DateTime.{DateTime}
use Rattle.label.specs.declared.LabelA.{LabelA}
use Rattle.label.specs.declared.LabelB.{LabelB}
use Rattle.label.specs.declared.StandardTime.{StandardTime}
use Rattle.label.specs.Calendar.{leap, month_length}
use Rattle.label.specs.Label.{date_time_a, valid_a, su, second, millisecond, parts_a}

-- by its parts; the year is whole, since one hour before 2000 is 1999
abbrev pub standard_at : ℕ → ℕ → ℕ → ℕ → ℕ → StandardTime
standard_at year month day hour minute = record { year = year; month = month; day = day; hour = hour; minute = minute }

-- a date and time as it stands
unfoldable pub as_it_stands : DateTime → StandardTime
as_it_stands t = standard_at (2000 + t.year) t.month t.day t.hour t.minute

-- one hour earlier: on the same day; else in the last hour of the day before, of the last day of the month before, of 31 December of the year before
unfoldable pub hour_earlier : DateTime → StandardTime
hour_earlier t =
    when ltb 0 t.hour then standard_at (2000 + t.year) t.month t.day (t.hour - 1) t.minute else
    when ltb 1 t.day then standard_at (2000 + t.year) t.month (t.day - 1) 23 t.minute else
    when ltb 1 t.month then standard_at (2000 + t.year) (t.month - 1) (month_length (leap t.year) (t.month - 1)) 23 t.minute else
    standard_at (1999 + t.year) 12 31 23 t.minute

-- with SU 1 the label counts one hour earlier; a label that is not valid is taken as it stands
unfoldable pub standard_a : LabelA → StandardTime
standard_a l = when valid_a l && eqb (su l) 1 then hour_earlier (date_time_a l) else as_it_stands (date_time_a l)

-- year, month, day, hour, minute in standard time; b also second and millisecond
unfoldable pub parts_in : StandardTime → List ℕ
parts_in s = s.year ∷ s.month ∷ s.day ∷ s.hour ∷ s.minute ∷ []

unfoldable pub standard_parts_a : LabelA → List ℕ
standard_parts_a l = parts_in (standard_a l)

unfoldable pub standard_parts_b : LabelB → List ℕ
standard_parts_b l = standard_parts_a l.a ++ (second l ∷ millisecond l ∷ [])

-- the same without SU: as the parts stand
unfoldable pub parts_b : LabelB → List ℕ
parts_b l = parts_a l.a ++ (second l ∷ millisecond l ∷ [])

-- by parts: the first that differs decides
unfoldable pub earlier : List ℕ → List ℕ → Bool
earlier [] ys = false
earlier (x ∷ xs) [] = false
earlier (x ∷ xs) (y ∷ ys) = when eqb x y then earlier xs ys else ltb x y
