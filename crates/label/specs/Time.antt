-- A date and time: when it is real, its minute counted from 1 January 2000 00:00, and its parts.
-- Assumes nothing.
use Rattle.std.specs.Prelude.{ℕ, ◌+◌, ◌*◌, Bool, List, [], ◌∷◌, leb}
use Rattle.octets.specs.Conditions.{holds}
use Rattle.label.specs.declared.DateTime.{DateTime}
use Rattle.label.specs.Calendar.{leap, month_length, day_number}

-- a real date and time in 2000 to 2099
unfoldable pub real : DateTime → Bool
real t =
    holds
    (leb t.year 99
    ∷ leb 1 t.month
    ∷ leb t.month 12
    ∷ leb 1 t.day
    ∷ leb t.day (month_length (leap t.year) t.month)
    ∷ leb t.hour 23
    ∷ leb t.minute 59
    ∷ [])

-- day number × 1440 + minute of the day
unfoldable pub minutes : DateTime → ℕ
minutes t = day_number t.year t.month t.day * 1440 + (t.hour * 60 + t.minute)

-- its parts: year, month, day, hour, minute
unfoldable pub parts_of : DateTime → List ℕ
parts_of t = t.year ∷ t.month ∷ t.day ∷ t.hour ∷ t.minute ∷ []
