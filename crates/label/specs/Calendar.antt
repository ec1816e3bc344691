-- The calendar of the years 2000 to 2099. A year is its last two figures, 0 to 99; months are 1 to 12.
-- Assumes nothing.
use Rattle.std.specs.Prelude.{ℕ, zero, suc, ◌+◌, ◌-◌, ◌%◌, Bool, not, ◌&&◌, ◌||◌, eqb}
use Rattle.octets.specs.Choice.{when◌then◌else◌}

-- every fourth year is a leap year, but of the hundreds only every fourth
unfoldable pub leap : ℕ → Bool
leap year = eqb ((2000 + year) % 4) 0 && (not (eqb ((2000 + year) % 100) 0) || eqb ((2000 + year) % 400) 0)

-- the day that a leap year has more, given whether the year is one
unfoldable pub leap_day : Bool → ℕ
leap_day is_leap = when is_leap then 1 else 0

-- February has 28 days, 29 in a leap year; April, June, September and November have 30; the others have 31
unfoldable pub month_length : Bool → ℕ → ℕ
month_length is_leap month =
    when eqb month 2 then 28 + leap_day is_leap else
    when eqb month 4 || eqb month 6 || eqb month 9 || eqb month 11 then 30 else
    31

-- the days of a year's first so many months
unfoldable pub days_of_months : Bool → ℕ → ℕ
days_of_months is_leap zero = 0
days_of_months is_leap (suc months) = days_of_months is_leap months + month_length is_leap (suc months)

-- the days from 1 January 2000 to 1 January of a year
unfoldable pub days_to_year : ℕ → ℕ
days_to_year zero = 0
days_to_year (suc year) = days_to_year year + days_of_months (leap year) 12

-- the number of a day, 0 on 1 January 2000
unfoldable pub day_number : ℕ → ℕ → ℕ → ℕ
day_number year month day = days_to_year year + days_of_months (leap year) (month - 1) + (day - 1)
