-- Dates and times counted in minutes from the year 0 on: the order of the numbers is the order by parts, since where the parts before are the same, the part that is earlier
-- gives the smaller number; and one hour earlier by the calendar is 60 minutes less. Assumes nothing.
use Prim.Native.Nat.{ℕ, zero, suc, ◌+◌, ◌-◌, ◌*◌, ◌%◌, ◌≤◌, ◌<◌}
use mathlib.Core.Bool.{Bool, not, ◌&&◌, ◌||◌}
use mathlib.Core.Path.{◌≡◌, refl, sym, ◌∙◌}
use native.Mathlib.Nat.{add-zero, add-suc}
use native.Mathlib.Omega.{arith}
use borrow.Author.Tests.{ltb-true, ltb-false, le-ltb}
use lib.Dec.{ltb, eqb}
use Rattle.octets.proofs.Choice.{either}
use Rattle.label.specs.declared.DateTime.{DateTime}
use Rattle.label.specs.declared.StandardTime.{StandardTime}
use Rattle.label.specs.Calendar.{leap, month_length, days_of_months, days_to_year, day_number}
use Rattle.label.specs.Time.{minutes}
use Rattle.label.specs.Standard.{standard_at, as_it_stands, hour_earlier, parts_in, earlier}
use Rattle.label.proofs.Calendar.{month_at_least}
use Rattle.label.proofs.Time.{Real}
use Rattle.label.proofs.Parts.{part_decides}

-- the rule of leap years on a whole year, as `leap` has it for the years from 2000 on
gregorian : ℕ → Bool
gregorian year = eqb (year % 4) 0 && (not (eqb (year % 100) 0) || eqb (year % 400) 0)

-- the days before a year
pub days_to : ℕ → ℕ
days_to zero = 0
days_to (suc year) = days_to year + days_of_months (gregorian year) 12

-- the minutes before a time
pub count : StandardTime → ℕ
count s =
    (days_to s.year + days_of_months (gregorian s.year) (s.month - 1) + (s.day - 1)) * 1440 + (s.hour * 60 + s.minute)

-- a real date and time of any year
pub record RealTime (s : StandardTime) : Type 0 where
  month_first : 1 ≤ s.month
  month_last : s.month ≤ 12
  day_first : 1 ≤ s.day
  day_last : s.day ≤ month_length (gregorian s.year) s.month
  hour : s.hour ≤ 23
  minute : s.minute ≤ 59

-- what grows from each number to the next grows
grows : (f : ℕ → ℕ) → ((k : ℕ) → f k ≤ f (suc k)) → (k j : ℕ) → f k ≤ f (k + j)
grows f step k zero = rw add-zero (omega arith)
grows f step k (suc j) = rw add-suc (omega (arith, grows f step k j, step (k + j)))

months_grow : (is_leap : Bool) (k : ℕ) → days_of_months is_leap k ≤ days_of_months is_leap (suc k)
unfolding days_of_months
months_grow is_leap k = omega arith

years_grow : (year : ℕ) → days_to year ≤ days_to (suc year)
unfolding days_to
years_grow year = omega arith

-- a month's last day comes before the next month, and a year's before the next year
month_ends : (is_leap : Bool) (month : ℕ) → 1 ≤ month → days_of_months is_leap (month - 1) + month_length is_leap month ≡ days_of_months is_leap month
unfolding days_of_months
month_ends is_leap zero h = absurd (omega arith)
month_ends is_leap (suc month) h = let e : suc month - 1 ≡ month = omega arith in rw e

year_ends : (year : ℕ) → days_to year + days_of_months (gregorian year) 12 ≡ days_to (suc year)
unfolding days_to
year_ends year = refl

december : (is_leap : Bool) → month_length is_leap 12 ≡ 31
unfolding month_length
december is_leap = refl

no_days : (is_leap : Bool) → days_of_months is_leap 0 ≡ 0
unfolding days_of_months
no_days is_leap = refl

-- from the first part that differs to the number of minutes
module _ (s s' : StandardTime) (r : RealTime s) (r' : RealTime s') where
  days : StandardTime → ℕ
  days t = days_to t.year + days_of_months (gregorian t.year) (t.month - 1) + (t.day - 1)

  by_days : days s < days s' → count s < count s'
  unfolding days count
  by_days h = omega (arith, r.hour, r.minute)

  by_year : s.year < s'.year → count s < count s'
  unfolding days
  by_year h =
      let is_leap = gregorian s.year in
      let months : s.month + (12 - s.month) ≡ 12 = omega (arith, r.month_last) in
      let years : suc s.year + (s'.year - suc s.year) ≡ s'.year = omega arith in
      by_days
      (omega (
        arith,
        r.day_last,
        r'.day_first,
        month_ends is_leap s.month r.month_first,
        rw months at (grows (days_of_months is_leap) (months_grow is_leap) s.month (12 - s.month)),
        year_ends s.year,
        rw years at (grows days_to years_grow (suc s.year) (s'.year - suc s.year)),
      ))

  by_month : s.year ≡ s'.year → s.month < s'.month → count s < count s'
  unfolding days
  by_month e h =
      let is_leap = gregorian s.year in
      let months : s.month + (s'.month - 1 - s.month) ≡ s'.month - 1 = omega arith in
      by_days
      (rw (← e)
      (omega (
        arith,
        r.day_last,
        r'.day_first,
        month_ends is_leap s.month r.month_first,
        rw months at (grows (days_of_months is_leap) (months_grow is_leap) s.month (s'.month - 1 - s.month)),
      )))

  by_day : s.year ≡ s'.year → s.month ≡ s'.month → s.day < s'.day → count s < count s'
  unfolding days
  by_day e f h = by_days (rw (← e, ← f) (omega (arith, r.day_first)))

  by_hour : s.year ≡ s'.year → s.month ≡ s'.month → s.day ≡ s'.day → s.hour < s'.hour → count s < count s'
  unfolding count
  by_hour e f g h = rw (← e, ← f, ← g) (omega (arith, r.minute))

  by_minute : s.year ≡ s'.year → s.month ≡ s'.month → s.day ≡ s'.day → s.hour ≡ s'.hour → s.minute < s'.minute → count s < count s'
  unfolding count
  by_minute e f g i h = rw (← e, ← f, ← g, ← i) (omega arith)

same_count : (s s' : StandardTime) → s.year ≡ s'.year → s.month ≡ s'.month → s.day ≡ s'.day → s.hour ≡ s'.hour → s.minute ≡ s'.minute → count s ≡ count s'
unfolding count
same_count s s' e f g i j = rw (e, f, g, i, j)

-- of real dates and times
pub time_order : (s s' : StandardTime) → RealTime s → RealTime s' → earlier (parts_in s) (parts_in s') ≡ ltb (count s) (count s')
unfolding earlier parts_in
time_order s s' r r' =
    part_decides s.year s'.year n m _ (by_year s s' r r') (by_year s' s r' r) (λ e.
    part_decides s.month s'.month n m _ (by_month s s' r r' e) (by_month s' s r' r (sym e)) (λ f.
    part_decides s.day s'.day n m _ (by_day s s' r r' e f) (by_day s' s r' r (sym e) (sym f)) (λ g.
    part_decides s.hour s'.hour n m _ (by_hour s s' r r' e f g) (by_hour s' s r' r (sym e) (sym f) (sym g)) (λ i.
    part_decides s.minute s'.minute n m _ (by_minute s s' r r' e f g i) (by_minute s' s r' r (sym e) (sym f) (sym g) (sym i)) (λ j.
    sym (le-ltb n m (omega (arith, same_count s s' e f g i j))))))))
  where
    n : ℕ
    n = count s

    m : ℕ
    m = count s'

-- the years from a year on that has the leap years of `leap`
years_on : (base : ℕ) → ((year : ℕ) → gregorian (base + year) ≡ leap year) → (year : ℕ) → days_to (base + year) ≡ days_to base + days_to_year year
unfolding days_to_year
years_on base leaps zero = rw add-zero (omega arith)
years_on base leaps (suc year) =
    rw (add-suc, ← leaps year, ← year_ends (base + year), years_on base leaps year) (omega arith)

leaps_2000 : (year : ℕ) → gregorian (2000 + year) ≡ leap year
unfolding gregorian leap
leaps_2000 year = refl

days_2000 : (year : ℕ) → days_to (2000 + year) ≡ days_to 2000 + days_to_year year
days_2000 = years_on 2000 leaps_2000

-- a standard time so many minutes before a date and time, which is counted from 2000 on
pub record Before (many : ℕ) (t : DateTime) (s : StandardTime) : Type 0 where
  pub there : RealTime s
  pub counts : count s + many ≡ days_to 2000 * 1440 + minutes t

-- a time of the same year, by its parts: where they are real, and so many minutes are left to the date and time
in_its_year : (many : ℕ) (t : DateTime) (month day hour : ℕ) → 1 ≤ month → month ≤ 12 → 1 ≤ day → day ≤ month_length (leap t.year) month → hour ≤ 23 → t.minute ≤ 59
    → (days_to_year t.year + days_of_months (leap t.year) (month - 1) + (day - 1)) * 1440 + (hour * 60 + t.minute) + many ≡ minutes t
    → Before many t (standard_at (2000 + t.year) month day hour t.minute)
unfolding count
in_its_year many t month day hour month_first month_last day_first day_last hour-last minute-last left =
    record {
      there =
          record {
            month_first = month_first;
            month_last = month_last;
            day_first = day_first;
            day_last = rw (leaps_2000 t.year) day_last;
            hour = hour-last;
            minute = minute-last;
          };
      counts = rw (leaps_2000 t.year, days_2000 t.year) (omega arith);
    }

module _ (t : DateTime) (r : Real t) where
  pub stands_so : Before 0 t (as_it_stands t)
  unfolding as_it_stands minutes day_number
  stands_so =
      in_its_year 0 t t.month t.day t.hour r.month_first r.month_last r.day_first r.day_last r.hour r.minute (omega arith)

  -- one hour earlier: on the same day, the day before, the last day of the month before, the last day of the year before
  pub hour_earlier_law : Before 60 t (hour_earlier t)
  unfolding hour_earlier count minutes day_number
  hour_earlier_law =
      either (Before 60 t) (ltb 0 t.hour) (λ e. same_day (ltb-true 0 t.hour e)) (λ e.
      let midnight : t.hour ≤ 0 = ltb-false 0 t.hour e in
      either (Before 60 t) (ltb 1 t.day) (λ f. day_before midnight (ltb-true 1 t.day f)) (λ f.
      let first : t.day ≤ 1 = ltb-false 1 t.day f in
      either (Before 60 t) (ltb 1 t.month) (λ g. month_before midnight first (ltb-true 1 t.month g)) (λ g.
      year_before midnight first (ltb-false 1 t.month g))))
    where
      is_leap : Bool
      is_leap = leap t.year

      same_day : 0 < t.hour → Before 60 t (standard_at (2000 + t.year) t.month t.day (t.hour - 1) t.minute)
      same_day h =
          in_its_year 60 t t.month t.day (t.hour - 1) r.month_first r.month_last r.day_first r.day_last (omega (arith, r.hour)) r.minute (omega arith)

      day_before : t.hour ≤ 0 → 1 < t.day → Before 60 t (standard_at (2000 + t.year) t.month (t.day - 1) 23 t.minute)
      day_before z h =
          in_its_year 60 t t.month (t.day - 1) 23 r.month_first r.month_last (omega arith) (omega (arith, r.day_last)) (omega arith) r.minute (omega arith)

      month_before : t.hour ≤ 0 → t.day ≤ 1 → 1 < t.month
          → Before 60 t (standard_at (2000 + t.year) (t.month - 1) (month_length is_leap (t.month - 1)) 23 t.minute)
      month_before z d h =
          let least : 28 ≤ month_length is_leap (t.month - 1) = month_at_least is_leap (t.month - 1) (omega (arith, r.month_last)) in
          in_its_year 60 t (t.month - 1) (month_length is_leap (t.month - 1)) 23 (omega arith) (omega (arith, r.month_last)) (omega arith) (omega arith) (omega arith) r.minute
          (omega (arith, r.day_first, month_ends is_leap (t.month - 1) (omega arith)))

      year_before : t.hour ≤ 0 → t.day ≤ 1 → t.month ≤ 1 → Before 60 t (standard_at (1999 + t.year) 12 31 23 t.minute)
      year_before z d m =
          let last = gregorian (1999 + t.year) in
          let first : t.month - 1 ≡ 0 = omega arith in
          let next : suc (1999 + t.year) ≡ 2000 + t.year = omega arith in
          let ends : days_to (1999 + t.year) + days_of_months last 12 ≡ days_to 2000 + days_to_year t.year =
          rw next at (year_ends (1999 + t.year)) ∙ days_2000 t.year in
          record {
            there =
                record {
                  month_first = omega arith;
                  month_last = omega arith;
                  day_first = omega arith;
                  day_last = rw (december last) (omega arith);
                  hour = omega arith;
                  minute = r.minute;
                };
            counts = rw first (omega (arith, ends, month_ends last 12 (omega arith), december last, r.day_first, no_days is_leap));
          }
