-- The calendar's rules: the leap years, the two tables of months and the same by a month's turn, the days before a year; and that later days have larger
-- numbers.
-- The rules by tests computed over all years and months, the order by recursion on the months and years between. Assumes nothing.
use Prim.Native.Nat.{ℕ, zero, suc, ◌+◌, ◌-◌, ◌*◌, ◌/◌, ◌%◌, ◌≤◌, ◌<◌}
use mathlib.Core.Bool.{Bool, true, false, ◌||◌}
use mathlib.Core.Path.{◌≡◌, refl}
use Rattle.std.specs.Prelude.{◌≢◌}
use native.Mathlib.Omega.{arith}
use native.Mathlib.Nat.{le_of_suc-le-suc, not-suc-le-zero}
use borrow.Author.Tests.{eqb-true, eqb-false, eq-eqb, ne_eqb, leb-true}
use lib.Dec.{ltb, leb, eqb}
use lib.ListN.{get_or}
use mathlib.Core.List.{List, [], ◌∷◌}
use Rattle.octets.specs.Choice.{when◌then◌else◌}
use Rattle.octets.proofs.Computed.{pass_all, at_each}
use Rattle.label.specs.Calendar.{leap, leap_day, month_length, days_of_months, days_to_year}

pub leap_at_most : (is_leap : Bool) → leap_day is_leap ≤ 1
unfolding leap_day
leap_at_most true = omega arith
leap_at_most false = omega arith

-- in these years every fourth is a leap year
fourth : ℕ → Bool
fourth year = eqb (leap_day (eqb (year % 4) 0)) (leap_day (leap year))

pub leap_fourth : (year : ℕ) → year < 100 → leap_day (eqb (year % 4) 0) ≡ leap_day (leap year)
unfolding fourth leap leap_day
leap_fourth year h = eqb-true _ _ (at_each fourth 100 refl year h)

-- a rule of both kinds of year at each month
both_years : (f : Bool → ℕ → Bool) → pass_all (f true) 0 13 ≡ true → pass_all (f false) 0 13 ≡ true
    → (is_leap : Bool) (month : ℕ) → month ≤ 12 → f is_leap month ≡ true
both_years f t u true month h = at_each (f true) 13 t month (omega arith)
both_years f t u false month h = at_each (f false) 13 u month (omega arith)

-- the table of month lengths
lengths : List ℕ
lengths = 31 ∷ 28 ∷ 31 ∷ 30 ∷ 31 ∷ 30 ∷ 31 ∷ 31 ∷ 30 ∷ 31 ∷ 30 ∷ 31 ∷ []

length_right : Bool → ℕ → Bool
length_right is_leap month = eqb (get_or lengths (month - 1) 0 + (when eqb month 2 then leap_day is_leap else 0)) (month_length is_leap month)

pub length_rule : (is_leap : Bool) (month : ℕ) → month ≤ 12
    → get_or (31 ∷ 28 ∷ 31 ∷ 30 ∷ 31 ∷ 30 ∷ 31 ∷ 31 ∷ 30 ∷ 31 ∷ 30 ∷ 31 ∷ []) (month - 1) 0 + (when eqb month 2 then leap_day is_leap else 0) ≡ month_length is_leap month
unfolding lengths length_right month_length leap_day
length_rule is_leap month h = eqb-true _ _ (both_years length_right refl refl is_leap month h)

-- the table of days before a month
befores : List ℕ
befores = 0 ∷ 31 ∷ 59 ∷ 90 ∷ 120 ∷ 151 ∷ 181 ∷ 212 ∷ 243 ∷ 273 ∷ 304 ∷ 334 ∷ []

before_right : Bool → ℕ → Bool
before_right is_leap month = eqb (get_or befores (month - 1) 0 + (when ltb 2 month then leap_day is_leap else 0)) (days_of_months is_leap (month - 1))

pub before_rule : (is_leap : Bool) (month : ℕ) → month ≤ 12
    → get_or (0 ∷ 31 ∷ 59 ∷ 90 ∷ 120 ∷ 151 ∷ 181 ∷ 212 ∷ 243 ∷ 273 ∷ 304 ∷ 334 ∷ []) (month - 1) 0 + (when ltb 2 month then leap_day is_leap else 0) ≡ days_of_months is_leap (month - 1)
unfolding befores before_right days_of_months month_length leap_day
before_rule is_leap month h = eqb-true _ _ (both_years before_right refl refl is_leap month h)

-- a month's length by its turn, for all but February: the months of 30 days have an even turn, and the others that are left an odd one
pub february_rule : (is_leap : Bool) (month : ℕ) → month ≡ 2 → month_length is_leap month ≡ 28 + leap_day is_leap
unfolding month_length
february_rule is_leap month e = rw (eq-eqb month 2 e)

pub turn_rule : (is_leap : Bool) (month : ℕ) → 1 ≤ month → month ≤ 12 → month ≢ 2 → month_length is_leap month ≡ 30 + (month + month / 8) % 2
unfolding month_length
turn_rule is_leap month first last h = rw (ne_eqb month 2 h) (by_tests (eqb month 4) (eqb month 6) (eqb month 9) (eqb month 11) refl refl refl refl)
  where
    by_tests : (april june september november : Bool) → eqb month 4 ≡ april → eqb month 6 ≡ june → eqb month 9 ≡ september → eqb month 11 ≡ november
        → (when april || june || september || november then 30 else 31) ≡ 30 + (month + month / 8) % 2
    by_tests true june september november a j s n = omega (arith, eqb-true month 4 a)
    by_tests false true september november a j s n = omega (arith, eqb-true month 6 j)
    by_tests false false true november a j s n = omega (arith, eqb-true month 9 s)
    by_tests false false false true a j s n = omega (arith, eqb-true month 11 n)
    by_tests false false false false a j s n = omega (arith, eqb-false month 4 a, eqb-false month 6 j, eqb-false month 9 s, eqb-false month 11 n)

-- the days before a month by its turn: up to February, and from March on, where each month adds its length
pub until_february : (is_leap : Bool) (months : ℕ) → months ≤ 1 → days_of_months is_leap months ≡ 30 * months + (suc months + suc months / 8) / 2
unfolding days_of_months month_length
until_february is_leap zero h = refl
until_february is_leap (suc zero) h = refl
until_february is_leap (suc (suc months)) h = absurd (not-suc-le-zero (le_of_suc-le-suc h))

pub from_march : (is_leap : Bool) (months : ℕ) → 2 ≤ months → months ≤ 11
    → days_of_months is_leap months + 2 ≡ 30 * months + (suc months + suc months / 8) / 2 + leap_day is_leap
unfolding days_of_months
from_march is_leap zero h k = absurd (not-suc-le-zero h)
from_march is_leap (suc zero) h k = absurd (not-suc-le-zero (le_of_suc-le-suc h))
from_march is_leap (suc (suc zero)) h k = omega (arith, february_rule is_leap 2 refl, until_february is_leap 1 (omega arith))
from_march is_leap (suc (suc (suc months))) h k =
    omega (arith, from_march is_leap (suc (suc months)) (omega arith) (omega arith), turn_rule is_leap (suc (suc (suc months))) (omega arith) (omega arith) (omega arith))

-- how large they are
month_small : Bool → ℕ → Bool
month_small is_leap month = leb (month_length is_leap month) 31

pub month_at_most : (is_leap : Bool) (month : ℕ) → month ≤ 12 → month_length is_leap month ≤ 31
unfolding month_small month_length leap_day
month_at_most is_leap month h = leb-true _ _ (both_years month_small refl refl is_leap month h)

month_filled : Bool → ℕ → Bool
month_filled is_leap month = leb 28 (month_length is_leap month)

pub month_at_least : (is_leap : Bool) (month : ℕ) → month ≤ 12 → 28 ≤ month_length is_leap month
unfolding month_filled month_length leap_day
month_at_least is_leap month h = leb-true _ _ (both_years month_filled refl refl is_leap month h)

before_small : Bool → ℕ → Bool
before_small is_leap month = leb (days_of_months is_leap (month - 1)) 335

pub before_at_most : (is_leap : Bool) (month : ℕ) → month ≤ 12 → days_of_months is_leap (month - 1) ≤ 335
unfolding before_small days_of_months month_length leap_day
before_at_most is_leap month h = leb-true _ _ (both_years before_small refl refl is_leap month h)

-- a year has 365 days, and the leap day
pub year_days : (is_leap : Bool) → days_of_months is_leap 12 ≡ 365 + leap_day is_leap
unfolding days_of_months month_length leap_day
year_days true = refl
year_days false = refl

-- the days before a year, without going through the years
fourths : ℕ → Bool
fourths year = eqb ((year + 3) / 4 + leap_day (leap year)) ((year + 4) / 4)

pub years_rule : (year : ℕ) → year ≤ 100 → days_to_year year ≡ 365 * year + (year + 3) / 4
unfolding days_to_year fourths leap leap_day
years_rule zero h = refl
years_rule (suc year) h =
    let fourth_years : (year + 3) / 4 + leap_day (leap year) ≡ (year + 4) / 4 = eqb-true _ _ (at_each fourths 100 refl year (omega arith)) in
    omega (arith, years_rule year (omega arith), year_days (leap year))
