-- What a real date and time is, as facts instead of a test.
-- Condition by condition. Assumes nothing.
use Prim.Native.Nat.{◌+◌, ◌-◌, ◌≤◌}
use native.Mathlib.Omega.{arith}
use mathlib.Core.Bool.{true, and-true}
use mathlib.Core.Path.{◌≡◌}
use borrow.Author.Tests.{leb-true, le-leb}
use lib.Dec.{leb}
use Rattle.octets.specs.Conditions.{holds}
use Rattle.octets.proofs.Conditions.{holds_at}
use Rattle.label.specs.declared.DateTime.{DateTime}
use Rattle.label.specs.Calendar.{leap, month_length, days_of_months, days_to_year}
use Rattle.label.specs.Time.{real}
use Rattle.label.proofs.Calendar.{month_at_most, before_at_most, years_rule}

pub record Real (t : DateTime) : Type 0 where
  pub year : t.year ≤ 99
  pub month_first : 1 ≤ t.month
  pub month_last : t.month ≤ 12
  pub day_first : 1 ≤ t.day
  pub day_last : t.day ≤ month_length (leap t.year) t.month
  pub hour : t.hour ≤ 23
  pub minute : t.minute ≤ 59

pub real_facts : (t : DateTime) → real t ≡ true → Real t
unfolding real
real_facts t e =
    record {
      year = leb-true _ _ (holds_at _ e 0);
      month_first = leb-true _ _ (holds_at _ e 1);
      month_last = leb-true _ _ (holds_at _ e 2);
      day_first = leb-true _ _ (holds_at _ e 3);
      day_last = leb-true _ _ (holds_at _ e 4);
      hour = leb-true _ _ (holds_at _ e 5);
      minute = leb-true _ _ (holds_at _ e 6);
    }

-- and how large its parts are
pub record Room (t : DateTime) : Type 0 where
  pub facts : Real t
  pub day : t.day ≤ 31
  pub days : days_to_year t.year + days_of_months (leap t.year) (t.month - 1) ≤ 36495

pub room : (t : DateTime) → real t ≡ true → Room t
room t e =
    let r = real_facts t e in
    record {
      facts = r;
      day = omega (arith, month_at_most (leap t.year) t.month r.month_last);
      days = omega (arith, years_rule t.year (omega arith), before_at_most (leap t.year) t.month r.month_last);
    }

-- where all but the day's end is real, the day's end decides
pub real_but_day : (t : DateTime) → t.year ≤ 99 → 1 ≤ t.month → t.month ≤ 12 → 1 ≤ t.day → t.hour ≤ 23 → t.minute ≤ 59
    → leb t.day (month_length (leap t.year) t.month) ≡ real t
unfolding real holds
real_but_day t year month_first month_last day_first hour minute =
    simp (le-leb _ _ year, le-leb _ _ month_first, le-leb _ _ month_last, le-leb _ _ day_first, le-leb _ _ hour, le-leb _ _ minute, and-true)
