-- The small steps of the code: a date's day by its label at midnight; and the rules of a record by its key, kind by kind.
-- By the tests on the way. Assumes nothing.
use Rattle.std.specs.Prelude.{Some, None}
use Rattle.std.specs.Option.{option_or}
use Prim.Native.Nat.{ℕ, ◌%◌, ◌≤◌, ◌<◌}
use mathlib.Core.Bool.{Bool, true, false, not, ◌&&◌}
use mathlib.Core.List.{List}
use mathlib.Core.Path.{◌≡◌, refl, ap, sym, ◌∙◌}
use native.Mathlib.Omega.{arith}
use borrow.Author.Tests.{leb-true, leb-false, ne_eqb}
use lib.Dec.{leb, eqb}
use Rattle.octets.specs.Choice.{when◌then◌else◌}
use Rattle.octets.specs.First.{first_of◌else◌}
use Rattle.octets.proofs.Choice.{refuted}
use Rattle.octets.proofs.Conditions.{and_right}
use Rattle.label.specs.declared.DateTime.{DateTime}
use Rattle.label.specs.declared.LabelA.{LabelA}
use Rattle.label.specs.Calendar.{leap, month_length}
use Rattle.label.specs.Label.{valid_a, valid_b}
use Rattle.label.proofs.Calendar.{month_at_most}
use Rattle.label.proofs.Label.{octets_a, valid_but_day}
use Rattle.records.specs.Records.{kind_of, whole_at, record_at}
use Rattle.records.proofs.Records.{kind_whole, kind_there}
use Rattle.fields.specs.declared.Key.{Key}
use Rattle.fields.specs.Parts.{point_of}
use Rattle.fields.specs.working.Key.{key_of}
use Rattle.fields.specs.Answers.{dates_at}
use Rattle.fields.proofs.Parts.{key_2, key_4, key_5}
use Rattle.image.specs.Image.{reading_record, event_record}
use Rattle.image.proofs.Keys.{same_kind}
use Rattle.faults.specs.declared.ImageRule.{ImageRule}
use Rattle.faults.specs.declared.ImageRule.TheVariants.{PointZero, ReadingAddress, ReadingLabel, EventAddress, EventLabel}
use Rattle.faults.specs.working.Walking.{unless, own_rule, dates_rule}

-- whether a month has a day
abbrev has_day : DateTime → Bool
has_day t = leb 1 t.day && leb t.day (month_length (leap t.year) t.month)

module _ (t : DateTime) (year : t.year ≤ 99) (first : 1 ≤ t.month) (last : t.month ≤ 12) where
  abbrev midnight : LabelA
  midnight = record { minute = 0; hour = 0; day = t.day; month = t.month; year = t.year }

  pub day_late : 31 < t.day → false ≡ has_day t
  day_late h =
      let length = month_length (leap t.year) t.month in
      refuted (has_day t) (λ e. omega (arith, leb-true t.day length (and_right (leb 1 t.day) (leb t.day length) e), month_at_most (leap t.year) t.month last))

  pub day_alone : t.day ≤ 31 → valid_a midnight ≡ has_day t
  day_alone h = by_test (leb 1 t.day) refl
    where
      by_test : (u : Bool) → leb 1 t.day ≡ u → valid_a midnight ≡ (u && leb t.day (month_length (leap t.year) t.month))
      by_test true e =
          let some = leb-true 1 t.day e in
          let same : t.day % 32 ≡ t.day = omega arith in
          sym (rw same at
          (valid_but_day midnight
          (record { minute = omega arith; hour = omega arith; year = year; month_first = first; month_last = last; day_first = omega arith })))
      by_test false e =
          let none = leb-false 1 t.day e in
          sym (refuted (valid_a midnight) (λ v. omega (arith, (octets_a midnight (omega arith) (omega arith) (omega arith) (omega arith) v).day_first)))

-- a record by itself, by its key
module _ (r : List ℕ) (k : Key) (e : k ≡ key_of r) where
  of_kind : (kind : ℕ) → k.kind ≡ kind → kind_of r ≡ kind
  of_kind kind h = sym (same_kind r k e) ∙ h

  pub own_point : k.kind ≡ 2 → unless (not (eqb k.point.0 0)) PointZero ≡ own_rule r
  unfolding own_rule
  own_point h = let n = of_kind 2 h in rw (e, key_2 r n, n) (refuses (eqb (point_of r) 0))
    where
      refuses : (t : Bool) → unless (not t) PointZero ≡ (when t then Some PointZero else None)
      refuses true = refl
      refuses false = refl

  two_parts : (t u : Bool) (one other : ImageRule) → option_or (unless t one) (unless u other) ≡ (when not t then Some one else when not u then Some other else None)
  two_parts true true one other = refl
  two_parts true false one other = refl
  two_parts false u one other = refl

  pub own_reading : k.kind ≡ 4 → option_or (unless (reading_record k.record_address) ReadingAddress) (unless (valid_a k.label.a) ReadingLabel) ≡ own_rule r
  unfolding own_rule
  own_reading h = let n = of_kind 4 h in two_parts _ _ _ _ ∙ sym (rw (n, e, key_4 r n))

  pub own_event : k.kind ≡ 5 → option_or (unless (event_record k.record_address) EventAddress) (unless (valid_b k.label) EventLabel) ≡ own_rule r
  unfolding own_rule
  own_event h = let n = of_kind 5 h in two_parts _ _ _ _ ∙ sym (rw (n, e, key_5 r n))

  pub own_dates : (s : List ℕ) (at : ℕ) → whole_at s at ≡ true → r ≡ record_at s at → k.kind ≡ 3 → dates_rule (dates_at s at) ≡ own_rule r
  unfolding own_rule dates_at dates_rule
  own_dates s at w there h =
      let n = of_kind 3 h in
      rw (kind_whole s at w ∙ sym (kind_there s at w) ∙ ap kind_of (sym there) ∙ n, ← there, n) (two_parts _ _ _ _)

  pub own_other : (k.kind ≡ 2 → ⊥) → (k.kind ≡ 3 → ⊥) → (k.kind ≡ 4 → ⊥) → (k.kind ≡ 5 → ⊥) → None ≡ own_rule r
  unfolding own_rule
  own_other n₂ n₃ n₄ n₅ =
      let same = same_kind r k e in
      sym (rw (
        ne_eqb (kind_of r) 2 (λ h. n₂ (same ∙ h)),
        ne_eqb (kind_of r) 3 (λ h. n₃ (same ∙ h)),
        ne_eqb (kind_of r) 4 (λ h. n₄ (same ∙ h)),
        ne_eqb (kind_of r) 5 (λ h. n₅ (same ∙ h)),
      ))
