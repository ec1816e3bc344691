-- The order by instants is the paper's: document 01's, by year, month, day, hour, minute, and for b also by second and millisecond, in standard time, as document 02's
-- #102 says; and one instant is one date and time in standard time. A valid label in standard time is counted as its instant is. Assumes nothing.
use Prim.Native.Nat.{ℕ, ◌+◌, ◌*◌}
use mathlib.Core.Bool.{Bool, true, false}
use mathlib.Core.List.{List, [], ◌∷◌, ◌++◌}
use mathlib.Core.Path.{◌≡◌, refl, sym, ap, ◌∙◌}
use native.Mathlib.Omega.{arith}
use borrow.Author.Tests.{eqb-true, eq-eqb, lt-ltb, le-ltb}
use lib.Dec.{ltb, eqb}
use lib.IntN.{pos, ◌-ℤ◌}
use lib.ListN.{length, get_or}
use Rattle.octets.specs.Choice.{when◌then◌else◌}
use Rattle.octets.proofs.Choice.{same_test}
use Rattle.label.specs.declared.DateTime.{DateTime}
use Rattle.label.specs.declared.LabelA.{LabelA}
use Rattle.label.specs.declared.LabelB.{LabelB}
use Rattle.label.specs.declared.StandardTime.{StandardTime}
use Rattle.label.specs.Calendar.{days_of_months, days_to_year, day_number}
use Rattle.label.specs.Time.{minutes, parts_of}
use Rattle.label.specs.Label.{date_time_a, valid_a, su, instant, before_a, second, millisecond, valid_b, in_minute, before_b, parts_a}
use Rattle.label.specs.Standard.{standard_at, as_it_stands, hour_earlier, standard_a, parts_in, standard_parts_a, standard_parts_b, parts_b, earlier}
use Rattle.label.proofs.Time.{Real, real_facts}
use Rattle.label.proofs.Label.{valid_a_law, valid_b_law, instant_summer, from_summer}
use Rattle.label.proofs.Instant.{both_less, from_earliest, instant_from, before_a_law, a_at_once}
use Rattle.label.proofs.Parts.{part_decides, neither, earlier_append}
use Rattle.label.proofs.Standard.{days_to, count, RealTime, time_order, Before, stands_so, hour_earlier_law}

-- a valid label in standard time, counted as its instant is
standing : (l : LabelA) → valid_a l ≡ true → RealTime (standard_a l) × (count (standard_a l) + 60 ≡ days_to 2000 * 1440 + from_earliest l)
unfolding standard_a from_earliest
standing l v =
    let r : Real (date_time_a l) = real_facts (date_time_a l) (valid_a_law l v).real_time in
    rw v (by_su r (eqb (su l) 1))
  where
    by_su : Real (date_time_a l) → (s : Bool)
        → RealTime (when s then hour_earlier (date_time_a l) else as_it_stands (date_time_a l))
        × (count (when s then hour_earlier (date_time_a l) else as_it_stands (date_time_a l)) + 60
        ≡ days_to 2000 * 1440 + (when s then minutes (date_time_a l) else 60 + minutes (date_time_a l)))
    by_su r true = let b = hour_earlier_law (date_time_a l) r in (b.there, b.counts)
    by_su r false = let b = stands_so (date_time_a l) r in (b.there, omega (arith, b.counts))

-- in summer time it is never as it stands
pub hour_gone : (l : LabelA) → valid_a l ≡ true → su l ≡ 1 → standard_a l ≡ as_it_stands (date_time_a l) → ⊥
hour_gone l v s e =
    let r : Real (date_time_a l) = real_facts (date_time_a l) (valid_a_law l v).real_time in
    let shown : hour_earlier (date_time_a l) ≡ as_it_stands (date_time_a l) = from_summer l (date_time_a l) refl v (eq-eqb (su l) 1 s) ∙ e in
    omega (arith, (hour_earlier_law (date_time_a l) r).counts, (stands_so (date_time_a l) r).counts, ap count shown)

-- labels a: the order by instants is the order by parts in standard time
pub order_a : (l l' : LabelA) → valid_a l ≡ true → valid_a l' ≡ true → before_a l l' ≡ earlier (standard_parts_a l) (standard_parts_a l')
unfolding standard_parts_a
order_a l l' v v' =
    let s = standing l v in
    let s' = standing l' v' in
    before_a_law l l'
    ∙ both_less (from_earliest l) (from_earliest l') (count (standard_a l)) (count (standard_a l')) (λ h. omega (arith, s.1, s'.1)) (λ h. omega (arith, s.1, s'.1))
    ∙ sym (time_order (standard_a l) (standard_a l') s.0 s'.0)

-- with equal SU as they stand: the hour is taken off both, or off none
whole_years : (y y' : ℕ) (xs ys : List ℕ) → earlier ((2000 + y) ∷ xs) ((2000 + y') ∷ ys) ≡ earlier (y ∷ xs) (y' ∷ ys)
unfolding earlier
whole_years y y' xs ys = rw (same, both_less (2000 + y) (2000 + y') y y' (λ h. omega arith) (λ h. omega arith))
  where
    same : eqb (2000 + y) (2000 + y') ≡ eqb y y'
    same =
        same_test (eqb (2000 + y) (2000 + y')) (eqb y y')
        (λ e. eq-eqb y y' (omega (arith, eqb-true (2000 + y) (2000 + y') e)))
        (λ e. eq-eqb (2000 + y) (2000 + y') (omega (arith, eqb-true y y' e)))

from_su : (l : LabelA) → valid_a l ≡ true → from_earliest l ≡ (when eqb (su l) 1 then 0 else 60) + minutes (date_time_a l)
unfolding from_earliest
from_su l v = rw v (by_su (eqb (su l) 1))
  where
    by_su : (s : Bool) → (when s then minutes (date_time_a l) else 60 + minutes (date_time_a l)) ≡ (when s then 0 else 60) + minutes (date_time_a l)
    by_su true = omega arith
    by_su false = refl

pub order_a_as_it_stands : (l l' : LabelA) → valid_a l ≡ true → valid_a l' ≡ true → su l ≡ su l' → before_a l l' ≡ earlier (parts_a l) (parts_a l')
unfolding parts_a parts_of
order_a_as_it_stands l l' v v' e =
    before_a_law l l'
    ∙ both_less (from_earliest l) (from_earliest l') (count s) (count s')
    (λ h. omega (arith, from_su l v, from', b.counts, b'.counts))
    (λ h. omega (arith, from_su l v, from', b.counts, b'.counts))
    ∙ sym (time_order s s' b.there b'.there)
    ∙ as_parts
  where
    t : DateTime
    t = date_time_a l

    t' : DateTime
    t' = date_time_a l'

    s : StandardTime
    s = as_it_stands t

    s' : StandardTime
    s' = as_it_stands t'

    b : Before 0 t s
    b = stands_so t (real_facts t (valid_a_law l v).real_time)

    b' : Before 0 t' s'
    b' = stands_so t' (real_facts t' (valid_a_law l' v').real_time)

    from' : from_earliest l' ≡ (when eqb (su l) 1 then 0 else 60) + minutes t'
    from' = rw e (from_su l' v')

    as_parts : earlier (parts_in s) (parts_in s') ≡ earlier (parts_of t) (parts_of t')
    as_parts = unfold parts_in as_it_stands in whole_years t.year t'.year _ _

-- one instant is one date and time in standard time
parts_all : (s s' : StandardTime) → parts_in s ≡ parts_in s' → s ≡ s'
unfolding parts_in
parts_all s s' e = ap (λ (xs : List ℕ). standard_at (get_or xs 0 0) (get_or xs 1 0) (get_or xs 2 0) (get_or xs 3 0) (get_or xs 4 0)) e

as_many : (l l' : LabelA) → length (standard_parts_a l) ≡ length (standard_parts_a l')
unfolding standard_parts_a parts_in
as_many l l' = refl

module _ (l l' : LabelA) (v : valid_a l ≡ true) (v' : valid_a l' ≡ true) where
  pub same_instant : instant l ≡ instant l' → standard_a l ≡ standard_a l'
  unfolding standard_parts_a
  same_instant e =
      parts_all (standard_a l) (standard_a l')
      (neither (standard_parts_a l) (standard_parts_a l') (as_many l l')
      (sym (order_a l l' v v') ∙ a_at_once l l' e)
      (sym (order_a l' l v' v) ∙ a_at_once l' l (sym e)))

  pub same_standard : standard_a l ≡ standard_a l' → instant l ≡ instant l'
  same_standard e =
      let same : from_earliest l ≡ from_earliest l' = omega (arith, (standing l v).1, (standing l' v').1, ap count e) in
      instant_from l ∙ ap (λ (n : ℕ). pos n -ℤ pos 60) same ∙ sym (instant_from l')

-- a summer label in the first hour of 2000 lies before its start, and before every valid label in standard time
module _ (l : LabelA) (v : valid_a l ≡ true) (s : su l ≡ 1) (minute : ℕ) (p : parts_a l ≡ 0 ∷ 1 ∷ 1 ∷ 0 ∷ minute ∷ []) where
  part : (i : ℕ) → get_or (parts_a l) i 0 ≡ get_or (0 ∷ 1 ∷ 1 ∷ 0 ∷ minute ∷ []) i 0
  part i = ap (λ (xs : List ℕ). get_or xs i 0) p

  counted : minutes (date_time_a l) ≡ minute
  unfolding parts_a parts_of minutes day_number days_to_year days_of_months
  counted = rw (part 0, part 1, part 2, part 3, part 4) (omega arith)

  pub before_2000 : instant l ≡ pos minute -ℤ pos 60
  before_2000 = instant_summer l v (eq-eqb (su l) 1 s) ∙ ap (λ (n : ℕ). pos n -ℤ pos 60) counted

  pub in_1999 : standard_a l ≡ standard_at 1999 12 31 23 minute
  unfolding hour_earlier parts_a parts_of
  in_1999 = sym (from_summer l (date_time_a l) refl v (eq-eqb (su l) 1 s)) ∙ rw (part 0, part 1, part 2, part 3, part 4)

  pub before_all : (l' : LabelA) → valid_a l' ≡ true → su l' ≡ 0 → before_a l l' ≡ true
  unfolding parts_a parts_of
  before_all l' v' s' =
      let mine : from_earliest l ≡ 0 + minutes (date_time_a l) = rw s at (from_su l v) in
      let theirs : from_earliest l' ≡ 60 + minutes (date_time_a l') = rw s' at (from_su l' v') in
      before_a_law l l' ∙ lt-ltb (from_earliest l) (from_earliest l') (omega (arith, counted, (real_facts (date_time_a l) (valid_a_law l v).real_time).minute, part 4))

-- labels b: in one minute the seconds and milliseconds decide
in_minute_order : (l l' : LabelB) → valid_b l ≡ true → valid_b l' ≡ true
    → earlier (second l ∷ millisecond l ∷ []) (second l' ∷ millisecond l' ∷ []) ≡ ltb (in_minute l) (in_minute l')
unfolding earlier in_minute
in_minute_order l l' v v' =
    let w = valid_b_law l v in
    let w' = valid_b_law l' v' in
    part_decides (second l) (second l') (in_minute l) (in_minute l') _ (λ h. omega arith) (λ h. omega arith) (λ e.
    part_decides (millisecond l) (millisecond l') (in_minute l) (in_minute l') _ (λ h. omega arith) (λ h. omega arith) (λ f.
    sym (le-ltb (in_minute l) (in_minute l') (omega arith))))

-- whatever parts their labels a are ordered by
module _ (l l' : LabelB) (v : valid_b l ≡ true) (v' : valid_b l' ≡ true) where
  by_parts : (ps ps' : List ℕ) → length ps ≡ length ps' → before_a l.a l'.a ≡ earlier ps ps' → before_a l'.a l.a ≡ earlier ps' ps
      → before_b l l' ≡ earlier (ps ++ (second l ∷ millisecond l ∷ [])) (ps' ++ (second l' ∷ millisecond l' ∷ []))
  unfolding before_b
  by_parts ps ps' n e f = rw (e, f, earlier_append ps ps' _ _ n, in_minute_order l l' v v')

  pub order_b : before_b l l' ≡ earlier (standard_parts_b l) (standard_parts_b l')
  unfolding standard_parts_b
  order_b =
      let w = (valid_b_law l v).valid in
      let w' = (valid_b_law l' v').valid in
      by_parts (standard_parts_a l.a) (standard_parts_a l'.a) (as_many l.a l'.a) (order_a l.a l'.a w w') (order_a l'.a l.a w' w)

  pub order_b_as_it_stands : su l.a ≡ su l'.a → before_b l l' ≡ earlier (parts_b l) (parts_b l')
  unfolding parts_b parts_a parts_of
  order_b_as_it_stands e =
      let w = (valid_b_law l v).valid in
      let w' = (valid_b_law l' v').valid in
      by_parts (parts_a l.a) (parts_a l'.a) refl (order_a_as_it_stands l.a l'.a w w' e) (order_a_as_it_stands l'.a l.a w' w (sym e))
