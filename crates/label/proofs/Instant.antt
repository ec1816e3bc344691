-- Instants as numbers: the minutes since 31 December 1999 23:00, before which no label lies. From that come the laws of the order of labels that callers
-- need, so that none of them asks whether an instant is negative. By arithmetic. Assumes nothing.
use Prim.Native.Nat.{ℕ, suc, ◌+◌, ◌-◌, ◌*◌, ◌^◌, ◌≤◌, ◌<◌}
use mathlib.Core.Bool.{Bool, true, false, not, cond, false≢true}
use mathlib.Core.Path.{◌≡◌, refl, ap, sym, ◌∙◌}
use native.Mathlib.Omega.{arith}
use borrow.Author.Tests.{ltb-true, ltb-false, leb-true, lt-ltb, le-ltb, le-leb, not-true}
use lib.Dec.{ltb, leb, eqb}
use lib.IntN.{ℤ, pos, negsuc, nat_abs, ◌-ℤ◌}
use lib.Signed.{lt_z, le_z, non_neg}
use mir.Syntax.{w64}
use mir.Val.{SFits}
use Rattle.octets.specs.Choice.{when◌then◌else◌}
use Rattle.octets.proofs.Choice.{same_test}
use Rattle.label.specs.declared.LabelA.{LabelA}
use Rattle.label.specs.declared.LabelB.{LabelB}
use Rattle.label.specs.Time.{minutes}
use Rattle.label.specs.Label.{date_time_a, valid_a, su, instant, before_a, in_minute, before_b}
use Rattle.label.proofs.Label.{second_small, millisecond_small}

-- two comparisons that hold together
pub both_less : (x y a b : ℕ) → (x < y → a < b) → (a < b → x < y) → ltb x y ≡ ltb a b
both_less x y a b up down =
    same_test (ltb x y) (ltb a b) (λ e. lt-ltb a b (up (ltb-true x y e))) (λ e. lt-ltb x y (down (ltb-true a b e)))

-- at most, and not less the other way round
not_less : (x y a b : ℕ) → (x ≤ y → a ≤ b) → (a ≤ b → x ≤ y) → leb x y ≡ not (ltb b a)
not_less x y a b up down = same_test (leb x y) (not (ltb b a)) (λ e. rw (le-ltb b a (up (leb-true x y e)))) (λ e. le-leb x y (down (ltb-false b a (not-true _ e))))

-- a number less 60, as a signed number: below 0 or not
data Less (n : ℕ) : ℤ → Type 0 where
  below : (k : ℕ) → n + k ≡ 59 → Less n (negsuc k)
  above : (k : ℕ) → n ≡ 60 + k → Less n (pos k)

less_60 : (n : ℕ) → Less n (pos n -ℤ pos 60)
less_60 n = by_test (ltb n 60) refl
  where
    by_test : (t : Bool) → ltb n 60 ≡ t → Less n (cond t (negsuc (60 - suc n)) (pos (n - 60)))
    by_test true e = below (60 - suc n) (omega (arith, ltb-true n 60 e))
    by_test false e = above (n - 60) (omega (arith, ltb-false n 60 e))

-- where it is not negative, it is 60 less
pub less_back : (n k : ℕ) → pos n -ℤ pos 60 ≡ pos k → n ≡ 60 + k
less_back n k = by_sign (less_60 n)
  where
    by_sign : {z : ℤ} → Less n z → z ≡ pos k → n ≡ 60 + k
    by_sign (below j e) f = absurd (false≢true (ap non_neg f))
    by_sign (above j e) f = omega (arith, ap nat_abs f)

-- numbers less 60 compare as the numbers do
module _ (n m : ℕ) where
  less_order : lt_z (pos n -ℤ pos 60) (pos m -ℤ pos 60) ≡ ltb n m
  less_order = by_signs (less_60 n) (less_60 m)
    where
      by_signs : {x y : ℤ} → Less n x → Less m y → lt_z x y ≡ ltb n m
      by_signs (below k e) (below j f) = both_less j k n m (λ h. omega arith) (λ h. omega arith)
      by_signs (below k e) (above j f) = sym (lt-ltb n m (omega arith))
      by_signs (above k e) (below j f) = sym (le-ltb n m (omega arith))
      by_signs (above k e) (above j f) = both_less k j n m (λ h. omega arith) (λ h. omega arith)

  at_most_order : le_z (pos n -ℤ pos 60) (pos m -ℤ pos 60) ≡ not (ltb m n)
  at_most_order = by_signs (less_60 n) (less_60 m)
    where
      by_signs : {x y : ℤ} → Less n x → Less m y → le_z x y ≡ not (ltb m n)
      by_signs (below k e) (below j f) = not_less j k n m (λ h. omega arith) (λ h. omega arith)
      by_signs (below k e) (above j f) = rw (le-ltb m n (omega arith))
      by_signs (above k e) (below j f) = rw (lt-ltb m n (omega arith))
      by_signs (above k e) (above j f) = not_less k j n m (λ h. omega arith) (λ h. omega arith)

-- and fit where the number does
pub less_fits : (n : ℕ) → n < 2 ^ 63 → SFits w64 (pos n -ℤ pos 60)
less_fits n h = by_sign (less_60 n)
  where
    by_sign : {x : ℤ} → Less n x → SFits w64 x
    by_sign (below k e) = record { sfits = omega arith }
    by_sign (above k e) = record { sfits = omega arith }

-- the minutes since 31 December 1999 23:00
unfoldable pub from_earliest : LabelA → ℕ
from_earliest l = when not (valid_a l) then 60 else when eqb (su l) 1 then minutes (date_time_a l) else 60 + minutes (date_time_a l)

pub instant_from : (l : LabelA) → instant l ≡ pos (from_earliest l) -ℤ pos 60
unfolding instant from_earliest
instant_from l = by_tests (valid_a l) (eqb (su l) 1)
  where
    n : ℕ
    n = minutes (date_time_a l)

    by_tests : (v s : Bool) → (when not v then pos 0 else when s then pos n -ℤ pos 60 else pos n) ≡ pos (when not v then 60 else when s then n else 60 + n) -ℤ pos 60
    by_tests false s = refl
    by_tests true true = refl
    by_tests true false = back (less_60 (60 + n))
      where
        back : {z : ℤ} → Less (60 + n) z → pos n ≡ z
        back (below k e) = absurd (omega arith)
        back (above k e) = ap pos (omega arith)

pub before_a_law : (l l' : LabelA) → before_a l l' ≡ ltb (from_earliest l) (from_earliest l')
unfolding before_a
before_a_law l l' = rw (instant_from l, instant_from l') (less_order (from_earliest l) (from_earliest l'))

-- of a label b by its milliseconds too, which are fewer than 65,536 in a minute
from_earliest_b : LabelB → ℕ
from_earliest_b l = from_earliest l.a * 65536 + in_minute l

in_minute_small : (l : LabelB) → in_minute l < 65536
unfolding in_minute
in_minute_small l = omega (arith, second_small l, millisecond_small l)

before_b_law : (l l' : LabelB) → before_b l l' ≡ ltb (from_earliest_b l) (from_earliest_b l')
unfolding before_b from_earliest_b
before_b_law l l' = rw (before_a_law l.a l'.a, before_a_law l'.a l.a) (by_tests (ltb x y) (ltb y x) refl refl)
  where
    x : ℕ
    x = from_earliest l.a

    y : ℕ
    y = from_earliest l'.a

    n : ℕ
    n = x * 65536 + in_minute l

    m : ℕ
    m = y * 65536 + in_minute l'

    small : (in_minute l < 65536) × (in_minute l' < 65536)
    small = (in_minute_small l, in_minute_small l')

    by_tests : (t u : Bool) → ltb x y ≡ t → ltb y x ≡ u
        → (when t then true else when u then false else ltb (in_minute l) (in_minute l')) ≡ ltb n m
    by_tests true u e f = sym (lt-ltb n m (omega (arith, ltb-true x y e, small.0)))
    by_tests false true e f = sym (le-ltb n m (omega (arith, ltb-true y x f, small.1)))
    by_tests false false e f =
        let least : y ≤ x = ltb-false x y e in
        let most : x ≤ y = ltb-false y x f in
        both_less (in_minute l) (in_minute l') n m (λ h. omega arith) (λ h. omega arith)

-- what callers need of the order of labels a: at one instant none lies before another, nor does one before and behind another; before is passed on; instants do not
-- fall
module _ (l l' : LabelA) where
  pub a_at_once : instant l ≡ instant l' → before_a l l' ≡ false
  unfolding before_a
  a_at_once e = rw (e, instant_from l') (less_order (from_earliest l') (from_earliest l') ∙ le-ltb (from_earliest l') (from_earliest l') (omega arith))

  pub a_not_after : before_a l l' ≡ true → before_a l' l ≡ false
  a_not_after =
      rw (before_a_law l l', before_a_law l' l)
      (λ e. le-ltb (from_earliest l') (from_earliest l) (omega (arith, ltb-true (from_earliest l) (from_earliest l') e)))

  pub a_trans : (l'' : LabelA) → before_a l l' ≡ true → before_a l' l'' ≡ true → before_a l l'' ≡ true
  a_trans l'' =
      rw (before_a_law l l', before_a_law l' l'', before_a_law l l'')
      (λ e f.
      lt-ltb (from_earliest l) (from_earliest l'')
      (omega (arith, ltb-true (from_earliest l) (from_earliest l') e, ltb-true (from_earliest l') (from_earliest l'') f)))

  -- an instant is at most another exactly when that is not before it
  pub a_at_most : le_z (instant l) (instant l') ≡ not (before_a l' l)
  a_at_most = rw (before_a_law l' l, instant_from l, instant_from l') (at_most_order (from_earliest l) (from_earliest l'))

  pub a_rises : before_a l l' ≡ true → le_z (instant l) (instant l') ≡ true
  a_rises e = a_at_most ∙ ap not (a_not_after e)

-- of labels b: the same, and not behind is passed on too
pub b_not_itself : (l : LabelB) → before_b l l ≡ false
b_not_itself l = rw (before_b_law l l) (le-ltb (from_earliest_b l) (from_earliest_b l) (omega arith))

module _ (l l' : LabelB) where
  not_before : not (before_b l' l) ≡ true → from_earliest_b l ≤ from_earliest_b l'
  not_before = rw (before_b_law l' l) (λ e. ltb-false (from_earliest_b l') (from_earliest_b l) (not-true _ e))

  so_not_before : from_earliest_b l ≤ from_earliest_b l' → not (before_b l' l) ≡ true
  so_not_before h = rw (before_b_law l' l) (rw (le-ltb (from_earliest_b l') (from_earliest_b l) h))

  pub b_rises : not (before_b l' l) ≡ true → le_z (instant l.a) (instant l'.a) ≡ true
  unfolding from_earliest_b
  b_rises e =
      rw (instant_from l.a, instant_from l'.a)
      (at_most_order (from_earliest l.a) (from_earliest l'.a)
      ∙ ap not (le-ltb (from_earliest l'.a) (from_earliest l.a) (omega (arith, not_before e, in_minute_small l, in_minute_small l'))))

pub b_not_trans : (l l' l'' : LabelB) → not (before_b l' l) ≡ true → not (before_b l'' l') ≡ true → not (before_b l'' l) ≡ true
b_not_trans l l' l'' e f = so_not_before l l'' (omega (arith, not_before l l' e, not_before l' l'' f))
