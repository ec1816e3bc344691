-- Labels in octets, where they stand and in a part that is cut out; what valid labels are, as facts instead of tests.
-- Octet by octet; condition by condition. Assumes nothing.
use Prim.Native.Nat.{ℕ, ◌+◌, ◌*◌, ◌/◌, ◌%◌, ◌^◌, ◌<◌, ◌≤◌}
use mathlib.Core.Bool.{Bool, true, false, ◌&&◌, and-true}
use mathlib.Core.List.{List}
use mathlib.Core.Path.{◌≡◌, refl, ap, sym, ◌∙◌}
use native.Mathlib.Nat.{add_assoc}
use native.Mathlib.Numerals.{unary_clauses}
use native.Mathlib.Omega.{arith}
use borrow.Author.Tests.{eqb-true, leb-true, eq-eqb, le-leb}
use lib.Dec.{ltb, leb, eqb}
use lib.IntN.{ℤ, pos, ◌-ℤ◌}
use lib.ListN.{length, get_or, take, drop}
use lib.Seq.{get_or-take, get_or-drop}
use lib.Signed.{mag, lt_z}
use mir.Syntax.{w64}
use mir.Val.{to_z, of_z}
use mir.Facts.{to_z-of_z, to_z_pos}
use Rattle.octets.specs.Bits.{bits◌to◌of◌}
use Rattle.octets.specs.Conditions.{holds}
use Rattle.octets.proofs.Choice.{same_test}
use Rattle.octets.proofs.Computed.{at_each}
use Rattle.octets.specs.Choice.{when◌then◌else◌}
use Rattle.octets.proofs.Conditions.{and_left, and_right, holds_at}
use Rattle.octets.proofs.Lists.{part_at}
use Rattle.label.specs.declared.DateTime.{DateTime}
use Rattle.label.specs.declared.LabelA.{LabelA}
use Rattle.label.specs.declared.LabelB.{LabelB}
use Rattle.std.specs.Prelude.{Option, Some, None, MatchOption, unwrap_or, Result, Ok, Err, cond}
use Rattle.std.specs.Result.{result_ok}
use Rattle.std.specs.Ordering.{is_lt, is_some_and, partial_ordering_then, int_cmp, nat_cmp}
use Rattle.std.specs.declared.cmp.Ordering.TheVariants.{Less, Equal, Greater}
use Rattle.label.specs.Calendar.{leap, month_length}
use Rattle.label.specs.Time.{real, minutes}
use Rattle.label.specs.Label.{label_a_at, label_b_at, label_a_octets, label_b_octets, date_time_a, valid_a, su, instant, before_a, second, millisecond, valid_b, in_minute, before_b}
use Rattle.label.specs.Standard.{as_it_stands, hour_earlier, standard_a}
use Rattle.label.specs.Calls.{moment_of, moment_b}
use Rattle.label.proofs.Time.{real_facts, real_but_day}

-- a label that a part of octets has whole is the one that stands there
module _ (s : List ℕ) (width at : ℕ) where
  in_part : (k : ℕ) → k < width → get_or (take width (drop at s)) k 0 ≡ get_or s (at + k) 0
  in_part k h = get_or-take width (drop at s) k 0 h ∙ get_or-drop at s k 0

  pub label_a_in : (k : ℕ) → k + 5 ≤ width → label_a_at (take width (drop at s)) k ≡ label_a_at s (at + k)
  unfolding label_a_at
  label_a_in k h =
      rw (
        in_part k (omega arith),
        in_part (k + 1) (omega arith),
        in_part (k + 2) (omega arith),
        in_part (k + 3) (omega arith),
        in_part (k + 4) (omega arith),
        add_assoc at k 1,
        add_assoc at k 2,
        add_assoc at k 3,
        add_assoc at k 4,
      )

  pub label_b_in : (k : ℕ) → k + 7 ≤ width → label_b_at (take width (drop at s)) k ≡ label_b_at s (at + k)
  unfolding label_b_at
  label_b_in k h =
      rw (in_part k (omega arith), in_part (k + 1) (omega arith), label_a_in (k + 2) (omega arith), add_assoc at k 1, add_assoc at k 2)

-- cut out alone, and written again
module _ (s : List ℕ) (at : ℕ) where
  pub label_a_cut : label_a_at (take 5 (drop at s)) 0 ≡ label_a_at s at
  label_a_cut = simp unary_clauses at (label_a_in s 5 at 0 (omega arith))

  pub label_b_cut : label_b_at (take 7 (drop at s)) 0 ≡ label_b_at s at
  label_b_cut = simp unary_clauses at (label_b_in s 7 at 0 (omega arith))

  pub label_a_written : at + 5 ≤ length s → label_a_octets (label_a_at s at) ≡ take 5 (drop at s)
  unfolding label_a_at label_a_octets
  label_a_written h = simp unary_clauses (sym (part_at 5 s at h))

  pub label_b_written : at + 7 ≤ length s → label_b_octets (label_b_at s at) ≡ take 7 (drop at s)
  unfolding label_b_at label_b_octets label_a_at label_a_octets
  label_b_written h = simp unary_clauses (sym (part_at 7 s at h))

pub record ValidA (l : LabelA) : Type 0 where
  pub real_time : real (date_time_a l) ≡ true
  pub no_iv : bits 8 to 8 of l.minute ≡ 0
  pub no_tis : bits 7 to 7 of l.minute ≡ 0
  pub no_eti_pti : bits 5 to 8 of l.month ≡ 0
  pub no_hour_reserved : bits 6 to 7 of l.hour ≡ 0
  pub no_year_reserved : bits 8 to 8 of l.year ≡ 0

pub valid_a_law : (l : LabelA) → valid_a l ≡ true → ValidA l
unfolding valid_a
valid_a_law l e =
    record {
      real_time = holds_at _ e 0;
      no_iv = eqb-true _ _ (holds_at _ e 1);
      no_tis = eqb-true _ _ (holds_at _ e 2);
      no_eti_pti = eqb-true _ _ (holds_at _ e 3);
      no_hour_reserved = eqb-true _ _ (holds_at _ e 4);
      no_year_reserved = eqb-true _ _ (holds_at _ e 5);
    }

-- where the flags and reserved bits are 0, the date and time decides
pub valid_but_real : (l : LabelA) → bits 8 to 8 of l.minute ≡ 0 → bits 7 to 7 of l.minute ≡ 0 → bits 5 to 8 of l.month ≡ 0 → bits 6 to 7 of l.hour ≡ 0 → bits 8 to 8 of l.year ≡ 0 → real (date_time_a l) ≡ valid_a l
unfolding valid_a holds
valid_but_real l i t e h y = simp (eq-eqb _ _ i, eq-eqb _ _ t, eq-eqb _ _ e, eq-eqb _ _ h, eq-eqb _ _ y, and-true)

-- the octets of a valid label: what stands above a minute, an hour, a month and a year is 0, so that these octets are small
pub record OctetsA (l : LabelA) : Type 0 where
  pub minute : l.minute ≤ 59
  pub hour : l.hour % 128 ≤ 23
  pub year : l.year ≤ 99
  pub month_first : 1 ≤ l.month
  pub month_last : l.month ≤ 12
  pub day_first : 1 ≤ l.day % 32

-- IV and TIS stand above the minute
flags_and_minute : ℕ → Bool
flags_and_minute octet = eqb (octet / 128 % 2 * 128 + octet / 64 % 2 * 64 + octet % 64) octet

flags_and_minute_law : (octet : ℕ) → octet < 256 → octet / 128 % 2 * 128 + octet / 64 % 2 * 64 + octet % 64 ≡ octet
unfolding flags_and_minute
flags_and_minute_law octet h = eqb-true _ _ (at_each flags_and_minute 256 refl octet h)

pub octets_a : (l : LabelA) → l.minute < 256 → l.hour < 256 → l.month < 256 → l.year < 256 → valid_a l ≡ true → OctetsA l
unfolding date_time_a
octets_a l minute hour month year e =
    let v = valid_a_law l e in
    let r = real_facts (date_time_a l) v.real_time in
    record {
      minute = omega (arith, flags_and_minute_law l.minute minute);
      hour = omega arith;
      year = omega arith;
      month_first = omega arith;
      month_last = omega arith;
      day_first = omega arith;
    }

-- where they are, the day's end decides
pub valid_but_day : (l : LabelA) → OctetsA l → leb (l.day % 32) (month_length (leap l.year) l.month) ≡ valid_a l
unfolding date_time_a
valid_but_day l o =
    let year : bits 1 to 7 of l.year ≡ l.year = omega arith in
    let month : bits 1 to 4 of l.month ≡ l.month = omega arith in
    let day : bits 1 to 5 of l.day ≡ l.day % 32 = omega arith in
    rw (year, month, day) at
    (real_but_day (date_time_a l) (omega arith) (omega arith) (omega arith) (omega arith) (omega arith) (omega arith)
    ∙ valid_but_real l (omega arith) (omega arith) (omega arith) (omega arith) (omega arith))

-- where year and month are those of the calendar, the octets of minute and hour and the day decide
pub valid_by_tests : (l : LabelA) → l.minute < 256 → l.hour < 256 → l.month < 256 → l.year < 256 → l.year < 100 → 1 ≤ l.month → l.month ≤ 12
    → ((leb l.minute 59 && leb (l.hour % 128) 23) && (leb 1 (l.day % 32) && leb (l.day % 32) (month_length (leap l.year) l.month))) ≡ valid_a l
valid_by_tests l minute hour month year year_last month_first month_last =
    same_test _ _
    (λ e.
    let clock = and_left _ _ e in
    let day = and_right _ _ e in
    sym
    (valid_but_day l
    (record {
      minute = leb-true _ _ (and_left _ _ clock);
      hour = leb-true _ _ (and_right _ _ clock);
      year = omega arith;
      month_first = month_first;
      month_last = month_last;
      day_first = leb-true _ _ (and_left _ _ day);
    }))
    ∙ and_right _ _ day)
    (λ v.
    let o = octets_a l minute hour month year v in
    rw (le-leb _ _ o.minute, le-leb _ _ o.hour, le-leb _ _ o.day_first, valid_but_day l o) v)

-- SU is the highest bit of the hour's octet
pub su_highest : (l : LabelA) → l.hour < 256 → leb 128 l.hour ≡ eqb (su l) 1
su_highest l small =
    same_test (leb 128 l.hour) (eqb (su l) 1)
    (λ e. eq-eqb (su l) 1 (omega (arith, leb-true 128 l.hour e)))
    (λ e. le-leb 128 l.hour (omega (arith, eqb-true (su l) 1 e)))

-- the instant of a label that is not valid; of a valid one in standard time; of one in summer time
pub instant_not : (l : LabelA) → valid_a l ≡ false → instant l ≡ pos 0
unfolding instant
instant_not l e = rw e

module _ (l : LabelA) (v : valid_a l ≡ true) where
  pub instant_standard : eqb (su l) 1 ≡ false → instant l ≡ pos (minutes (date_time_a l))
  unfolding instant
  instant_standard s = rw (v, s)

  pub instant_summer : eqb (su l) 1 ≡ true → instant l ≡ pos (minutes (date_time_a l)) -ℤ pos 60
  unfolding instant
  instant_summer s = rw (v, s)

-- as the machine counts it
module _ (l : LabelA) (t : DateTime) (n : ℕ) (h : n < 2 ^ 32) (v : valid_a l ≡ true) (e : t ≡ date_time_a l) (d : n ≡ minutes t) where
  counted : to_z w64 n ≡ pos (minutes (date_time_a l))
  counted = to_z_pos w64 {n = n} (omega arith) ∙ ap pos (d ∙ ap minutes e)

  pub standard_counted : eqb (su l) 1 ≡ false → to_z w64 n ≡ instant l
  standard_counted s = counted ∙ sym (instant_standard l v s)

  pub summer_counted : eqb (su l) 1 ≡ true → to_z w64 n -ℤ pos 60 ≡ instant l
  summer_counted s = ap (λ (z : ℤ). z -ℤ pos 60) counted ∙ sym (instant_summer l v s)

-- what a label says in standard time: in summer time, in standard time, not valid
module _ (l : LabelA) (t : DateTime) (e : t ≡ date_time_a l) where
  pub from_summer : valid_a l ≡ true → eqb (su l) 1 ≡ true → hour_earlier t ≡ standard_a l
  unfolding standard_a
  from_summer v s = rw (e, v, s)

  pub from_standard : valid_a l ≡ true → eqb (su l) 1 ≡ false → as_it_stands t ≡ standard_a l
  unfolding standard_a
  from_standard v s = rw (e, v, s)

  pub from_not_valid : valid_a l ≡ false → as_it_stands t ≡ standard_a l
  unfolding standard_a
  from_not_valid v = rw (e, v)

pub record ValidB (l : LabelB) : Type 0 where
  pub second_last : second l ≤ 59
  pub millisecond_last : millisecond l ≤ 999
  pub valid : valid_a l.a ≡ true

pub valid_b_law : (l : LabelB) → valid_b l ≡ true → ValidB l
unfolding valid_b
valid_b_law l e =
    record {
      second_last = leb-true _ _ (holds_at _ e 0);
      millisecond_last = leb-true _ _ (holds_at _ e 1);
      valid = holds_at _ e 2;
    }

-- seconds and milliseconds first, the label a last
pub valid_b_by_tests : (l : LabelB) → ((leb (second l) 59 && leb (millisecond l) 999) && valid_a l.a) ≡ valid_b l
unfolding valid_b holds
valid_b_by_tests l = three (leb (second l) 59) (leb (millisecond l) 999) (valid_a l.a)
  where
    three : (t u v : Bool) → ((t && u) && v) ≡ (t && (u && (v && true)))
    three true u v = rw and-true
    three false u v = refl

-- the instant of a valid label, and none of another
pub moment_some : (a : LabelA) (v : Bool) (minute : ℤ) → v ≡ true → minute ≡ instant a → Some minute ≡ moment_of v a
unfolding moment_of
moment_some a v minute e d = rw (e, d)

pub moment_none : (a : LabelA) (v : Bool) → v ≡ false → None ≡ moment_of v a
unfolding moment_of
moment_none a v e = rw e

pub moment_or_none : (a : LabelA) → unwrap_or (moment_of (valid_a a) a) (pos 0) ≡ instant a
unfolding moment_of instant
moment_or_none a = by_test (valid_a a) refl
  where
    by_test : (t : Bool) → valid_a a ≡ t → unwrap_or (when t then Some (instant a) else None) (pos 0) ≡ instant a
    by_test true e = refl
    by_test false e = sym (instant_not a e)

-- the instant of a label b, whether it is valid or not
pub moment_right : (b : LabelB) (minute : ℤ) → valid_b b ≡ true → minute ≡ instant b.a → ◌≡◌ {A = Result ℤ ℤ} (Ok minute) (moment_b b)
unfolding moment_b
moment_right b minute v e = rw (e, v)

pub moment_wrong : (b : LabelB) (minute : ℤ) → valid_b b ≡ false → minute ≡ instant b.a → ◌≡◌ {A = Result ℤ ℤ} (Err minute) (moment_b b)
unfolding moment_b
moment_wrong b minute v e = rw (e, v)

-- and of a valid one alone
pub moment_valid : (b : LabelB) → result_ok (moment_b b) ≡ moment_of (valid_b b) b.a
unfolding moment_b moment_of
moment_valid b = by_test (valid_b b)
  where
    by_test : (v : Bool) → result_ok (when v then Ok (instant b.a) else Err (instant b.a)) ≡ (when v then Some (instant b.a) else None)
    by_test true = refl
    by_test false = refl

-- and what either says of the label
pub moment_facts : (a : LabelA) (v : Bool) (m : Option ℤ) → m ≡ moment_of v a → MatchOption m (v ≡ false) (λ minute. (v ≡ true) × (minute ≡ instant a))
unfolding moment_of
moment_facts a true m e = rw e (refl, refl)
moment_facts a false m e = rw e refl

-- of any octets, not only of a clock's
pub second_small : (l : LabelB) → second l < 64
unfolding second
second_small l = omega arith

pub millisecond_small : (l : LabelB) → millisecond l < 1024
unfolding millisecond
millisecond_small l = omega arith

-- a signed number that fits, through its bits and back
pub back : (z : ℤ) → mag z < 2 ^ 63 → to_z w64 (of_z w64 z) ≡ z
back z h = to_z-of_z {w = w64} (record { sfits = h })

-- two instants as the machine compares them
pub compared : (l l' : LabelA) (x y : ℤ) → mag x < 2 ^ 63 → mag y < 2 ^ 63 → x ≡ instant l → y ≡ instant l'
    → lt_z (to_z w64 (of_z w64 x)) (to_z w64 (of_z w64 y)) ≡ before_a l l'
unfolding before_a
compared l l' x y f g e d = rw (back x f, back y g, e, d)

-- two pairs compared, the first of each by signed numbers and the second by others, by the three tests that decide
pairs : (less greater second_less second_same : Bool)
    → is_some_and is_lt (partial_ordering_then (Some (cond less Less (cond greater Greater Equal))) (Some (cond second_less Less (cond second_same Equal Greater))))
    ≡ (when less then true else when greater then false else second_less)
pairs true greater second_less second_same = refl
pairs false true second_less second_same = refl
pairs false false true second_same = refl
pairs false false false true = refl
pairs false false false false = refl

-- b's order is that of the pairs of instant and milliseconds, as the machine compares them
pub b_by_pairs : (l l' : LabelB) (x y : ℤ) (m n : ℕ) → mag x < 2 ^ 63 → mag y < 2 ^ 63 → x ≡ instant l.a → y ≡ instant l'.a → m ≡ in_minute l → n ≡ in_minute l'
    → is_some_and is_lt (partial_ordering_then (Some (int_cmp (to_z w64 (of_z w64 x)) (to_z w64 (of_z w64 y)))) (Some (nat_cmp m n))) ≡ before_b l l'
unfolding before_b before_a
b_by_pairs l l' x y m n f g e d i j = rw (back x f, back y g, e, d, i, j) (pairs _ _ _ (eqb (in_minute l) (in_minute l')))

-- the three ways of b's order
module _ (l l' : LabelB) where
  pub b_earlier : before_a l.a l'.a ≡ true → true ≡ before_b l l'
  unfolding before_b
  b_earlier e = rw e

  pub b_later : before_a l.a l'.a ≡ false → before_a l'.a l.a ≡ true → false ≡ before_b l l'
  unfolding before_b
  b_later e d = rw (e, d)

  pub b_same_minute : before_a l.a l'.a ≡ false → before_a l'.a l.a ≡ false → ltb (in_minute l) (in_minute l') ≡ before_b l l'
  unfolding before_b
  b_same_minute e d = rw (e, d)
