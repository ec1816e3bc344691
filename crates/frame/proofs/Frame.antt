-- What the forms of a frame are, as facts instead of tests; and the verdict in each of its cases.
-- Condition by condition, over the family. Assumes nothing.
use Rattle.std.proofs.Common.{◌≡◌, ℕ, suc, ◌+◌, ◌-◌, ◌<◌, ◌≤◌, Bool, true, false, not, eqb, ltb, List, length, get_or, sym, refl, ◌∙◌, arith, ltb-false, ltb-true, le-ltb, lt-ltb, eq-eqb, ne_eqb, eqb-true, le-leb, leb-true}
use mathlib.Core.Bool.{and-true}
use borrow.Author.Tests.{eqb-false}
use Rattle.octets.specs.Choice.{when◌then◌else◌}
use Rattle.octets.specs.Conditions.{holds}
use Rattle.octets.specs.Sum.{checksum}
use Rattle.octets.proofs.Choice.{refuted}
use Rattle.octets.proofs.Conditions.{holds_at, holds_none, holds_more}
use Rattle.frame.specs.declared.Fault.{Fault}
use Rattle.frame.specs.declared.Fault.TheVariants.{Empty, Long, Parity, Malformed, Spoiled}
use Rattle.frame.specs.Family.{Family}
use Rattle.frame.specs.Frame.{Frame, fault_number, Verdict, refused, sound, covered, sum_right, fixed_form, variable_form, start_of, said_fixed, said_variable, said, judge}

-- no fault has the number of a sound frame
pub fault_some : (fault : Fault) → fault_number fault ≡ 0 → ⊥
fault_some Empty e = omega arith
fault_some Long e = omega arith
fault_some Parity e = omega arith
fault_some Malformed e = omega arith
fault_some Spoiled e = omega arith

-- what a family must be like: L counts the control octet and the address, so it is never less than these, and it is an octet
pub record Proper (k : Family) : Type 0 where
  pub counts : suc k.width ≤ k.least
  pub octet : k.least ≤ 255

pub record FixedRun (k : Family) (run : List ℕ) : Type 0 where
  pub long : length run ≡ k.width + 4
  pub first : get_or run 0 0 ≡ 0x10
  pub last : get_or run (length run - 1) 0 ≡ 0x16

pub record VariableRun (k : Family) (run : List ℕ) : Type 0 where
  pub long : length run ≡ get_or run 1 0 + 6
  pub least : k.least ≤ get_or run 1 0
  pub first : get_or run 0 0 ≡ 0x68
  pub again : get_or run 2 0 ≡ get_or run 1 0
  pub fourth : get_or run 3 0 ≡ 0x68
  pub last : get_or run (length run - 1) 0 ≡ 0x16

pub sum_facts : (start : ℕ) (run : List ℕ) → sum_right start run ≡ true → checksum (covered start run) ≡ get_or run (length run - 2) 0
unfolding sum_right
sum_facts start run e = eqb-true _ _ e

module _ (k : Family) (run : List ℕ) where
  pub fixed_facts : fixed_form k run ≡ true → FixedRun k run
  unfolding fixed_form
  fixed_facts e =
      record {
        long = eqb-true _ _ (holds_at _ e 0);
        first = eqb-true _ _ (holds_at _ e 1);
        last = eqb-true _ _ (holds_at _ e 2);
      }

  pub variable_facts : variable_form k run ≡ true → VariableRun k run
  unfolding variable_form
  variable_facts e =
      record {
        long = eqb-true _ _ (holds_at _ e 0);
        least = leb-true _ _ (holds_at _ e 1);
        first = eqb-true _ _ (holds_at _ e 2);
        again = eqb-true _ _ (holds_at _ e 3);
        fourth = eqb-true _ _ (holds_at _ e 4);
        last = eqb-true _ _ (holds_at _ e 5);
      }

  -- and the other way
  pub fixed_test : FixedRun k run → fixed_form k run ≡ true
  unfolding fixed_form
  fixed_test r = holds_more _ (eq-eqb _ _ r.long) (holds_more _ (eq-eqb _ _ r.first) (holds_more _ (eq-eqb _ _ r.last) holds_none))

  pub variable_test : VariableRun k run → variable_form k run ≡ true
  unfolding variable_form
  variable_test r =
      holds_more _ (eq-eqb _ _ r.long)
      (holds_more _ (le-leb _ _ r.least)
      (holds_more _ (eq-eqb _ _ r.first)
      (holds_more _ (eq-eqb _ _ r.again) (holds_more _ (eq-eqb _ _ r.fourth) (holds_more _ (eq-eqb _ _ r.last) holds_none)))))

  -- no run has both forms: they start with other octets
  pub not_fixed : VariableRun k run → fixed_form k run ≡ false
  not_fixed r = sym (refuted _ (λ e. let f = fixed_facts e in omega (arith, f.first, r.first)))

  -- where all but the end octet is as it must be, the end octet decides
  pub fixed_but_end : (n : ℕ) → n ≡ length run - 1 → length run ≡ k.width + 4 → get_or run 0 0 ≡ 0x10 → eqb (get_or run n 0) 0x16 ≡ fixed_form k run
  unfolding fixed_form holds
  fixed_but_end n e long first = simp (e, eq-eqb _ _ long, eq-eqb _ _ first, and-true)

  pub variable_but_end : (n : ℕ) → n ≡ length run - 1 → length run ≡ get_or run 1 0 + 6 → k.least ≤ get_or run 1 0 → get_or run 0 0 ≡ 0x68
      → get_or run 2 0 ≡ get_or run 1 0 → get_or run 3 0 ≡ 0x68 → eqb (get_or run n 0) 0x16 ≡ variable_form k run
  unfolding variable_form holds
  variable_but_end n e long least first again fourth =
      simp (e, eq-eqb _ _ long, le-leb _ _ least, eq-eqb _ _ first, eq-eqb _ _ again, eq-eqb _ _ fourth, and-true)

  -- the verdicts
  pub judge_empty : length run ≡ 0 → judge k run ≡ refused Empty
  unfolding judge
  judge_empty e = rw (eq-eqb _ _ e)

  pub judge_long : 261 < length run → judge k run ≡ refused Long
  unfolding judge
  judge_long h = rw (ne_eqb (length run) 0 (λ e. omega arith), lt-ltb _ _ h)

  module _ (some : length run ≡ 0 → ⊥) (short : length run ≤ 261) where
    pub judge_malformed : fixed_form k run ≡ false → variable_form k run ≡ false → judge k run ≡ refused Malformed
    unfolding judge
    judge_malformed f v = rw (ne_eqb _ _ some, le-ltb _ _ short, f, v)

    -- the sum decides, in either form
    by_sum : (right : Bool) (x y : Verdict) → (when not right then y else x) ≡ (when right then x else y)
    by_sum true x y = refl
    by_sum false x y = refl

    pub judge_fixed : fixed_form k run ≡ true → judge k run ≡ (when sum_right 1 run then sound (said_fixed k (covered 1 run)) else refused Spoiled)
    unfolding judge start_of said
    judge_fixed f = rw (ne_eqb _ _ some, le-ltb _ _ short, f) (by_sum (sum_right 1 run) _ _)

    pub judge_variable : fixed_form k run ≡ false → variable_form k run ≡ true
        → judge k run ≡ (when sum_right 4 run then sound (said_variable k (covered 4 run)) else refused Spoiled)
    unfolding judge start_of said
    judge_variable f v = rw (ne_eqb _ _ some, le-ltb _ _ short, f, v) (by_sum (sum_right 4 run) _ _)

-- a sound run is of one form, with its sum right, and says what stands in it
pub data Sound (k : Family) (run : List ℕ) (f : Frame) : Type 0 where
  as_fixed : FixedRun k run → sum_right 1 run ≡ true → f ≡ said_fixed k (covered 1 run) → Sound k run f
  as_variable : VariableRun k run → sum_right 4 run ≡ true → f ≡ said_variable k (covered 4 run) → Sound k run f

pub never : {why : Fault} {f : Frame} → refused why ≡ sound f → ⊥
never e = let z : ◌≡◌ {A = ℕ} 0 1 = cc in omega arith

picked : (t : Bool) (x f : Frame) → (when t then sound x else refused Spoiled) ≡ sound f → (t ≡ true) × (f ≡ x)
picked true x f e = (refl, cc)
picked false x f e = absurd (never e)

module _ (k : Family) (run : List ℕ) (f : Frame) where
  pub sound_facts : judge k run ≡ sound f → Sound k run f
  sound_facts e = by_length (eqb (length run) 0) (ltb 261 (length run)) refl refl
    where
      by_form : (length run ≡ 0 → ⊥) → length run ≤ 261 → (t u : Bool) → fixed_form k run ≡ t → variable_form k run ≡ u → Sound k run f
      by_form some short true u ef ev =
          let p = picked (sum_right 1 run) _ f (sym (judge_fixed k run some short ef) ∙ e) in
          as_fixed (fixed_facts k run ef) p.0 p.1
      by_form some short false true ef ev =
          let p = picked (sum_right 4 run) _ f (sym (judge_variable k run some short ef ev) ∙ e) in
          as_variable (variable_facts k run ev) p.0 p.1
      by_form some short false false ef ev = absurd (never (sym (judge_malformed k run some short ef ev) ∙ e))

      by_length : (t u : Bool) → eqb (length run) 0 ≡ t → ltb 261 (length run) ≡ u → Sound k run f
      by_length true u a b = absurd (never (sym (judge_empty k run (eqb-true _ _ a)) ∙ e))
      by_length false true a b = absurd (never (sym (judge_long k run (ltb-true _ _ b)) ∙ e))
      by_length false false a b = by_form (eqb-false _ _ a) (ltb-false _ _ b) (fixed_form k run) (variable_form k run) refl refl
