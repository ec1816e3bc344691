-- A label has a fault exactly when it is not valid, and the fault named is the first.
-- The tests are those of a valid label, the other way round and in another order. Assumes nothing.
use Rattle.std.specs.Prelude.{Option, None, is_some}
use Prim.Native.Nat.{ℕ}
use mathlib.Core.Bool.{true, ◌&&◌}
use mathlib.Core.List.{List, ◌++◌}
use mathlib.Core.Path.{◌≡◌, refl, ap, ◌∙◌}
use borrow.Author.Tests.{eq-eqb, le-leb}
use lib.Dec.{leb}
use Rattle.octets.specs.Conditions.{holds}
use Rattle.octets.specs.First.{When}
use Rattle.octets.proofs.Conditions.{and_left, and_right, holds_at, holds_more, holds_none}
use Rattle.octets.proofs.First.{Gives, first_gives}
use Rattle.label.specs.declared.LabelA.{LabelA}
use Rattle.label.specs.declared.LabelB.{LabelB}
use Rattle.label.specs.Calendar.{leap, month_length}
use Rattle.label.specs.Time.{real}
use Rattle.label.specs.Label.{date_time_a, valid_a, valid_b}
use Rattle.label.proofs.Label.{valid_a_law, valid_b_law}
use Rattle.label.proofs.Time.{real_facts}
use Rattle.faults.specs.declared.LabelFault.{LabelFault}
use Rattle.faults.specs.Labels.{flag_faults, time_faults, time_fault, label_fault_a, clock_faults, label_fault_b}
use Rattle.faults.proofs.Named.{unrefused, refused_not, both, holds_later, fails, passes, passed}

-- all the tests of a label, one after the other
abbrev pub faults_a : LabelA → List (When (Option LabelFault))
faults_a l = flag_faults l ++ time_faults (date_time_a l)

abbrev pub faults_b : LabelB → List (When (Option LabelFault))
faults_b l = clock_faults l ++ faults_a l.a

module _ (l : LabelA) where
  -- the first part that is wrong is named
  pub first_a : Gives None (faults_a l) (label_fault_a l)
  unfolding label_fault_a time_fault
  first_a = first_gives (faults_a l) None

  clear_valid : holds (fails (faults_a l)) ≡ true → valid_a l ≡ true
  unfolding valid_a real
  clear_valid h =
      let at : (i : ℕ) → _ = holds_at (fails (faults_a l)) h in
      let t = date_time_a l in
      let length = month_length (leap t.year) t.month in
      let month : (leb 1 t.month && leb t.month 12) ≡ true = unrefused _ (at 6) in
      let day : (leb 1 t.day && leb t.day length) ≡ true = unrefused _ (at 7) in
      holds_more _
      (holds_more _ (unrefused _ (at 5))
      (holds_more _ (and_left (leb 1 t.month) (leb t.month 12) month)
      (holds_more _ (and_right (leb 1 t.month) (leb t.month 12) month)
      (holds_more _ (and_left (leb 1 t.day) (leb t.day length) day)
      (holds_more _ (and_right (leb 1 t.day) (leb t.day length) day)
      (holds_more _ (unrefused _ (at 8)) (holds_more _ (unrefused _ (at 9)) holds_none)))))))
      (holds_more _ (unrefused _ (at 0))
      (holds_more _ (unrefused _ (at 1))
      (holds_more _ (unrefused _ (at 3)) (holds_more _ (unrefused _ (at 2)) (holds_more _ (unrefused _ (at 4)) holds_none)))))

  valid_clear : valid_a l ≡ true → holds (fails (faults_a l)) ≡ true
  valid_clear e =
      let v = valid_a_law l e in
      let t = real_facts (date_time_a l) v.real_time in
      holds_more _ (refused_not (eq-eqb _ _ v.no_iv))
      (holds_more _ (refused_not (eq-eqb _ _ v.no_tis))
      (holds_more _ (refused_not (eq-eqb _ _ v.no_hour_reserved))
      (holds_more _ (refused_not (eq-eqb _ _ v.no_eti_pti))
      (holds_more _ (refused_not (eq-eqb _ _ v.no_year_reserved))
      (holds_more _ (refused_not (le-leb _ _ t.year))
      (holds_more _ (refused_not (both (le-leb _ _ t.month_first) (le-leb _ _ t.month_last)))
      (holds_more _ (refused_not (both (le-leb _ _ t.day_first) (le-leb _ _ t.day_last)))
      (holds_more _ (refused_not (le-leb _ _ t.hour)) (holds_more _ (refused_not (le-leb _ _ t.minute)) holds_none)))))))))

  -- a fault is named exactly when the label is not valid
  pub valid_no_fault_a : valid_a l ≡ true → label_fault_a l ≡ None
  unfolding label_fault_a time_fault
  valid_no_fault_a e = passes (faults_a l) None (valid_clear e)

  pub no_fault_valid_a : label_fault_a l ≡ None → valid_a l ≡ true
  unfolding label_fault_a time_fault
  no_fault_valid_a e = clear_valid (passed is_some (faults_a l) None refl (ap is_some e))

module _ (l : LabelB) where
  pub first_b : Gives None (faults_b l) (label_fault_b l)
  unfolding label_fault_b label_fault_a time_fault
  first_b = first_gives (faults_b l) None

  pub valid_no_fault_b : valid_b l ≡ true → label_fault_b l ≡ None
  unfolding label_fault_b
  valid_no_fault_b e =
      let v = valid_b_law l e in
      passes (clock_faults l) (label_fault_a l.a)
      (holds_more _ (refused_not (le-leb _ _ v.second_last)) (holds_more _ (refused_not (le-leb _ _ v.millisecond_last)) holds_none))
      ∙ valid_no_fault_a l.a v.valid

  pub no_fault_valid_b : label_fault_b l ≡ None → valid_b l ≡ true
  unfolding label_fault_b label_fault_a time_fault valid_b
  no_fault_valid_b e =
      let h = passed is_some (faults_b l) None refl (ap is_some e) in
      let at : (i : ℕ) → _ = holds_at (fails (faults_b l)) h in
      holds_more _ (unrefused _ (at 0))
      (holds_more _ (unrefused _ (at 1)) (holds_more _ (clear_valid l.a (holds_later _ _ (holds_later _ _ h))) holds_none))
