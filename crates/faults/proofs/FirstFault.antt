-- What an image's fault says: the record that is named breaks the rule that is named, given those before it, and it is the first rule of its list that
-- it breaks; no record before it breaks any. A fault of the whole image, and that there is none, are what they say.
-- By the walk over the records. Assumes nothing.
use Rattle.std.specs.Prelude.{Option, Some, None, is_some}
use Prim.Native.Nat.{ℕ, ◌+◌, ◌≤◌, ◌<◌}
use mathlib.Core.Bool.{Bool, true, false, not, false≢true}
use mathlib.Core.List.{List, [], ◌∷◌, ◌++◌, flatten, append_assoc, append-nil}
use mathlib.Core.Path.{◌≡◌, refl, sym, ◌∙◌}
use native.Mathlib.Omega.{arith}
use borrow.Author.Tests.{eqb-true, eqb-false, ltb-true, ltb-false, not-true}
use lib.Dec.{ltb, eqb}
use lib.ListN.{length, get_or, take, drop, length-append, get_or-append}
use lib.Seq.{take-append-le, take_at}
use Rattle.octets.specs.First.{first_of◌else◌}
use Rattle.octets.proofs.Choice.{either}
use Rattle.octets.proofs.First.{Gives, first_gives}
use Rattle.records.specs.Said.{how_many}
use Rattle.fields.specs.Parts.{is_kind}
use Rattle.fields.specs.Answers.{records_of}
use Rattle.faults.specs.declared.ImageRule.{ImageRule}
use Rattle.faults.specs.declared.ImageRule.TheVariants.{TooLong, Version, NoRecord, NoPoint}
use Rattle.faults.specs.declared.ImageFault.{ImageFault}
use Rattle.faults.specs.Images.{of_whole, behind, record_rules, record_rule, broken_rule, end_faults, faults_behind, fault_from, image_fault}
use Rattle.faults.proofs.Named.{Comes, quiet, loud, comes, passes, named_first}

-- no record of these breaks a rule, given those before it
abbrev pub NoneBroken : List (List ℕ) → Type 0
NoneBroken rs = (n : ℕ) → n < length rs → record_rule (take n rs) (get_or rs n []) ≡ None

-- a record breaks a rule: a test of its list holds, and what is named is what the first that does gives
pub record Breaks (before : List (List ℕ)) (r : List ℕ) (rule : ImageRule) : Type 0 where
  pub first_broken : Gives None (record_rules before r) (Some rule)

-- what is left behind the last whole record
abbrev pub left_of : List ℕ → List ℕ
left_of image = drop (1 + length (flatten (records_of image))) image

pub data Says (image : List ℕ) : Option ImageFault → Type 0 where
  too_long : 65535 < length image → Says image (of_whole TooLong)
  other_version : length image ≤ 65535 → (get_or image 0 0 ≡ 1 → ⊥) → Says image (of_whole Version)
  at_record : (before : List (List ℕ)) (r : List ℕ) (rs : List (List ℕ)) (rule : ImageRule) → records_of image ≡ before ++ (r ∷ rs) → NoneBroken before
      → Breaks before r rule → Says image (behind before (Some rule))
  at_end : NoneBroken (records_of image) → 0 < length (left_of image) → Says image (behind (records_of image) (Some (broken_rule (left_of image))))
  no_record : length (left_of image) ≡ 0 → length (records_of image) ≡ 0 → Says image (of_whole NoRecord)
  no_point : NoneBroken (records_of image) → length (left_of image) ≡ 0 → how_many (is_kind 2) (records_of image) ≡ 0 → Says image (of_whole NoPoint)
  none : NoneBroken (records_of image) → length (left_of image) ≡ 0 → Says image (None)

last_one : (rs : List (List ℕ)) (r : List ℕ) → get_or (rs ++ (r ∷ [])) (length rs) [] ≡ r
last_one [] r = refl
last_one (q ∷ rs) r = last_one rs r

-- one record more breaks none
one_more_unbroken : (rs : List (List ℕ)) (r : List ℕ) → NoneBroken rs → record_rule rs r ≡ None → NoneBroken (rs ++ (r ∷ []))
one_more_unbroken rs r all e n h = by_test (ltb n (length rs)) refl
  where
    by_test : (t : Bool) → ltb n (length rs) ≡ t → record_rule (take n (rs ++ (r ∷ []))) (get_or (rs ++ (r ∷ [])) n []) ≡ None
    by_test true l =
        let m = ltb-true n (length rs) l in
        rw (take-append-le n rs (r ∷ []) (omega arith), get_or-append rs (r ∷ []) [] n m) (all n m)
    by_test false l =
        let last : n ≡ length rs = omega (arith, ltb-false n (length rs) l, length-append rs (r ∷ [])) in
        rw (last, take_at rs (r ∷ [])) (rw (last_one rs r) e)

module _ (image : List ℕ) where
  ends : NoneBroken (records_of image) → Says image (first_of end_faults image (records_of image) else None)
  ends all =
      either (Says image) (ltb 0 (length (left_of image))) (λ t. at_end all (ltb-true 0 (length (left_of image)) t)) (λ t.
      let empty : length (left_of image) ≡ 0 = omega (arith, ltb-false 0 (length (left_of image)) t) in
      either (Says image) (eqb (length (records_of image)) 0) (λ u. no_record empty (eqb-true (length (records_of image)) 0 u)) (λ u.
      either (Says image) (eqb (how_many (is_kind 2) (records_of image)) 0) (λ v. no_point all empty (eqb-true (how_many (is_kind 2) (records_of image)) 0 v)) (λ v.
      none all empty)))

  goes_on : (before rs : List (List ℕ)) → records_of image ≡ before ++ rs → NoneBroken before → Says image (fault_from image before rs)
  unfolding fault_from
  goes_on before [] e all = let same : records_of image ≡ before = e ∙ append-nil before in rw (← same) (ends (rw same all))
  goes_on before (r ∷ rs) e all =
      by_way (goes_on (before ++ (r ∷ [])) rs (e ∙ sym (append_assoc before (r ∷ []) rs))) (comes is_some (record_rules before r) None refl)
    where
      broken : (rule : Option ImageRule) → Gives None (record_rules before r) rule → is_some rule ≡ true → Says image (behind before rule)
      broken (Some rule) first n = at_record before r rs rule e all (record { first_broken = first })
      broken None first n = absurd (false≢true n)

      by_way : (NoneBroken (before ++ (r ∷ [])) → Says image (fault_from image (before ++ (r ∷ [])) rs))
          → Comes is_some (record_rules before r) None
          → Says image (first_of faults_behind before (record_rules before r) else fault_from image (before ++ (r ∷ [])) rs)
      by_way rest (quiet fails) =
          rw (passes (faults_behind before (record_rules before r)) (fault_from image (before ++ (r ∷ [])) rs) fails)
          (rest (one_more_unbroken before r all (unfold record_rule in passes (record_rules before r) None fails)))
      by_way rest (loud named) =
          rw (named_first is_some (behind before) (record_rules before r) None (fault_from image (before ++ (r ∷ [])) rs) refl named)
          (broken (first_of record_rules before r else None) (first_gives (record_rules before r) None) named)

  pub says : Says image (image_fault image)
  unfolding image_fault
  says =
      either (Says image) (ltb 65535 (length image)) (λ t. too_long (ltb-true 65535 (length image) t)) (λ t.
      either (Says image) (not (eqb (get_or image 0 0) 1)) (λ u. other_version (ltb-false 65535 (length image) t) (eqb-false (get_or image 0 0) 1 (not-true _ u))) (λ u.
      goes_on [] (records_of image) refl (λ n h. absurd (omega arith))))
