-- The rules by keys are the rules by records; and the walk's test from a place on, as a walk comes to it.
-- By the kind of a record, and by recursion on the records. Assumes nothing.
use Prim.Native.Nat.{ℕ, ◌+◌, ◌<◌}
use mathlib.Core.Bool.{Bool, true, false, not, ◌&&◌, and-false}
use mathlib.Core.List.{List, [], ◌∷◌, ◌++◌, flatten}
use mathlib.Core.Path.{◌≡◌, refl, ap, sym, ◌∙◌}
use native.Mathlib.Omega.{arith}
use borrow.Author.Tests.{eqb-true, not-false, ne_eqb, lt-ltb}
use lib.Dec.{ltb, leb, eqb}
use lib.ListN.{length, length-append}
use Rattle.octets.specs.Choice.{when◌then◌else◌}
use Rattle.octets.specs.Numbers.{low_first}
use Rattle.octets.proofs.Choice.{if_both}
use Rattle.octets.proofs.Conditions.{and_left}
use Rattle.label.specs.declared.LabelA.{LabelA}
use Rattle.label.specs.Label.{valid_a, valid_b, before_a, before_b, in_minute, second, millisecond}
use Rattle.records.specs.Records.{kind_of, is_whole, whole_at, record_at, records_from, place_after}
use Rattle.records.specs.Said.{every, linked}
use Rattle.records.proofs.Records.{whole_facts, some_kind, from_end, from_more, after_whole, kind_whole, kind_there}
use Rattle.records.proofs.Places.{lie, each_whole}
use Rattle.fields.specs.declared.Key.{Key}
use Rattle.fields.specs.Parts.{point_of, reading_label}
use Rattle.fields.specs.working.Key.{at_minute, no_label, key, key_of}
use Rattle.fields.specs.Answers.{records_of, points_of, dates_at}
use Rattle.fields.proofs.Parts.{key_kind, key_2, key_4, key_5}
use Rattle.image.specs.Image.{reading_record, event_record, right, by_point, reading_before, event_before, in_order}
use Rattle.image.specs.working.Keys.{valid_dates, by_key, key_before, keys_in_order, known_in, orderly, fits, chain, left}

-- a record by itself, by its key
module _ (r : List ℕ) (k : Key) (e : k ≡ key_of r) where
  pub same_kind : k.kind ≡ kind_of r
  same_kind = ap (λ (l : Key). l.kind) e ∙ key_kind r

  pub right_2 : k.kind ≡ 2 → leb 1 k.point.0 ≡ right r
  unfolding right
  right_2 h = let n : kind_of r ≡ 2 = sym same_kind ∙ h in rw (e, key_2 r n, n)

  pub right_4 : k.kind ≡ 4 → (reading_record k.record_address && valid_a k.label.a) ≡ right r
  unfolding right
  right_4 h = let n : kind_of r ≡ 4 = sym same_kind ∙ h in rw (e, key_4 r n, n)

  pub right_5 : k.kind ≡ 5 → (event_record k.record_address && valid_b k.label) ≡ right r
  unfolding right
  right_5 h = let n : kind_of r ≡ 5 = sym same_kind ∙ h in rw (e, key_5 r n, n)

  pub right_other : (k.kind ≡ 2 → ⊥) → (k.kind ≡ 3 → ⊥) → (k.kind ≡ 4 → ⊥) → (k.kind ≡ 5 → ⊥) → true ≡ right r
  unfolding right
  right_other n₂ n₃ n₄ n₅ =
      rw (
        ne_eqb (kind_of r) 2 (λ h. n₂ (same_kind ∙ h)),
        ne_eqb (kind_of r) 3 (λ h. n₃ (same_kind ∙ h)),
        ne_eqb (kind_of r) 4 (λ h. n₄ (same_kind ∙ h)),
        ne_eqb (kind_of r) 5 (λ h. n₅ (same_kind ∙ h)),
      )

-- kind 3 by the dates that stand there
pub right_3 : (s : List ℕ) (at : ℕ) → whole_at s at ≡ true → kind_of (record_at s at) ≡ 3 → valid_dates (dates_at s at) ≡ right (record_at s at)
unfolding right dates_at valid_dates
right_3 s at e n = rw (kind_whole s at e ∙ sym (kind_there s at e) ∙ n, n)

-- labels a compared as labels b at the start of their minutes
pub minutes_only : (l l' : LabelA) → before_b (at_minute l) (at_minute l') ≡ before_a l l'
unfolding before_b in_minute second millisecond low_first
minutes_only l l' = by_tests (before_a l l') (before_a l' l)
  where
    by_tests : (t u : Bool) → (when t then true else when u then false else false) ≡ t
    by_tests true u = refl
    by_tests false true = refl
    by_tests false false = refl

-- neighbours, by their keys
module _ (r q : List ℕ) where
  reading_keys : kind_of r ≡ 4 → kind_of q ≡ 4 → reading_before r q ≡ key_before (key_of r) (key_of q)
  unfolding reading_before by_point key_before by_key
  reading_keys k l = rw (key_4 r k, key_4 q l, minutes_only (reading_label r) (reading_label q))

  event_keys : kind_of r ≡ 5 → kind_of q ≡ 5 → event_before q r ≡ key_before (key_of q) (key_of r)
  unfolding event_before by_point key_before by_key
  event_keys k l = rw (key_5 r k, key_5 q l)

  point_keys : kind_of r ≡ 2 → kind_of q ≡ 2 → ltb (point_of r) (point_of q) ≡ ltb (key_of r).point.0 (key_of q).point.0
  point_keys k l = rw (key_2 r k, key_2 q l)

  by_kinds : (k l : ℕ) → k ≡ kind_of r → l ≡ kind_of q
      → in_order r q
      ≡ (when not (eqb k l) then ltb k l else
      when eqb k 2 then ltb (key_of r).point.0 (key_of q).point.0 else
      when eqb k 4 then key_before (key_of r) (key_of q) else
      when eqb k 5 then not (key_before (key_of q) (key_of r)) else
      false)
  unfolding in_order
  by_kinds k l e f =
      rw (e, f)
      (if_both (λ (t u : Bool). t ≡ u) (not (eqb (kind_of r) (kind_of q))) (λ g. refl) (λ g.
      let same : kind_of r ≡ kind_of q = eqb-true _ _ (not-false _ g) in
      if_both (λ (t u : Bool). t ≡ u) (eqb (kind_of r) 2) (λ h. point_keys (eqb-true _ _ h) (sym same ∙ eqb-true _ _ h)) (λ h.
      if_both (λ (t u : Bool). t ≡ u) (eqb (kind_of r) 4) (λ h. reading_keys (eqb-true _ _ h) (sym same ∙ eqb-true _ _ h)) (λ h.
      if_both (λ (t u : Bool). t ≡ u) (eqb (kind_of r) 5) (λ h. ap not (event_keys (eqb-true _ _ h) (sym same ∙ eqb-true _ _ h))) (λ h. refl)))))

  pub order_keys : in_order r q ≡ keys_in_order (key_of r) (key_of q)
  unfolding keys_in_order
  order_keys = by_kinds (key_of r).kind (key_of q).kind (key_kind r) (key_kind q)

-- each stands to the one before it as the keys say; the first stands behind a key
follows : Key → List (List ℕ) → Bool
follows k [] = true
follows k (r ∷ rs) = keys_in_order k (key_of r) && follows (key_of r) rs

linked_follows : (r : List ℕ) (rs : List (List ℕ)) → linked in_order (r ∷ rs) ≡ follows (key_of r) rs
unfolding linked follows
linked_follows r [] = refl
linked_follows r (q ∷ rs) = rw (order_keys r q, linked_follows q rs)

-- the walk's three conditions one by one
chain_parts : (points : List (List ℕ)) (k : Key) (rs : List (List ℕ))
    → chain points k rs ≡ (every right rs && (follows k rs && every (known_in points) rs))
unfolding chain fits follows every
chain_parts points k [] = refl
chain_parts points k (r ∷ rs) =
    rw (chain_parts points (key_of r) rs)
    (sorted (right r) (keys_in_order k (key_of r)) (known_in points r) (every right rs) (follows (key_of r) rs) (every (known_in points) rs))
  where
    sorted : (a b c x y z : Bool) → ((a && (b && c)) && (x && (y && z))) ≡ ((a && x) && ((b && y) && (c && z)))
    sorted false b c x y z = refl
    sorted true false c x y z = sym (and-false x)
    sorted true true false x false z = sym (and-false x)
    sorted true true false x true z = sym (and-false x)
    sorted true true true x y z = refl

-- what is left of the walk's test from a place on, behind a key
module _ (s : List ℕ) (at : ℕ) (k : Key) where
  pub left_end : whole_at s at ≡ false → eqb at (length s) ≡ left s at k
  unfolding left chain flatten
  left_end e = let z : at + 0 ≡ at = omega arith in sym (rw (from_end s at e, z))

  left_more : whole_at s at ≡ true
      → left s at k
      ≡ ((fits (points_of s) k (record_at s at) && chain (points_of s) (key_of (record_at s at)) (records_from s (place_after s at)))
      && eqb (place_after s at + length (flatten (records_from s (place_after s at)))) (length s))
  unfolding left chain flatten
  left_more e =
      let rs = records_from s (place_after s at) in
      let reach : at + length (record_at s at ++ flatten rs) ≡ place_after s at + length (flatten rs) =
      omega (arith, length-append (record_at s at) (flatten rs), after_whole s at e) in
      rw (from_more s at e, reach)

  pub left_step : whole_at s at ≡ true → fits (points_of s) k (record_at s at) ≡ true → left s (place_after s at) (key_of (record_at s at)) ≡ left s at k
  unfolding left
  left_step e p = sym (left_more e ∙ rw p)

  pub left_stop : whole_at s at ≡ true → fits (points_of s) k (record_at s at) ≡ false → false ≡ left s at k
  left_stop e p = sym (left_more e ∙ rw p)

-- every record may stand behind the key before all
behind_none : (l : Key) → 0 < l.kind → keys_in_order (key 0 0 0 no_label) l ≡ true
unfolding keys_in_order
behind_none l h = rw (ne_eqb 0 l.kind (λ e. omega arith), lt-ltb 0 l.kind h)

first_free : (rs : List (List ℕ)) → every is_whole rs ≡ true → follows (key 0 0 0 no_label) rs ≡ linked in_order rs
unfolding every follows linked
first_free [] w = refl
first_free (r ∷ rs) w =
    let some : 0 < kind_of r = some_kind (kind_of r) (whole_facts r (and_left (is_whole r) (every is_whole rs) w)).some in
    rw (behind_none (key_of r) (rw (key_kind r) some)) (sym (linked_follows r rs))

pub left_all : (s : List ℕ) → left s 1 (key 0 0 0 no_label) ≡ orderly s
unfolding left orderly records_of
left_all s =
    let rs = records_from s 1 in
    rw (chain_parts (points_of s) (key 0 0 0 no_label) rs, first_free rs (each_whole (lie s 1)))
    (regrouped (every right rs) (linked in_order rs) (every (known_in (points_of s)) rs) _)
  where
    regrouped : (a b c d : Bool) → ((a && (b && c)) && d) ≡ (a && (b && (c && d)))
    regrouped false b c d = refl
    regrouped true false c d = refl
    regrouped true true c d = refl
