-- The points of an orderly image: all records of kind 2 stand behind the first record, one after the other; so a point is known
-- exactly when it is found there, and how many points there are is counted there. Kinds rise. Assumes nothing.
use Rattle.std.specs.Prelude.{is_some, Option}
use Prim.Native.Nat.{ℕ, suc, ◌+◌, ◌≤◌, ◌<◌}
use mathlib.Core.Bool.{Bool, true, false}
use mathlib.Core.List.{List, [], ◌∷◌}
use mathlib.Core.Path.{◌≡◌, refl, ap, sym, ◌∙◌}
use native.Mathlib.Omega.{arith}
use borrow.Author.Tests.{eqb-true, eqb-false, ltb-true, leb-true, ne_eqb, lt-ltb, le-leb, lt-leb}
use lib.Dec.{ltb, leb, eqb}
use lib.ListN.{length}
use Rattle.octets.specs.Choice.{when◌then◌else◌}
use Rattle.octets.proofs.Choice.{either, if_both, refuted}
use Rattle.octets.proofs.Conditions.{and_left, and_right}
use Rattle.records.specs.Records.{kind_of, whole_at, record_at, records_from, kind_at, place_after}
use Rattle.records.specs.Said.{every, linked, keep, how_many}
use Rattle.records.proofs.Records.{Whole, whole_facts, whole_itself, some_kind, last_kind, from_end, from_more, OfKind, kind_facts, not_kind}
use Rattle.records.proofs.Said.{every_so, every_same, keep_none}
use Rattle.fields.specs.declared.Key.{Key}
use Rattle.fields.specs.Parts.{point_of, is_kind, is_point}
use Rattle.fields.specs.working.Key.{key_of}
use Rattle.fields.specs.Answers.{records_of, leading, points_from, points_of, point_in, point_found}
use Rattle.fields.proofs.Parts.{key_kind, key_4, key_5}
use Rattle.image.specs.Image.{in_order, knows}
use Rattle.image.specs.working.Keys.{known_in, key_known}
use Rattle.image.proofs.Order.{order_kinds, order_once, linked_tail, before_rest}
use Rattle.fields.specs.declared.Point.{Point}

-- a reading or an event has its point in its key
named : (r : List ℕ) → Whole r → 4 ≤ kind_of r → (key_of r).point.0 ≡ point_of r
named r w h = by_test (eqb (kind_of r) 4) refl
  where
    by_test : (t : Bool) → eqb (kind_of r) 4 ≡ t → (key_of r).point.0 ≡ point_of r
    by_test true e = ap (λ (l : Key). l.point.0) (key_4 r (eqb-true (kind_of r) 4 e))
    by_test false e =
        let other : kind_of r ≡ 4 → ⊥ = eqb-false (kind_of r) 4 e in
        ap (λ (l : Key). l.point.0) (key_5 r (omega (arith, last_kind (kind_of r) w.some)))

pub known_keys : (points : List (List ℕ)) (r : List ℕ) → Whole r → key_known points (key_of r) ≡ known_in points r
unfolding key_known known_in
known_keys points r w =
    rw (key_kind r)
    (if_both (λ (t u : Bool). t ≡ u) (leb 4 (kind_of r)) (λ h. rw (named r w (leb-true 4 (kind_of r) h))) (λ h. refl))

-- a record of kinds 1 to 3 names no point
pub known_low : (points : List (List ℕ)) (k : Key) → k.kind < 4 → true ≡ key_known points k
unfolding key_known
known_low points k h = sym (rw (lt-leb 4 k.kind h))

pub known_high : (s : List ℕ) (k : Key) → 4 ≤ k.kind → (found : Option Point) → found ≡ point_found k.point s → is_some found ≡ key_known (points_of s) k
unfolding key_known point_found
known_high s k h found g = rw (le-leb 4 k.kind h, g)

-- the points among records of kinds from 2 on, in order: those in front
module _ (f : List ℕ → Bool) (point_only : (r : List ℕ) → f r ≡ true → kind_of r ≡ 2) where
  late : (r : List ℕ) → leb 3 (kind_of r) ≡ true → f r ≡ false
  late r e = by_test (f r) refl
    where
      by_test : (t : Bool) → f r ≡ t → f r ≡ false
      by_test true p = absurd (omega (arith, point_only r p, leb-true 3 (kind_of r) e))
      by_test false p = p

  pub keep_front : (rs : List (List ℕ)) → every (λ q. leb 2 (kind_of q)) rs ≡ true → linked in_order rs ≡ true → keep f (leading (is_kind 2) rs) ≡ keep f rs
  unfolding keep leading every
  keep_front [] g l = refl
  keep_front (r ∷ rs) g l =
      by_test (keep_front rs (and_right (leb 2 (kind_of r)) _ g) (linked_tail in_order r rs l)) (eqb (kind_of r) 2) refl
    where
      by_test : keep f (leading (is_kind 2) rs) ≡ keep f rs
          → (t : Bool) → eqb (kind_of r) 2 ≡ t → keep f (when t then r ∷ leading (is_kind 2) rs else []) ≡ keep f (r ∷ rs)
      by_test rest true e = if_both (λ (x y : List (List ℕ)). x ≡ y) (f r) (λ p. ap (r ∷◌) rest) (λ p. rest)
      by_test rest false e =
          let other : kind_of r ≡ 2 → ⊥ = eqb-false (kind_of r) 2 e in
          let third : 3 ≤ kind_of r = omega (arith, leb-true 2 (kind_of r) (and_left (leb 2 (kind_of r)) (every (λ q. leb 2 (kind_of q)) rs) g)) in
          let behind : every (λ q. leb 3 (kind_of q)) rs ≡ true =
          every_so (in_order r) (λ q. leb 3 (kind_of q)) (λ q o. le-leb 3 (kind_of q) (omega (arith, order_kinds r q o))) rs (before_rest r rs l) in
          sym (keep_none f (λ q. leb 3 (kind_of q)) late (r ∷ rs) (rw (le-leb 3 (kind_of r) third) behind))

keep_leading : (f : List ℕ → Bool) (rs : List (List ℕ)) → keep f (leading f rs) ≡ leading f rs
unfolding keep leading
keep_leading f [] = refl
keep_leading f (r ∷ rs) = by_test (keep_leading f rs) (f r) refl
  where
    by_test : keep f (leading f rs) ≡ leading f rs → (t : Bool) → f r ≡ t → keep f (when t then r ∷ leading f rs else []) ≡ (when t then r ∷ leading f rs else [])
    by_test rest true e = rw e (ap (r ∷◌) rest)
    by_test rest false e = refl

-- a point is found among leading points exactly when there is one
pub found_point : (a n : ℕ) (rs : List (List ℕ)) → is_some (point_in a n (leading (is_kind 2) rs)) ≡ ltb 0 (how_many (is_point a) (leading (is_kind 2) rs))
unfolding point_in leading how_many keep
found_point a n [] = refl
found_point a n (r ∷ rs) = by_tests (found_point a (n + 1) rs) (eqb (kind_of r) 2) (eqb (point_of r) a) refl refl
  where
    ps : List (List ℕ)
    ps = leading (is_kind 2) rs

    by_tests : is_some (point_in a (n + 1) ps) ≡ ltb 0 (length (keep (is_point a) ps))
        → (t u : Bool) → eqb (kind_of r) 2 ≡ t → eqb (point_of r) a ≡ u
        → is_some (point_in a n (when t then r ∷ ps else [])) ≡ ltb 0 (length (keep (is_point a) (when t then r ∷ ps else [])))
    by_tests rest false u e f = refl
    by_tests rest true true e f = rw (e, f) (sym (lt-ltb 0 (suc (length (keep (is_point a) ps))) (omega arith)))
    by_tests rest true false e f = rw (e, f) rest

-- a list in order that begins with a record of kind 1
module _ (r : List ℕ) (rs : List (List ℕ)) (l : linked in_order (r ∷ rs) ≡ true) where
  pub from_kind : (n : ℕ) → n ≤ kind_of r → every (λ q. leb n (kind_of q)) rs ≡ true
  from_kind n h = every_so (in_order r) (λ q. leb n (kind_of q)) (λ q o. le-leb n (kind_of q) (omega (arith, order_kinds r q o))) rs (before_rest r rs l)

  once : (kind : ℕ) → kind_of r ≡ kind → (kind ≡ 2 → ⊥) → (kind ≡ 4 → ⊥) → (kind ≡ 5 → ⊥) → every (λ q. ltb kind (kind_of q)) rs ≡ true
  once kind k n₂ n₄ n₅ =
      every_so (in_order r) (λ q. ltb kind (kind_of q))
      (λ q o. lt-ltb kind (kind_of q) (omega (arith, k, order_once r q o (λ e. n₂ (sym k ∙ e)) (λ e. n₄ (sym k ∙ e)) (λ e. n₅ (sym k ∙ e)))))
      rs (before_rest r rs l)

  pub head_once : kind_of r ≡ 1 → keep (is_kind 1) (r ∷ rs) ≡ r ∷ []
  unfolding keep
  head_once k =
      rw (
        k,
        keep_none (is_kind 1) (λ q. ltb 1 (kind_of q)) (λ q e. ne_eqb (kind_of q) 1 (λ f. omega (arith, ltb-true 1 (kind_of q) e))) rs
            (once 1 k (λ e. omega arith) (λ e. omega arith) (λ e. omega arith)),
      )

  pub no_head_later : 1 < kind_of r → keep (is_kind 1) (r ∷ rs) ≡ []
  unfolding every
  no_head_later h =
      keep_none (is_kind 1) (λ q. leb 2 (kind_of q)) (λ q e. ne_eqb (kind_of q) 1 (λ f. omega (arith, leb-true 2 (kind_of q) e))) (r ∷ rs)
      (rw (le-leb 2 (kind_of r) h, from_kind 2 h))

  pub dates_alone : kind_of r ≡ 3 → keep (is_kind 3) rs ≡ []
  dates_alone k =
      keep_none (is_kind 3) (λ q. ltb 3 (kind_of q)) (λ q e. ne_eqb (kind_of q) 3 (λ f. omega (arith, ltb-true 3 (kind_of q) e))) rs
      (once 3 k (λ e. omega arith) (λ e. omega arith) (λ e. omega arith))

  pub later_kinds : kind_of r ≡ 1 → every (λ q. leb 2 (kind_of q)) rs ≡ true
  later_kinds k =
      every_so (λ q. ltb 1 (kind_of q)) (λ q. leb 2 (kind_of q)) (λ q e. le-leb 2 (kind_of q) (ltb-true 1 (kind_of q) e)) rs
      (once 1 k (λ e. omega arith) (λ e. omega arith) (λ e. omega arith))

  pub points_behind : kind_of r ≡ 1 → (f : List ℕ → Bool) → ((q : List ℕ) → f q ≡ true → kind_of q ≡ 2)
      → keep f (r ∷ rs) ≡ keep f (leading (is_kind 2) rs)
  unfolding keep
  points_behind k f point_only =
      let front : f r ≡ false = sym (refuted (f r) (λ p. omega (arith, point_only r p))) in
      rw front (sym (keep_front f point_only rs (later_kinds k) (linked_tail in_order r rs l)))

pub dates_at_most_once : (rs : List (List ℕ)) → linked in_order rs ≡ true → how_many (is_kind 3) rs ≤ 1
unfolding how_many keep
dates_at_most_once [] l = omega arith
dates_at_most_once (r ∷ rs) l =
    let rest = dates_at_most_once rs (linked_tail in_order r rs l) in
    either (λ (qs : List (List ℕ)). length qs ≤ 1) (eqb (kind_of r) 3)
    (λ e. let z : length (keep (is_kind 3) rs) ≡ 0 = ap length (dates_alone r rs l (eqb-true (kind_of r) 3 e)) in omega arith)
    (λ e. rest)

-- of an image in order
pub kinds_2 : (q : List ℕ) → is_kind 2 q ≡ true → kind_of q ≡ 2
kinds_2 q e = eqb-true (kind_of q) 2 e

pub points_2 : (a : ℕ) (q : List ℕ) → is_point a q ≡ true → kind_of q ≡ 2
points_2 a q e = eqb-true (kind_of q) 2 (and_left (eqb (kind_of q) 2) (eqb (point_of q) a) e)

module _ (image : List ℕ) (l : linked in_order (records_of image) ≡ true) where
  -- without a first record of kind 1 there is none
  pub head_missing : (kind_at image 1 ≡ 1 → ⊥) → how_many (is_kind 1) (records_of image) ≡ 0
  unfolding records_of how_many keep
  head_missing n = by_test (whole_at image 1) refl
    where
      by_test : (t : Bool) → whole_at image 1 ≡ t → length (keep (is_kind 1) (records_from image 1)) ≡ 0
      by_test true e =
          let r = record_at image 1 in
          let rs = records_from image (place_after image 1) in
          let some : 0 < kind_of r = some_kind (kind_of r) (whole_facts r (whole_itself image 1 e)).some in
          let other : kind_of r ≡ 1 → ⊥ = not_kind image 1 1 e n in
          rw (from_more image 1 e) (ap length (no_head_later r rs (rw (from_more image 1 e) at l) (omega arith)))
      by_test false e = rw (from_end image 1 e)

  module _ (k : kind_at image 1 ≡ 1) where
    head_facts : OfKind image 1 1
    head_facts = kind_facts image 1 1 k (omega arith)

    pub head_kind : kind_of (record_at image 1) ≡ 1
    head_kind = head_facts.of_kind

    pub head_first : records_of image ≡ record_at image 1 ∷ records_from image (place_after image 1)
    unfolding records_of
    head_first = from_more image 1 head_facts.whole_there

    ordered : linked in_order (record_at image 1 ∷ records_from image (place_after image 1)) ≡ true
    ordered = rw head_first at l

    pub head_only : keep (is_kind 1) (records_of image) ≡ record_at image 1 ∷ []
    head_only = rw head_first (head_once (record_at image 1) (records_from image (place_after image 1)) ordered head_facts.of_kind)

    pub kept_points : (f : List ℕ → Bool) → ((q : List ℕ) → f q ≡ true → kind_of q ≡ 2) → keep f (records_of image) ≡ keep f (points_of image)
    unfolding points_of points_from
    kept_points f point_only =
        rw head_first (points_behind (record_at image 1) (records_from image (place_after image 1)) ordered head_facts.of_kind f point_only)

    pub all_points : keep (is_kind 2) (records_of image) ≡ points_of image
    unfolding points_of points_from
    all_points = kept_points (is_kind 2) kinds_2 ∙ keep_leading (is_kind 2) (records_from image (place_after image 1))

    -- a point is known exactly when it is found
    pub known_found : (r : List ℕ) → known_in (points_of image) r ≡ knows (records_of image) r
    unfolding known_in knows how_many points_of points_from
    known_found r =
        let a = point_of r in
        if_both (λ (t u : Bool). t ≡ u) (leb 4 (kind_of r))
        (λ e. found_point a 1 (records_from image (place_after image 1)) ∙ ap (λ (qs : List (List ℕ)). ltb 0 (length qs)) (sym (kept_points (is_point a) (points_2 a))))
        (λ e. refl)

    pub all_known_found : every (known_in (points_of image)) (records_of image) ≡ every (knows (records_of image)) (records_of image)
    all_known_found = every_same (known_in (points_of image)) (knows (records_of image)) known_found (records_of image)
