-- The record of a kind that stands at a place, and its key.
-- A part as long as a record of the kind that stands there is that record. Assumes nothing.
use Prim.Native.Nat.{ℕ, ◌+◌, ◌^◌, ◌≤◌, ◌<◌}
use mathlib.Core.Bool.{Bool, true, false}
use mathlib.Core.List.{List}
use mathlib.Core.Path.{◌≡◌, refl, ap, sym, ◌∙◌}
use native.Mathlib.Nat.{pow-le-pow_right}
use native.Mathlib.Omega.{arith}
use borrow.Author.Tests.{ltb-true, ltb-false, eqb-true, eq-eqb, ne_eqb}
use lib.Dec.{ltb, eqb}
use lib.ListN.{length, take, drop, length-take, length-drop}
use lib.Seq.{get_or-take, take-take, length-take-le}
use Rattle.octets.specs.Numbers.{high_first}
use Rattle.octets.specs.Choice.{when◌then◌else◌}
use Rattle.octets.proofs.Numbers.{Octets, octets_take, octets_drop, high_bound}
use Rattle.records.specs.Records.{length_of, kind_of, whole_at, record_at, kind_at}
use Rattle.records.proofs.Records.{whole_facts, whole_from, whole_itself, itself, kind_there, kind_none, kind_whole, kind_facts}
use Rattle.label.specs.Label.{label_a_at, label_b_at}
use Rattle.label.proofs.Label.{label_a_cut, label_b_cut}
use Rattle.fields.specs.Parts.{number_at, point_of, record_address, reading_label, event_label}
use Rattle.fields.specs.working.Standing.{StandsThere}
use Rattle.fields.specs.working.Key.{at_minute, no_label, key, key_of, key_at, key_as}

-- a number has its width
pub number_small : (width at : ℕ) (s : List ℕ) → Octets s → number_at width s at < 256 ^ width
unfolding number_at
number_small width at s o =
    let size : length (take width (drop at s)) ≤ width = omega (arith, length-take width (drop at s)) in
    omega (arith, pow-le-pow_right {n = 256} (omega arith) size, high_bound (take width (drop at s)) (octets_take width (drop at s) (octets_drop at s o)))

-- a key has its record's kind
pub key_kind : (r : List ℕ) → (key_of r).kind ≡ kind_of r
unfolding key_of
key_kind r = by_tests (eqb (kind_of r) 2) (eqb (kind_of r) 4) (eqb (kind_of r) 5) refl refl refl
  where
    by_tests : (t u v : Bool) → eqb (kind_of r) 2 ≡ t → eqb (kind_of r) 4 ≡ u → eqb (kind_of r) 5 ≡ v
        → (when t then key 2 (point_of r) 0 no_label else
        when u then key 4 (point_of r) (record_address r) (at_minute (reading_label r)) else
        when v then key 5 (point_of r) (record_address r) (event_label r) else
        key (kind_of r) 0 0 no_label).kind ≡ kind_of r
    by_tests true u v e f g = sym (eqb-true (kind_of r) 2 e)
    by_tests false true v e f g = sym (eqb-true (kind_of r) 4 f)
    by_tests false false true e f g = sym (eqb-true (kind_of r) 5 g)
    by_tests false false false e f g = refl

-- the key of a record of each kind that has more
module _ (r : List ℕ) where
  pub key_2 : kind_of r ≡ 2 → key_of r ≡ key 2 (point_of r) 0 no_label
  unfolding key_of
  key_2 k = rw k

  pub key_4 : kind_of r ≡ 4 → key_of r ≡ key 4 (point_of r) (record_address r) (at_minute (reading_label r))
  unfolding key_of
  key_4 k = rw k

  pub key_5 : kind_of r ≡ 5 → key_of r ≡ key 5 (point_of r) (record_address r) (event_label r)
  unfolding key_of
  key_5 k = rw k

-- the key at a place, kind by kind
module _ (s : List ℕ) (at : ℕ) where
  pub key_whole : whole_at s at ≡ true → key_at s at ≡ key_of (record_at s at)
  unfolding key_at
  key_whole e = rw e

  pub key_other : (kind_at s at ≡ 2 → ⊥) → (kind_at s at ≡ 4 → ⊥) → (kind_at s at ≡ 5 → ⊥) → key_at s at ≡ key (kind_at s at) 0 0 no_label
  unfolding key_at key_of
  key_other n₂ n₄ n₅ = by_test (whole_at s at) refl
    where
      by_test : (t : Bool) → whole_at s at ≡ t → key_at s at ≡ key (kind_at s at) 0 0 no_label
      by_test true e =
          let k : kind_of (record_at s at) ≡ kind_at s at = kind_there s at e ∙ sym (kind_whole s at e) in
          rw (key_at, e, k, ne_eqb (kind_at s at) 2 n₂, ne_eqb (kind_at s at) 4 n₄, ne_eqb (kind_at s at) 5 n₅)
      by_test false e = rw (key_at, e, kind_none s at e)

  pub key_at_kind : (key_at s at).kind ≡ kind_at s at
  unfolding key_at
  key_at_kind = by_test (whole_at s at) refl
    where
      by_test : (t : Bool) → whole_at s at ≡ t → (key_at s at).kind ≡ kind_at s at
      by_test true e = rw (key_whole e) (key_kind (record_at s at) ∙ kind_there s at e ∙ sym (kind_whole s at e))
      by_test false e = rw (key_at, e, kind_none s at e)

  -- asked for one kind
  pub key_as_law : (kind : ℕ) → kind_at s at ≡ kind → key_as kind s at ≡ key_at s at
  unfolding key_as
  key_as_law kind k = rw (eq-eqb (kind_at s at) kind k)

  pub key_not_as : (kind : ℕ) → (kind_at s at ≡ kind → ⊥) → key_as kind s at ≡ key 0 0 0 no_label
  unfolding key_as
  key_not_as kind n = rw (ne_eqb (kind_at s at) kind n)

-- the key of a record of one kind, whose octets stand at a place
module _ (s : List ℕ) (at : ℕ) (r : List ℕ) where
  key_there : (kind : ℕ) → 0 < kind → StandsThere kind s at r → (key_as kind s at ≡ key_of r) × (kind_of r ≡ kind)
  key_there kind some t =
      let o = kind_facts s at kind t.is_kind some in
      (key_as_law s at kind t.is_kind ∙ key_whole s at o.whole_there ∙ ap key_of (sym t.is_record), ap kind_of t.is_record ∙ o.of_kind)

  pub point_there : StandsThere 2 s at r → key_as 2 s at ≡ key 2 (point_of r) 0 no_label
  point_there t = let k = key_there 2 (omega arith) t in k.0 ∙ key_2 r k.1

  pub reading_there : StandsThere 4 s at r → key_as 4 s at ≡ key 4 (point_of r) (record_address r) (at_minute (label_a_at (take 5 (drop 6 r)) 0))
  unfolding reading_label
  reading_there t = let k = key_there 4 (omega arith) t in rw (label_a_cut r 6) (k.0 ∙ key_4 r k.1)

  pub event_there : StandsThere 5 s at r → key_as 5 s at ≡ key 5 (point_of r) (record_address r) (label_b_at (take 7 (drop 8 r)) 0)
  unfolding event_label
  event_there t = let k = key_there 5 (omega arith) t in rw (label_b_cut r 8) (k.0 ∙ key_5 r k.1)

-- a part as long as a record of a kind is one that stands there where its kind and its length are right, and only then
module _ (s : List ℕ) (at kind : ℕ) (some : 0 < length_of kind) where
  some_kind : 0 < kind
  unfolding length_of
  some_kind = by_test (ltb 0 kind) refl
    where
      by_test : (t : Bool) → ltb 0 kind ≡ t → 0 < kind
      by_test true e = ltb-true 0 kind e
      by_test false e = let none : kind ≡ 0 = omega (arith, ltb-false 0 kind e) in absurd (omega (arith, rw none at some))

  pub no_room : length (drop at s) < 2 + length_of kind → kind_at s at ≡ kind → ⊥
  no_room h k = omega (arith, (kind_facts s at kind k some_kind).room_there, length-drop at s)

  module _ (r : List ℕ) (e : r ≡ take (2 + length_of kind) (drop at s)) where
    -- the record that stands there
    there : kind_at s at ≡ kind → StandsThere kind s at r
    there k =
        let o = kind_facts s at kind k some_kind in
        let same : take (2 + length_of kind) (drop at s) ≡ record_at s at =
        ap (λ (n : ℕ). take n (drop at s)) (sym o.size_there) ∙ itself s at o.whole_there in
        record { is_kind = k; is_record = e ∙ same; size = ap length (e ∙ same) ∙ o.size_there }

    pub right_there : kind_at s at ≡ kind → (kind_of r ≡ kind) × (number_at 2 r 0 ≡ length_of kind)
    unfolding number_at
    right_there k =
        let o = kind_facts s at kind k some_kind in
        let t = there k in
        let of_kind : kind_of r ≡ kind = ap kind_of t.is_record ∙ o.of_kind in
        (of_kind, rw t.is_record ((whole_facts _ (whole_itself s at o.whole_there)).said ∙ ap length_of o.of_kind))

    pub stands_there : 2 + length_of kind ≤ length (drop at s) → kind_of r ≡ kind → number_at 2 r 0 ≡ length_of kind → StandsThere kind s at r
    unfolding number_at whole_at record_at
    stands_there room k n =
        let d = drop at s in
        let kind_d : kind_of d ≡ kind = sym (get_or-take (2 + length_of kind) d 2 0 (omega arith)) ∙ (rw e at k) in
        let two : take 2 r ≡ take 2 d = ap (take 2) e ∙ take-take 2 (2 + length_of kind) d (omega arith) in
        let w : whole_at s at ≡ true = whole_from d (record { some = rw kind_d some; said = rw kind_d (ap high_first (sym two) ∙ n); fits = rw kind_d room }) in
        let same : r ≡ record_at s at = e ∙ (rw kind_d) in
        record {
          is_kind = kind_whole s at w ∙ sym (kind_there s at w) ∙ ap kind_of (sym same) ∙ k;
          is_record = same;
          size = ap length e ∙ length-take-le (2 + length_of kind) d room;
        }
