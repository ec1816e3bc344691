-- Any two records of a list whose neighbours are in order are in order; so kinds rise through the list, and kinds 1 and 3 occur once.
-- The order is by parts, each decided by a number or left to the next, and so is its transitivity. Assumes nothing.
use Prim.Native.Nat.{ℕ, zero, suc, ◌≤◌, ◌<◌}
use mathlib.Core.Bool.{Bool, true, false, not}
use mathlib.Core.List.{List, [], ◌∷◌}
use mathlib.Core.Path.{◌≡◌, refl, ap, sym, ◌∙◌}
use native.Mathlib.Omega.{arith}
use borrow.Author.Tests.{eqb-true, eqb-false, ltb-true, ltb-false, eq-eqb, ne_eqb, lt-ltb, le-ltb, not-true}
use lib.Dec.{ltb, eqb}
use lib.ListN.{length, get_or}
use lib.Signed.{le_z}
use Rattle.octets.specs.Choice.{when◌then◌else◌}
use Rattle.octets.proofs.Choice.{not_both, same_test}
use Rattle.octets.proofs.Conditions.{and_left, and_right}
use Rattle.label.specs.Label.{instant, before_b}
use Rattle.label.proofs.Instant.{a_trans, a_rises, b_rises, b_not_trans}
use Rattle.records.specs.Records.{kind_of}
use Rattle.records.specs.Said.{every, linked}
use Rattle.records.proofs.Said.{every_at}
use Rattle.fields.specs.Parts.{point_of, record_address, reading_label, event_label}
use Rattle.image.specs.Image.{by_point, reading_before, event_before, in_order}

-- one part of a comparison: where the numbers differ they decide, and else the rest does
abbrev pub part : ℕ → ℕ → Bool → Bool
part x y rest = when not (eqb x y) then ltb x y else rest

data Part (x y : ℕ) (rest : Bool) : Type 0 where
  decided : x < y → Part x y rest
  passed : x ≡ y → rest ≡ true → Part x y rest

part_true : (x y : ℕ) (rest : Bool) → part x y rest ≡ true → Part x y rest
part_true x y rest e = by_test (eqb x y) refl e
  where
    by_test : (t : Bool) → eqb x y ≡ t → (when not t then ltb x y else rest) ≡ true → Part x y rest
    by_test true f e = passed (eqb-true x y f) e
    by_test false f e = decided (ltb-true x y e)

part_less : (x y : ℕ) (rest : Bool) → x < y → part x y rest ≡ true
part_less x y rest h = rw (ne_eqb x y (λ e. omega arith), lt-ltb x y h)

part_same : (x y : ℕ) (rest : Bool) → x ≡ y → rest ≡ true → part x y rest ≡ true
part_same x y rest e f = rw (eq-eqb x y e) f

part_trans : (x y z : ℕ) (t u v : Bool) → (x ≡ y → y ≡ z → t ≡ true → u ≡ true → v ≡ true)
    → part x y t ≡ true → part y z u ≡ true → part x z v ≡ true
part_trans x y z t u v next e f = by_parts (part_true x y t e) (part_true y z u f)
  where
    by_parts : Part x y t → Part y z u → part x z v ≡ true
    by_parts (decided g) (decided h) = part_less x z v (omega arith)
    by_parts (decided g) (passed h k) = part_less x z v (omega arith)
    by_parts (passed g k) (decided h) = part_less x z v (omega arith)
    by_parts (passed g k) (passed h l) = part_same x z v (g ∙ h) (next g h k l)

-- the other way round
pub part_not : (x y : ℕ) (rest : Bool) → not (part y x rest) ≡ part x y (not rest)
part_not x y rest = by_tests (eqb y x) (eqb x y) refl refl
  where
    by_tests : (t u : Bool) → eqb y x ≡ t → eqb x y ≡ u → not (when not t then ltb y x else rest) ≡ (when not u then ltb x y else not rest)
    by_tests true true e f = refl
    by_tests true false e f = absurd (eqb-false x y f (sym (eqb-true y x e)))
    by_tests false true e f = absurd (eqb-false y x e (sym (eqb-true x y f)))
    by_tests false false e f =
        let other : x ≡ y → ⊥ = eqb-false x y f in
        same_test (not (ltb y x)) (ltb x y)
        (λ g. let h : x ≤ y = ltb-false y x (not-true _ g) in lt-ltb x y (omega arith))
        (λ g. let h : x < y = ltb-true x y g in rw (le-ltb y x (omega arith)))

less_trans : (x y z : ℕ) → ltb x y ≡ true → ltb y z ≡ true → ltb x z ≡ true
less_trans x y z e f = lt-ltb x z (omega (arith, ltb-true x y e, ltb-true y z f))

-- records of one kind
readings_trans : (r q p : List ℕ) → reading_before r q ≡ true → reading_before q p ≡ true → reading_before r p ≡ true
unfolding reading_before by_point
readings_trans r q p =
    part_trans (point_of r) (point_of q) (point_of p) _ _ _ (λ e f.
    part_trans (record_address r) (record_address q) (record_address p) _ _ _ (λ g h.
    a_trans (reading_label r) (reading_label q) (reading_label p)))

-- not before, the other way round: by parts again
not_event : (r q : List ℕ) → not (event_before q r)
    ≡ part (point_of r) (point_of q) (part (record_address r) (record_address q) (not (before_b (event_label q) (event_label r))))
unfolding event_before by_point
not_event r q =
    part_not (point_of r) (point_of q) _ ∙ ap (part (point_of r) (point_of q)) (part_not (record_address r) (record_address q) _)

events_trans : (r q p : List ℕ) → not (event_before q r) ≡ true → not (event_before p q) ≡ true → not (event_before p r) ≡ true
events_trans r q p =
    rw (not_event r q, not_event q p, not_event r p)
    (part_trans (point_of r) (point_of q) (point_of p) _ _ _ (λ e f.
    part_trans (record_address r) (record_address q) (record_address p) _ _ _ (λ g h.
    b_not_trans (event_label r) (event_label q) (event_label p))))

-- of one kind, and of any
same_kind : ℕ → List ℕ → List ℕ → Bool
same_kind kind r q =
    when eqb kind 2 then ltb (point_of r) (point_of q) else
    when eqb kind 4 then reading_before r q else
    when eqb kind 5 then not (event_before q r) else
    false

same_kind_trans : (kind : ℕ) (r q p : List ℕ) → same_kind kind r q ≡ true → same_kind kind q p ≡ true → same_kind kind r p ≡ true
unfolding same_kind
same_kind_trans kind r q p = by_tests (eqb kind 2) (eqb kind 4) (eqb kind 5)
  where
    of : Bool → Bool → Bool → List ℕ → List ℕ → Bool
    of t u v r q = when t then ltb (point_of r) (point_of q) else when u then reading_before r q else when v then not (event_before q r) else false

    by_tests : (t u v : Bool) → of t u v r q ≡ true → of t u v q p ≡ true → of t u v r p ≡ true
    by_tests true u v = less_trans (point_of r) (point_of q) (point_of p)
    by_tests false true v = readings_trans r q p
    by_tests false false true = events_trans r q p
    by_tests false false false = λ e f. e

in_order_parts : (r q : List ℕ) → in_order r q ≡ part (kind_of r) (kind_of q) (same_kind (kind_of r) r q)
unfolding in_order same_kind
in_order_parts r q = refl

pub order_trans : (r q p : List ℕ) → in_order r q ≡ true → in_order q p ≡ true → in_order r p ≡ true
order_trans r q p =
    rw (in_order_parts r q, in_order_parts q p, in_order_parts r p)
    (part_trans (kind_of r) (kind_of q) (kind_of p) _ _ _ (λ e f g h. same_kind_trans (kind_of r) r q p g (rw (sym e) at h)))

-- what an order says of kinds: they do not fall, and only points, readings and events may follow one of their kind
pub order_kinds : (r q : List ℕ) → in_order r q ≡ true → kind_of r ≤ kind_of q
order_kinds r q e = by_part (part_true (kind_of r) (kind_of q) _ (rw (in_order_parts r q) at e))
  where
    by_part : Part (kind_of r) (kind_of q) (same_kind (kind_of r) r q) → kind_of r ≤ kind_of q
    by_part (decided h) = omega arith
    by_part (passed h f) = omega arith

pub order_once : (r q : List ℕ) → in_order r q ≡ true → (kind_of r ≡ 2 → ⊥) → (kind_of r ≡ 4 → ⊥) → (kind_of r ≡ 5 → ⊥) → kind_of r < kind_of q
unfolding same_kind
order_once r q e n₂ n₄ n₅ = by_part (part_true (kind_of r) (kind_of q) _ (rw (in_order_parts r q) at e))
  where
    never : same_kind (kind_of r) r q ≡ false
    never = rw (ne_eqb (kind_of r) 2 n₂, ne_eqb (kind_of r) 4 n₄, ne_eqb (kind_of r) 5 n₅)

    by_part : Part (kind_of r) (kind_of q) (same_kind (kind_of r) r q) → kind_of r < kind_of q
    by_part (decided h) = h
    by_part (passed h f) = absurd (not_both never f)

-- from neighbours to any two
pub linked_tail : (f : List ℕ → List ℕ → Bool) (r : List ℕ) (rs : List (List ℕ)) → linked f (r ∷ rs) ≡ true → linked f rs ≡ true
unfolding linked
linked_tail f r [] e = refl
linked_tail f r (q ∷ rs) e = and_right (f r q) (linked f (q ∷ rs)) e

reaches : (r q : List ℕ) (rs : List (List ℕ)) → in_order r q ≡ true → linked in_order (q ∷ rs) ≡ true → every (in_order r) (q ∷ rs) ≡ true
unfolding every linked
reaches r q [] e l = rw e
reaches r q (p ∷ rs) e l =
    let step : in_order q p ≡ true = and_left (in_order q p) (linked in_order (p ∷ rs)) l in
    let rest : linked in_order (p ∷ rs) ≡ true = and_right (in_order q p) (linked in_order (p ∷ rs)) l in
    rw (e, reaches r p rs (order_trans r q p e step) rest)

pub before_rest : (r : List ℕ) (rs : List (List ℕ)) → linked in_order (r ∷ rs) ≡ true → every (in_order r) rs ≡ true
unfolding every linked
before_rest r [] e = refl
before_rest r (q ∷ rs) e =
    reaches r q rs (and_left (in_order r q) (linked in_order (q ∷ rs)) e) (and_right (in_order r q) (linked in_order (q ∷ rs)) e)

pub any_two : (rs : List (List ℕ)) → linked in_order rs ≡ true → (i j : ℕ) → i < j → j < length rs → in_order (get_or rs i []) (get_or rs j []) ≡ true
any_two [] e i j h k = absurd (omega arith)
any_two (r ∷ rs) e i zero h k = absurd (omega arith)
any_two (r ∷ rs) e zero (suc j) h k = every_at (in_order r) rs (before_rest r rs e) j (omega arith)
any_two (r ∷ rs) e (suc i) (suc j) h k = any_two rs (linked_tail in_order r rs e) i j (omega arith) (omega arith)

-- readings and events of one point and record address do not fall back to an earlier minute
same_part : (x y : ℕ) (rest : Bool) → x ≡ y → part x y rest ≡ true → rest ≡ true
same_part x y rest e p = rw (eq-eqb x y e) at p

module _ (r q : List ℕ) (points : point_of r ≡ point_of q) (addresses : record_address r ≡ record_address q) (o : in_order r q ≡ true) where
  same_kind_order : kind_of r ≡ kind_of q → same_kind (kind_of r) r q ≡ true
  same_kind_order e = same_part (kind_of r) (kind_of q) _ e (rw (in_order_parts r q) at o)

  pub readings_rise : kind_of r ≡ 4 → kind_of q ≡ 4 → le_z (instant (reading_label r)) (instant (reading_label q)) ≡ true
  unfolding same_kind reading_before by_point
  readings_rise k l =
      let before : reading_before r q ≡ true = rw k at (same_kind_order (k ∙ sym l)) in
      a_rises (reading_label r) (reading_label q)
      (same_part (record_address r) (record_address q) _ addresses (same_part (point_of r) (point_of q) _ points before))

  pub events_rise : kind_of r ≡ 5 → kind_of q ≡ 5 → le_z (instant (event_label r).a) (instant (event_label q).a) ≡ true
  unfolding same_kind
  events_rise k l =
      let parts = sym (not_event r q) ∙ (rw k at (same_kind_order (k ∙ sym l))) in
      b_rises (event_label r) (event_label q)
      (same_part (record_address r) (record_address q) _ addresses (same_part (point_of r) (point_of q) _ points parts))
