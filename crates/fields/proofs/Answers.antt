-- The single parts of an image: the points behind the first record, as a loop over their places comes to them, and how many octets they take.
-- Each takes nine octets, so the next stands nine further. Assumes nothing.
use Rattle.std.specs.Prelude.{Some, None, Option, map, option_map}
use Rattle.std.specs.List.{find, enumerate_from}
use Prim.Native.Nat.{ℕ, ◌+◌, ◌-◌, ◌*◌, ◌≤◌}
use mathlib.Core.Bool.{Bool, true, false, cond}
use mathlib.Core.List.{List, [], ◌∷◌, flatten}
use mathlib.Core.Path.{◌≡◌, refl, ap, sym, ◌∙◌}
use native.Mathlib.Omega.{arith}
use borrow.Author.Tests.{eqb-true, ne_eqb}
use lib.Dec.{eqb}
use lib.ListN.{length, take, drop, length-append}
use Rattle.std.proofs.lemmas.List.{length-map}
use Rattle.octets.specs.Choice.{when◌then◌else◌}
use Rattle.octets.proofs.Choice.{either}
use Rattle.label.specs.Label.{label_a_at, label_b_at}
use Rattle.label.proofs.Label.{label_a_cut, label_b_cut}
use Rattle.records.specs.Records.{length_of, kind_of, whole_at, record_at, records_from, kind_at, place_after}
use Rattle.records.proofs.Records.{from_end, from_more, kind_there, kind_whole, kind_facts, not_kind}
use Rattle.records.proofs.Places.{Lie, lie, none, one}
use Rattle.address.specs.declared.PointAddress.{PointAddress}
use Rattle.fields.specs.declared.Point.{Point}
use Rattle.fields.specs.Parts.{point_of, password_of, first_date, second_date, spa_of, spq_of, event_label, is_kind}
use Rattle.fields.specs.Answers.{leading, points_from, points_of, point_in, point_found, dates_at, dates_place, dates_found}
use Rattle.fields.specs.Calls.{value_found, event_found}
use Rattle.fields.specs.working.Standing.{StandsThere, entry, entries_from}

module _ (s : List ℕ) (at : ℕ) where
  pub points-more : kind_at s at ≡ 2 → points_from s at ≡ record_at s at ∷ points_from s (at + 9)
  unfolding points_from leading length_of
  points-more k =
      let o = kind_facts s at 2 k (omega arith) in
      let next : place_after s at ≡ at + 9 = omega (arith, o.next) in
      rw (from_more s at o.whole_there, o.of_kind, next)

  pub points-end : (kind_at s at ≡ 2 → ⊥) → points_from s at ≡ []
  unfolding points_from leading
  points-end n = by_test (whole_at s at) refl
    where
      by_test : (t : Bool) → whole_at s at ≡ t → leading (is_kind 2) (records_from s at) ≡ []
      by_test true e = rw (from_more s at e, ne_eqb (kind_of (record_at s at)) 2 (not_kind s at 2 e n))
      by_test false e = rw (from_end s at e)

-- the octets that they take, and that there is room for them
pub record Fit (s : List ℕ) (at : ℕ) (ps : List (List ℕ)) : Type 0 where
  pub nine-each : length (flatten ps) ≡ 9 * length ps
  pub room-for-all : 9 * length ps ≤ length s - at

fit : {s : List ℕ} {at : ℕ} {rs : List (List ℕ)} → Lie s at rs → Fit s at (leading (is_kind 2) rs)
unfolding leading flatten length_of
fit (none e) = record { nine-each = refl; room-for-all = omega arith }
fit {s} {at} (one {rs = rs} e l) =
    let rest = fit l in
    either (Fit s at) (eqb (kind_of (record_at s at)) 2) (λ t. first_more rest (eqb-true _ 2 t)) (λ t. record { nine-each = refl; room-for-all = omega arith })
  where
    first_more : Fit s (place_after s at) (leading (is_kind 2) rs) → kind_of (record_at s at) ≡ 2 → Fit s at (record_at s at ∷ leading (is_kind 2) rs)
    first_more f k =
        let o = kind_facts s at 2 (kind_whole s at e ∙ sym (kind_there s at e) ∙ k) (omega arith) in
        record {
          nine-each = length-append (record_at s at) (flatten (leading (is_kind 2) rs)) ∙ omega (arith, f.nine-each, o.size_there);
          room-for-all = omega (arith, f.room-for-all, o.next, o.room_there);
        }

pub points-fit : (s : List ℕ) (at : ℕ) → Fit s at (points_from s at)
unfolding points_from
points-fit s at = fit (lie s at)

-- how the points are gone over: at a place where one stands it comes first, and the others stand nine further
pub next_entry : (s : List ℕ) (at : ℕ) (r : List ℕ) → StandsThere 2 s at r → entries_from s at ≡ entry r ∷ entries_from s (at + 9)
next_entry s at r t = rw (points-more s at t.is_kind, t.is_record)

pub no_entry : (s : List ℕ) (at : ℕ) → (kind_at s at ≡ 2 → ⊥) → entries_from s at ≡ []
no_entry s at n = rw (points-end s at n)

pub few_entries : (s : List ℕ) (at : ℕ) → length (entries_from s at) ≤ length s
few_entries s at = omega (arith, length-map (points_from s at) entry, (points-fit s at).room-for-all)

pub entry_room : (s : List ℕ) (at : ℕ) (r : List ℕ) → StandsThere 2 s at r → at + 9 ≤ length s
unfolding length_of
entry_room s at r t = omega (arith, (kind_facts s at 2 t.is_kind (omega arith)).room_there)

-- the point looked for is the first of them with its address
abbrev pub point_of_entry : ℕ × (PointAddress × ℕ) → Point
point_of_entry found = record { number = found.0 + 1; password = found.1.1 }

pub found_first : (address passed : ℕ) (rs : List (List ℕ))
    → option_map point_of_entry (find (λ p. eqb p.1.0.0 address) (enumerate_from passed (map entry rs))) ≡ point_in address (passed + 1) rs
unfolding point_in
found_first address passed [] = refl
found_first address passed (r ∷ rs) = by_test (eqb (point_of r) address) _ _ (found_first address (passed + 1) rs)
  where
    by_test : (t : Bool) (found : Option (ℕ × (PointAddress × ℕ))) (answer : Option Point) → option_map point_of_entry found ≡ answer
        → option_map point_of_entry (cond t (Some (passed, entry r)) found)
        ≡ (when t then Some (record { number = passed + 1; password = password_of r }) else answer)
    by_test true found answer e = refl
    by_test false found answer e = e

-- as a search over those of an image answered
pub found_point : (address : PointAddress) (s : List ℕ) (at : ℕ) (found : Option (ℕ × (PointAddress × ℕ))) → at ≡ place_after s 1
    → option_map (λ p. (p.0, p.1)) found ≡ find (λ p. eqb p.1.0.0 address.0) (enumerate_from 0 (entries_from s at))
    → option_map point_of_entry found ≡ point_found address s
unfolding point_found points_of
found_point address s at found p e = ap (option_map point_of_entry) (same found ∙ e) ∙ rw p (found_first address.0 0 (points_from s (place_after s 1)))
  where
    same : (found : Option (ℕ × (PointAddress × ℕ))) → found ≡ option_map (λ p. (p.0, p.1)) found
    same None = refl
    same (Some p) = refl

-- what is found behind the points
module _ (s : List ℕ) where
  -- the place behind the points, as it is counted
  pub dates-place : (first number : ℕ) → first ≡ place_after s 1 → number ≡ length (points_of s) → first + 9 * number ≡ dates_place s
  unfolding dates_place points_of
  dates-place first number e n = omega (arith, (points-fit s (place_after s 1)).nine-each)

  pub dates-behind : (at : ℕ) → at ≡ dates_place s → dates_at s at ≡ dates_found s
  unfolding dates_found
  dates-behind at e = ap (dates_at s) e

  pub points-room : (number : ℕ) → number ≡ length (points_of s) → 9 * number ≤ length s - place_after s 1
  unfolding points_of
  points-room number n = rw n (points-fit s (place_after s 1)).room-for-all

-- the labels are cut out of the record
module _ (s : List ℕ) (at : ℕ) (r : List ℕ) where
  pub dates_there : StandsThere 3 s at r
      → dates_at s at ≡ Some (record { first = label_a_at (take 5 (drop 3 r)) 0; second = label_a_at (take 5 (drop 8 r)) 0 })
  unfolding dates_at first_date second_date
  dates_there t = rw (label_a_cut r 3, label_a_cut r 8, t.is_record, t.is_kind)

  pub event_there : StandsThere 5 s at r
      → event_found s at ≡ Some (record { spa = spa_of r; spq = spq_of r; label = label_b_at (take 7 (drop 8 r)) 0 })
  unfolding event_found event_label
  event_there t = rw (label_b_cut r 8, t.is_record, t.is_kind)

-- what is answered at a place depends on the octets of the record there, and on nothing else
module _ (s s' : List ℕ) (at at' : ℕ) (e : whole_at s at ≡ true) (e' : whole_at s' at' ≡ true) (same : record_at s at ≡ record_at s' at') where
  kind-same : kind_at s at ≡ kind_at s' at'
  kind-same = kind_whole s at e ∙ sym (kind_there s at e) ∙ ap kind_of same ∙ kind_there s' at' e' ∙ sym (kind_whole s' at' e')

  pub value_same : (object : ℕ) → value_found object s at ≡ value_found object s' at'
  unfolding value_found
  value_same object = rw (kind-same, same)

  pub event-same : event_found s at ≡ event_found s' at'
  unfolding event_found
  event-same = rw (kind-same, same)
