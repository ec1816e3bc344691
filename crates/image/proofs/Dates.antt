-- The switch dates of a sound image: its one record of kind 3, if there is one, stands behind the points, where it is looked for.
-- Along the points: behind the last of them the kinds are 3 and more, and 3 only once. Assumes nothing.
use Prim.Native.Nat.{ℕ, ◌+◌, ◌≤◌}
use mathlib.Core.Bool.{Bool, true, false}
use mathlib.Core.List.{List, [], ◌∷◌, ◌++◌, flatten}
use mathlib.Core.Path.{◌≡◌, refl, ap, sym, ◌∙◌}
use native.Mathlib.Omega.{arith}
use borrow.Author.Tests.{eqb-true, eqb-false, leb-true, ne_eqb}
use lib.Dec.{leb, eqb}
use lib.ListN.{length, length-append}
use Rattle.octets.specs.Choice.{when◌then◌else◌}
use Rattle.octets.proofs.Conditions.{and_left, and_right}
use Rattle.records.specs.Records.{kind_of, record_at, records_from, kind_at, place_after}
use Rattle.records.specs.Said.{every, linked, keep}
use Rattle.records.proofs.Records.{kind_none, kind_whole, kind_there, after_whole}
use Rattle.records.proofs.Said.{keep_none}
use Rattle.records.proofs.Places.{Lie, lie, none, one}
use Rattle.fields.specs.Parts.{is_kind}
use Rattle.fields.specs.Answers.{records_of, leading, points_from, points_of, dates_place}
use Rattle.image.specs.Image.{in_order, sound_image}
use Rattle.image.proofs.Order.{linked_tail}
use Rattle.image.proofs.Known.{from_kind, dates_alone, later_kinds, head_kind, head_first}
use Rattle.image.proofs.Soundness.{rules, sound_facts}

-- the record of kind 3 at a place, or none
dates_in : List ℕ → ℕ → List (List ℕ)
dates_in s at = when eqb (kind_at s at) 3 then record_at s at ∷ [] else []

behind_points : {s : List ℕ} {at : ℕ} {rs : List (List ℕ)} → Lie s at rs → every (λ q. leb 2 (kind_of q)) rs ≡ true → linked in_order rs ≡ true
    → keep (is_kind 3) rs ≡ dates_in s (at + length (flatten (leading (is_kind 2) rs)))
unfolding dates_in keep leading flatten every
behind_points {s} {at} (none e) g l = let z : at + 0 ≡ at = omega arith in rw (z, kind_none s at e)
behind_points {s} {at} (one {rs = rs} e lies) g l =
    by_test (behind_points lies (and_right (leb 2 (kind_of r)) _ g) (linked_tail in_order r rs l)) (eqb (kind_of r) 2) refl
  where
    r : List ℕ
    r = record_at s at

    there : kind_at s at ≡ kind_of r
    there = kind_whole s at e ∙ sym (kind_there s at e)

    -- no points any more: the record here is the one, or there is none
    ended : (kind_of r ≡ 2 → ⊥) → (t : Bool) → eqb (kind_of r) 3 ≡ t → (when t then r ∷ keep (is_kind 3) rs else keep (is_kind 3) rs) ≡ (when t then r ∷ [] else [])
    ended n true f = ap (r ∷◌) (dates_alone r rs l (eqb-true (kind_of r) 3 f))
    ended n false f =
        let other : kind_of r ≡ 3 → ⊥ = eqb-false (kind_of r) 3 f in
        let fourth : 4 ≤ kind_of r = omega (arith, leb-true 2 (kind_of r) (and_left (leb 2 (kind_of r)) (every (λ q. leb 2 (kind_of q)) rs) g)) in
        keep_none (is_kind 3) (λ q. leb 4 (kind_of q)) (λ q h. ne_eqb (kind_of q) 3 (λ k. omega (arith, leb-true 4 (kind_of q) h))) rs (from_kind r rs l 4 fourth)

    by_test : keep (is_kind 3) rs ≡ dates_in s (place_after s at + length (flatten (leading (is_kind 2) rs))) → (t : Bool) → eqb (kind_of r) 2 ≡ t
        → (when eqb (kind_of r) 3 then r ∷ keep (is_kind 3) rs else keep (is_kind 3) rs) ≡ dates_in s (at + length (flatten (when t then r ∷ leading (is_kind 2) rs else [])))
    by_test rest true f =
        let place : at + length (r ++ flatten (leading (is_kind 2) rs)) ≡ place_after s at + length (flatten (leading (is_kind 2) rs)) =
        omega (arith, after_whole s at e, length-append r (flatten (leading (is_kind 2) rs))) in
        rw (eqb-true (kind_of r) 2 f, place) rest
    by_test rest false f =
        let z : at + 0 ≡ at = omega arith in
        rw (z, there) (ended (eqb-false (kind_of r) 2 f) (eqb (kind_of r) 3) refl)

pub dates_found_law : (image : List ℕ) → sound_image image ≡ true
    → keep (is_kind 3) (records_of image) ≡ (when eqb (kind_at image (dates_place image)) 3 then record_at image (dates_place image) ∷ [] else [])
unfolding dates_place points_of points_from dates_in keep
dates_found_law image e =
    let s = rules image e in
    let head = (sound_facts image e).head_stands in
    let r = record_at image 1 in
    let rs = records_from image (place_after image 1) in
    let first = head_first image s.in_order head in
    let ordered : linked in_order (r ∷ rs) ≡ true = rw first at s.in_order in
    let kind = head_kind image s.in_order head in
    rw (first, kind) (behind_points (lie image (place_after image 1)) (later_kinds r rs ordered kind) (linked_tail in_order r rs ordered))
