-- What a sound image is, as facts instead of tests: every rule of document 01, and that any two records are in order.
-- Condition by condition. Assumes nothing.
use Prim.Native.Nat.{ℕ, ◌+◌, ◌≤◌, ◌<◌}
use mathlib.Core.Bool.{Bool, true, false, ◌&&◌, and-true}
use mathlib.Core.List.{List, [], ◌∷◌, flatten}
use mathlib.Core.Path.{◌≡◌, refl, ap, sym}
use native.Mathlib.Omega.{arith}
use borrow.Author.Tests.{eqb-true, eqb-false, leb-true, eq-eqb, le-leb}
use lib.Dec.{leb, eqb}
use lib.ListN.{length, get_or}
use Rattle.octets.specs.Conditions.{holds}
use Rattle.octets.proofs.Choice.{same_test, refuted, not_both}
use Rattle.octets.proofs.Conditions.{and_left, and_right, holds_at}
use Rattle.label.specs.Label.{valid_a, valid_b}
use Rattle.records.specs.Records.{kind_of, record_at, kind_at}
use Rattle.records.specs.Said.{every, linked, keep, how_many}
use Rattle.records.proofs.Said.{every_at}
use Rattle.fields.specs.Parts.{point_of, record_address, first_date, second_date, reading_label, event_label, is_kind}
use Rattle.fields.specs.Answers.{records_of, points_of}
use Rattle.image.specs.Image.{reading_record, event_record, right, in_order, knows, sound_image}
use Rattle.image.specs.working.Keys.{fronted, orderly, known_in}
use Rattle.image.proofs.Order.{any_two}
use Rattle.image.proofs.Known.{head_missing, all_points, dates_at_most_once, all_known_found, head_only}

-- the rules, over the list of records
pub record Rules (image : List ℕ) : Type 0 where
  pub short : length image ≤ 65535
  pub version : get_or image 0 0 ≡ 1
  pub reaches : 1 + length (flatten (records_of image)) ≡ length image
  pub one_head : how_many (is_kind 1) (records_of image) ≡ 1
  pub some_point : 1 ≤ how_many (is_kind 2) (records_of image)
  pub few_points : how_many (is_kind 2) (records_of image) ≤ 8
  pub dates_once : how_many (is_kind 3) (records_of image) ≤ 1
  pub all_right : every right (records_of image) ≡ true
  pub in_order : linked in_order (records_of image) ≡ true
  pub all_known : every (knows (records_of image)) (records_of image) ≡ true

pub rules : (image : List ℕ) → sound_image image ≡ true → Rules image
unfolding sound_image
rules image e =
    record {
      short = leb-true _ _ (holds_at _ e 0);
      version = eqb-true _ _ (holds_at _ e 1);
      reaches = eqb-true _ _ (holds_at _ e 2);
      one_head = eqb-true _ _ (holds_at _ e 3);
      some_point = leb-true _ _ (holds_at _ e 4);
      few_points = leb-true _ _ (holds_at _ e 5);
      dates_once = leb-true _ _ (holds_at _ e 6);
      all_right = holds_at _ e 7;
      in_order = holds_at _ e 8;
      all_known = holds_at _ e 9;
    }

-- the first record is of kind 1
pub has_head : (image : List ℕ) → Rules image → kind_at image 1 ≡ 1
has_head image s = by_test (eqb (kind_at image 1) 1) refl
  where
    by_test : (t : Bool) → eqb (kind_at image 1) 1 ≡ t → kind_at image 1 ≡ 1
    by_test true e = eqb-true (kind_at image 1) 1 e
    by_test false e = absurd (omega (arith, s.one_head, head_missing image s.in_order (eqb-false (kind_at image 1) 1 e)))

pub rules_orderly : (image : List ℕ) → Rules image → orderly image ≡ true
unfolding orderly
rules_orderly image s =
    rw (s.all_right, s.in_order, all_known_found image s.in_order (has_head image s), s.all_known, eq-eqb _ _ s.reaches)

-- what an orderly image is
pub record Orderly (image : List ℕ) : Type 0 where
  pub each_right : every right (records_of image) ≡ true
  pub linked_in_order : linked in_order (records_of image) ≡ true
  pub each_found : every (known_in (points_of image)) (records_of image) ≡ true
  pub to_the_end : 1 + length (flatten (records_of image)) ≡ length image

pub orderly_facts : (image : List ℕ) → orderly image ≡ true → Orderly image
unfolding orderly
orderly_facts image e =
    let rs = records_of image in
    let rest = and_right (every right rs) _ e in
    let more = and_right (linked in_order rs) _ rest in
    record {
      each_right = and_left (every right rs) _ e;
      linked_in_order = and_left (linked in_order rs) _ rest;
      each_found = and_left (every (known_in (points_of image)) rs) _ more;
      to_the_end = eqb-true _ _ (and_right (every (known_in (points_of image)) rs) _ more);
    }

-- the points of a sound image are counted behind its first record
pub points_counted : (image : List ℕ) → Rules image → how_many (is_kind 2) (records_of image) ≡ length (points_of image)
unfolding how_many
points_counted image s = ap length (all_points image s.in_order (has_head image s))

-- where the size, the version, the first record and the number of points are right, the walk decides
module _ (image : List ℕ) (short : length image ≤ 65535) (version : get_or image 0 0 ≡ 1) (k : kind_at image 1 ≡ 1)
    (some : 1 ≤ length (points_of image)) (few : length (points_of image) ≤ 8) where
  all_rules_law : orderly image ≡ true → sound_image image ≡ true
  unfolding sound_image holds how_many
  all_rules_law o =
      let f = orderly_facts image o in
      let order = f.linked_in_order in
      simp (
        le-leb (length image) 65535 short,
        eq-eqb (get_or image 0 0) 1 version,
        eq-eqb (1 + length (flatten (records_of image))) (length image) f.to_the_end,
        head_only image order k,
        all_points image order k,
        le-leb 1 (length (points_of image)) some,
        le-leb (length (points_of image)) 8 few,
        le-leb (how_many (is_kind 3) (records_of image)) 1 (dates_at_most_once (records_of image) order),
        f.each_right,
        order,
        sym (all_known_found image order k),
        f.each_found,
        and-true,
      )

  pub walk_decides : orderly image ≡ sound_image image
  walk_decides = same_test (orderly image) (sound_image image) all_rules_law (λ e. rules_orderly image (rules image e))

-- what is asked before the walk is needed, and where it holds the walk decides
front_needed : (image : List ℕ) → sound_image image ≡ true → fronted image ≡ true
unfolding fronted
front_needed image e =
    let s = rules image e in
    let n = points_counted image s in
    let few : length (points_of image) ≤ 8 = omega (arith, s.few_points) in
    let some : 1 ≤ length (points_of image) = omega (arith, s.some_point) in
    rw (le-leb (length image) 65535 s.short, eq-eqb _ 1 s.version, eq-eqb _ 1 (has_head image s), le-leb 1 _ some, le-leb _ 8 few)

front_decides : (image : List ℕ) → fronted image ≡ true → orderly image ≡ sound_image image
unfolding fronted
front_decides image e =
    let version_on = and_right (leb (length image) 65535) _ e in
    let head_on = and_right (eqb (get_or image 0 0) 1) _ version_on in
    let points_on = and_right (eqb (kind_at image 1) 1) _ head_on in
    walk_decides image
    (leb-true (length image) 65535 (and_left (leb (length image) 65535) _ e))
    (eqb-true (get_or image 0 0) 1 (and_left (eqb (get_or image 0 0) 1) _ version_on))
    (eqb-true (kind_at image 1) 1 (and_left (eqb (kind_at image 1) 1) _ head_on))
    (leb-true 1 (length (points_of image)) (and_left (leb 1 (length (points_of image))) _ points_on))
    (leb-true (length (points_of image)) 8 (and_right (leb 1 (length (points_of image))) _ points_on))

pub front_and_walk : (image : List ℕ) → (fronted image && orderly image) ≡ sound_image image
front_and_walk image = by_test (fronted image) refl
  where
    by_test : (t : Bool) → fronted image ≡ t → (t && orderly image) ≡ sound_image image
    by_test true f = front_decides image f
    by_test false f = refuted _ (λ e. not_both f (front_needed image e))

-- each record of its kind, by itself
module _ (r : List ℕ) (e : right r ≡ true) where
  pub right_point : kind_of r ≡ 2 → 1 ≤ point_of r
  unfolding right
  right_point k = leb-true 1 (point_of r) (rw k at e)

  pub right_dates : kind_of r ≡ 3 → (valid_a (first_date r) ≡ true) × (valid_a (second_date r) ≡ true)
  unfolding right
  right_dates k =
      let both : (valid_a (first_date r) && valid_a (second_date r)) ≡ true = rw k at e in
      (and_left (valid_a (first_date r)) (valid_a (second_date r)) both, and_right (valid_a (first_date r)) (valid_a (second_date r)) both)

  pub right_reading : kind_of r ≡ 4 → (reading_record (record_address r) ≡ true) × (valid_a (reading_label r) ≡ true)
  unfolding right
  right_reading k =
      let both : (reading_record (record_address r) && valid_a (reading_label r)) ≡ true = rw k at e in
      (and_left (reading_record (record_address r)) (valid_a (reading_label r)) both, and_right (reading_record (record_address r)) (valid_a (reading_label r)) both)

  pub right_event : kind_of r ≡ 5 → (event_record (record_address r) ≡ true) × (valid_b (event_label r) ≡ true)
  unfolding right
  right_event k =
      let both : (event_record (record_address r) && valid_b (event_label r)) ≡ true = rw k at e in
      (and_left (event_record (record_address r)) (valid_b (event_label r)) both, and_right (event_record (record_address r)) (valid_b (event_label r)) both)

-- what callers use of a sound image
pub record Sound (image : List ℕ) : Type 0 where
  pub rules_hold : Rules image
  pub head_stands : kind_at image 1 ≡ 1
  pub head_alone : keep (is_kind 1) (records_of image) ≡ record_at image 1 ∷ []
  pub points_are : keep (is_kind 2) (records_of image) ≡ points_of image
  pub each_is_right : (n : ℕ) → n < length (records_of image) → right (get_or (records_of image) n []) ≡ true
  pub two_in_order : (i j : ℕ) → i < j → j < length (records_of image) → in_order (get_or (records_of image) i []) (get_or (records_of image) j []) ≡ true
  pub each_known : (n : ℕ) → n < length (records_of image) → knows (records_of image) (get_or (records_of image) n []) ≡ true

pub sound_facts : (image : List ℕ) → sound_image image ≡ true → Sound image
sound_facts image e =
    let s = rules image e in
    let rs = records_of image in
    let head = has_head image s in
    record {
      rules_hold = s;
      head_stands = head;
      head_alone = head_only image s.in_order head;
      points_are = all_points image s.in_order head;
      each_is_right = every_at right rs s.all_right;
      two_in_order = any_two rs s.in_order;
      each_known = every_at (knows rs) rs s.all_known;
    }
