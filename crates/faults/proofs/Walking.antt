-- The walk over an image's records, step by step: what the record where it stands breaks is what its definition says, given the records before; one
-- record further the walk stands again; and at the end of the records the end decides.
-- Points stand behind the first record one after the other, so that one found there is one before any reading or event. Assumes nothing.
use Rattle.std.specs.Prelude.{Option, Some, None, is_some, MatchOption}
use Prim.Native.Nat.{ℕ, ◌+◌, ◌≤◌, ◌<◌}
use mathlib.Core.Bool.{Bool, true, false, not, ◌&&◌}
use mathlib.Core.List.{List, [], ◌∷◌, ◌++◌, flatten, append_assoc}
use mathlib.Core.Path.{◌≡◌, refl, ap, sym, ◌∙◌}
use native.Mathlib.Omega.{arith}
use borrow.Author.Tests.{eqb-true, eqb-false, ltb-true, ltb-false, leb-true, eq-eqb, ne_eqb, lt-ltb, le-ltb, le-leb}
use lib.Dec.{ltb, leb, eqb}
use lib.ListN.{length, get_or, take, drop, length-append, length-drop, length-take}
use lib.Seq.{get_or-take}
use Rattle.octets.specs.Choice.{when◌then◌else◌}
use Rattle.octets.specs.First.{first_of◌else◌}
use Rattle.octets.specs.Numbers.{high_first}
use Rattle.octets.proofs.Choice.{if_both}
use Rattle.octets.proofs.Lists.{part_at}
use Rattle.octets.proofs.Outcome.{never}
use Rattle.records.specs.Records.{length_of, kind_of, whole_at, record_at, records_from, place_after}
use Rattle.records.specs.Said.{keep, how_many}
use Rattle.records.proofs.Records.{whole_facts, whole_itself, from_end, from_more, after_whole, after_later, kind_whole, kind_there}
use Rattle.fields.specs.declared.Key.{Key}
use Rattle.fields.specs.Parts.{point_of, is_kind, is_point}
use Rattle.fields.specs.working.Key.{key_of, key_at}
use Rattle.fields.specs.Answers.{records_of, leading, points_from, points_of, point_found}
use Rattle.fields.proofs.Parts.{key_whole}
use Rattle.image.specs.Image.{knows}
use Rattle.image.specs.working.Keys.{keys_in_order, known_in}
use Rattle.image.proofs.Keys.{order_keys, same_kind}
use Rattle.image.proofs.Known.{known_keys, known_high, found_point, points_behind, points_2}
use Rattle.faults.specs.declared.ImageRule.{ImageRule}
use Rattle.faults.specs.declared.ImageRule.TheVariants.{FirstKind, OutOfOrder, Kind, Length, Cut, NoRecord, NoPoint, UnknownPoint}
use Rattle.faults.specs.declared.Walk.{Walk}
use Rattle.faults.specs.Images.{of_whole, behind, own_rules, follows, record_rules, record_rule, broken_rule, end_faults, faults_behind, fault_from}
use Rattle.faults.specs.working.Walking.{own_rule, point_rule, place_rule, point_rules, Fine, Stage, further, fault_there, Standing}
use Rattle.faults.proofs.Named.{Comes, quiet, loud, comes, passes, passed, named_first}
use Rattle.faults.proofs.Lists.{how_many_law, one_more, no_more, follows_last, flatten_more}
use Rattle.faults.proofs.Soundness.{clear, none_fine, still_fine}

-- the first record, or the last before another
pub first_follows : (before : List (List ℕ)) (r : List ℕ) → length before ≡ 0 → true ≡ follows before r
unfolding follows
first_follows [] r z = refl
first_follows (q ∷ before) r z = absurd (omega arith)

-- what is behind the first of some records
abbrev behind_first : List (List ℕ) → List (List ℕ)
behind_first [] = []
behind_first (r ∷ rs) = rs

leading_front : (f : List ℕ → Bool) (rs : List (List ℕ)) (r : List ℕ) (qs : List (List ℕ)) → f r ≡ false → leading f (rs ++ (r ∷ qs)) ≡ leading f rs
unfolding leading
leading_front f [] r qs e = rw e
leading_front f (q ∷ rs) r qs e =
    let rest = leading_front f rs r qs e in
    if_both (λ (x y : List (List ℕ)). x ≡ y) (f q) (λ t. ap (q ∷◌) rest) (λ t. refl)

module _ (image : List ℕ) (before : List (List ℕ)) (walk : Walk) (s : Stage image before walk) where
  pub follow_keys : (last key : Key) → (walk.passed ≡ 0 → ⊥) → last ≡ key_at image walk.last → key ≡ key_of (record_at image walk.at)
      → keys_in_order last key ≡ follows before (record_at image walk.at)
  follow_keys last key n l k =
      let some : 0 < length before = omega (arith, s.counted) in
      let q = record_at image walk.last in
      rw (l, k, key_whole image walk.last (s.last_whole some))
      (sym (order_keys q (record_at image walk.at)) ∙ sym (s.last_one some (record_at image walk.at)))

  module _ (w : whole_at image walk.at ≡ true) where
    abbrev r : List ℕ
    r = record_at image walk.at

    abbrev rest : List (List ℕ)
    rest = records_from image (place_after image walk.at)

    abbrev more : List (List ℕ)
    more = before ++ (r ∷ [])

    all_records : records_of image ≡ before ++ (r ∷ rest)
    all_records = s.split ∙ ap (before ++◌) (from_more image walk.at w)

    -- behind the first record stand the points
    points_there : (q : List ℕ) (qs : List (List ℕ)) → before ≡ q ∷ qs → is_kind 2 r ≡ false → points_of image ≡ leading (is_kind 2) qs
    unfolding points_of points_from records_of
    points_there q qs b k = by_test (whole_at image 1) refl
      where
        all : records_from image 1 ≡ q ∷ (qs ++ (r ∷ rest))
        all = all_records ∙ ap (◌++ (r ∷ rest)) b

        by_test : (t : Bool) → whole_at image 1 ≡ t → leading (is_kind 2) (records_from image (place_after image 1)) ≡ leading (is_kind 2) qs
        by_test true e =
            ap (leading (is_kind 2)) (ap behind_first (sym (from_more image 1 e) ∙ all)) ∙ leading_front (is_kind 2) qs r rest k
        by_test false e = absurd (omega (arith, ap length (sym (from_end image 1 e) ∙ all)))

    known_there : 4 ≤ kind_of r → 0 < how_many (is_kind 2) before → known_in (points_of image) r ≡ knows before r
    unfolding known_in knows how_many keep
    known_there h some = by_front before refl s.fine
      where
        by_front : (bs : List (List ℕ)) → before ≡ bs → Fine before → known_in (points_of image) r ≡ knows before r
        by_front [] b f = absurd (omega (arith, ap (how_many (is_kind 2)) b))
        by_front (q ∷ qs) b f =
            let a = point_of r in
            let kind : kind_of q ≡ 1 = eqb-true (kind_of q) 1 (rw b at f.first_headed) in
            rw (le-leb 4 (kind_of r) h, points_there q qs b (ne_eqb (kind_of r) 2 (λ e. omega arith)))
            (found_point a 1 qs
            ∙ ap (λ (ps : List (List ℕ)). ltb 0 (length ps)) (sym (points_behind q qs (rw b at f.ordered) kind (is_point a) (points_2 a)))
            ∙ ap (λ (bs : List (List ℕ)). ltb 0 (how_many (is_point a) bs)) (sym b))

    -- by the points before it
    pub point_there : (key : Key) → key ≡ key_of r → point_rule key.kind walk.points (is_some (point_found key.point image)) ≡ (first_of point_rules before r else None)
    unfolding point_rule
    point_there key k =
        rw (same_kind r key k, s.points_counted)
        (if_both (λ (x y : Option ImageRule). x ≡ y) (is_kind 2 r && leb 8 n) (λ t. refl) (λ t.
        if_both (λ (x y : Option ImageRule). x ≡ y) (leb 3 (kind_of r) && eqb n 0) (λ u. refl) (λ u. ap (λ (v : Bool). when v then Some UnknownPoint else None) (last_test u))))
      where
        n : ℕ
        n = how_many (is_kind 2) before

        last_test : (leb 3 (kind_of r) && eqb (how_many (is_kind 2) before) 0) ≡ false
            → (leb 4 (kind_of r) && not (is_some (point_found key.point image))) ≡ not (knows before r)
        last_test u = by_test (leb 4 (kind_of r)) refl
          where
            by_test : (t : Bool) → leb 4 (kind_of r) ≡ t → (t && not (is_some (point_found key.point image))) ≡ not (knows before r)
            by_test true e =
                let h = leb-true 4 (kind_of r) e in
                let other : how_many (is_kind 2) before ≡ 0 → ⊥ = eqb-false (how_many (is_kind 2) before) 0 (rw (le-leb 3 (kind_of r) (omega arith)) at u) in
                ap not
                (known_high image key (rw (same_kind r key k) h) (point_found key.point image) refl
                ∙ rw k (known_keys (points_of image) r (whole_facts r (whole_itself image walk.at w)))
                ∙ known_there h (omega arith))
            by_test false e = sym (unfold knows in rw e)

    -- the same by all that stands before it
    pub place_order : follows before r ≡ false → Some OutOfOrder ≡ place_rule before r
    unfolding place_rule
    place_order e = sym (rw e)

    pub place_points : follows before r ≡ true → (first_of point_rules before r else None) ≡ place_rule before r
    unfolding place_rule
    place_points e = sym (rw e)

    -- and by all: the first record, each by itself, then by its place
    module _ (key : Key) (k : key ≡ key_of r) where
      headless : (eqb walk.passed 0 && not (eqb key.kind 1)) ≡ (eqb (length before) 0 && not (is_kind 1 r))
      headless = rw (s.counted, same_kind r key k)

      pub rule_head : (eqb walk.passed 0 && not (eqb key.kind 1)) ≡ true → Some FirstKind ≡ record_rule before r
      unfolding record_rule
      rule_head e = sym (rw (sym headless ∙ e))

      module _ (h : (eqb walk.passed 0 && not (eqb key.kind 1)) ≡ false) where
        pub rule_rest : (own rule : Option ImageRule) → own ≡ own_rule r → MatchOption own (rule ≡ place_rule before r) (λ broken. rule ≡ Some broken)
            → rule ≡ record_rule before r
        unfolding record_rule own_rule place_rule
        rule_rest own rule o m = by_way own o m (comes is_some (own_rules r) None refl)
          where
            by_way : (own : Option ImageRule) → own ≡ own_rule r → MatchOption own (rule ≡ place_rule before r) (λ broken. rule ≡ Some broken)
                → Comes is_some (own_rules r) None → rule ≡ record_rule before r
            by_way None o m way =
                m ∙ sym (rw (sym headless ∙ h) (passes (own_rules r) (place_rule before r) (passed is_some (own_rules r) None refl (ap is_some (sym o)))))
            by_way (Some broken) o m (quiet all) = let none : Some broken ≡ None = o ∙ passes (own_rules r) None all in absurd (never (cc))
            by_way (Some broken) o m (loud named) =
                m ∙ o
                ∙ sym (rw (sym headless ∙ h) (named_first is_some (λ (rule : Option ImageRule). rule) (own_rules r) None (place_rule before r) refl named))

    -- one record further
    points_further : (further image walk).points ≡ how_many (is_kind 2) more
    unfolding further
    points_further = rw (kind_whole image walk.at w ∙ sym (kind_there image walk.at w)) (by_test (is_kind 2 r) refl)
      where
        by_test : (t : Bool) → is_kind 2 r ≡ t → (when t then walk.points + 1 else walk.points) ≡ how_many (is_kind 2) more
        by_test true e = omega (arith, s.points_counted, how_many_law (is_kind 2) before (r ∷ []), one_more (is_kind 2) r e)
        by_test false e = omega (arith, s.points_counted, how_many_law (is_kind 2) before (r ∷ []), no_more (is_kind 2) r e)

    further_stage : record_rule before r ≡ None → Stage image more (further image walk)
    unfolding record_rule further
    further_stage e =
        record {
          counted = omega (arith, s.counted, length-append before (r ∷ []));
          points_counted = points_further;
          place = omega (arith, s.place, after_whole image walk.at w, flatten_more before r);
          small = omega (arith, s.small, after_later image walk.at w);
          split = all_records ∙ sym (append_assoc before (r ∷ []) rest);
          last_whole = λ some. w;
          last_one = λ some q. follows_last before r q;
          fine = still_fine before r s.fine (clear before r (passed is_some (record_rules before r) None refl (ap is_some e)));
        }

    module _ (d : fault_from image before (records_from image walk.at) ≡ fault_from image [] (records_of image)) where
      from_here : (first_of faults_behind before (record_rules before r) else fault_from image more rest) ≡ fault_from image [] (records_of image)
      unfolding fault_from
      from_here = rw (from_more image walk.at w) at d

      pub stands_further : record_rule before r ≡ None → Standing image (further image walk)
      unfolding record_rule further
      stands_further e =
          let all = passed is_some (record_rules before r) None refl (ap is_some e) in
          record {
            before = more;
            stage = further_stage e;
            decides = sym (passes (faults_behind before (record_rules before r)) (fault_from image more rest) all) ∙ from_here;
          }

      -- the record is at fault
      pub found_there : (rule : ImageRule) → Some rule ≡ record_rule before r → Some (fault_there walk rule) ≡ fault_from image [] (records_of image)
      unfolding record_rule
      found_there rule e = by_way (comes is_some (record_rules before r) None refl)
        where
          by_way : Comes is_some (record_rules before r) None
              → Some (fault_there walk rule) ≡ fault_from image [] (records_of image)
          by_way (quiet all) = let none : Some rule ≡ None = e ∙ passes (record_rules before r) None all in absurd (never (cc))
          by_way (loud named) =
              let here : Some (fault_there walk rule) ≡ behind before (Some rule) = rw (s.counted, s.place) in
              here ∙ ap (behind before) e
              ∙ (sym (named_first is_some (behind before) (record_rules before r) None (fault_from image more rest) refl named) ∙ from_here)

  -- at the end of the records
  pub end_there : whole_at image walk.at ≡ false → fault_from image before (records_from image walk.at) ≡ fault_from image [] (records_of image)
      → (first_of end_faults image before else None) ≡ fault_from image [] (records_of image)
  unfolding fault_from
  end_there e d = rw (from_end image walk.at e) at d

  pub end_left : walk.at < length image → (rule : ImageRule) → rule ≡ broken_rule (drop walk.at image)
      → Some (fault_there walk rule) ≡ (first_of end_faults image before else None)
  end_left h rule e =
      rw (e, s.counted, s.place)
      (sym (rw (lt-ltb 0 (length (drop (1 + length (flatten before)) image)) (omega (arith, s.place, length-drop (1 + length (flatten before)) image)))))

  module _ (h : length image ≤ walk.at) where
    none_left : ltb 0 (length (drop (1 + length (flatten before)) image)) ≡ false
    none_left = le-ltb 0 (length (drop (1 + length (flatten before)) image)) (omega (arith, s.place, length-drop (1 + length (flatten before)) image))

    pub end_empty : walk.passed ≡ 0 → of_whole NoRecord ≡ (first_of end_faults image before else None)
    end_empty z = sym (rw (none_left, eq-eqb (length before) 0 (sym s.counted ∙ z)))

    module _ (some : walk.passed ≡ 0 → ⊥) where
      pub end_pointless : walk.points ≡ 0 → of_whole NoPoint ≡ (first_of end_faults image before else None)
      end_pointless z =
          sym (rw (none_left, ne_eqb (length before) 0 (λ e. some (s.counted ∙ e)), eq-eqb (how_many (is_kind 2) before) 0 (sym s.points_counted ∙ z)))

      pub end_none : (walk.points ≡ 0 → ⊥) → None ≡ (first_of end_faults image before else None)
      end_none n =
          sym (rw (
            none_left,
            ne_eqb (length before) 0 (λ e. some (s.counted ∙ e)),
            ne_eqb (how_many (is_kind 2) before) 0 (λ e. n (s.points_counted ∙ e)),
          ))

-- where the walk begins
pub begins : (image : List ℕ) → Standing image (record { passed = 0; points = 0; last = 0; at = 1 })
unfolding records_of how_many keep flatten
begins image =
    record {
      before = [];
      stage =
          record {
            counted = refl;
            points_counted = refl;
            place = refl;
            small = omega arith;
            split = refl;
            last_whole = λ some. absurd (omega arith);
            last_one = λ some. absurd (omega arith);
            fine = none_fine;
          };
      decides = refl;
    }

-- octets that are no whole record, by the first three of them
module _ (s first : List ℕ) (e : first ≡ take 3 s) where
  pub cut_short : (length first ≡ 3 → ⊥) → Cut ≡ broken_rule s
  unfolding broken_rule
  cut_short n = let few : length s < 3 = by_test (ltb (length s) 3) refl in sym (rw (lt-ltb (length s) 3 few))
    where
      by_test : (t : Bool) → ltb (length s) 3 ≡ t → length s < 3
      by_test true h = ltb-true (length s) 3 h
      by_test false h = absurd (n (omega (arith, ap length e, length-take 3 s, ltb-false (length s) 3 h)))

  module _ (l : length first ≡ 3) (n : ℕ) (k : n ≡ length_of (get_or first 2 0)) where
    room : 3 ≤ length s
    room = omega (arith, ap length e, length-take 3 s)

    long_enough : ltb (length s) 3 ≡ false
    long_enough = le-ltb (length s) 3 room

    same : (i : ℕ) → i < 3 → get_or first i 0 ≡ get_or s i 0
    same i h = rw e (get_or-take 3 s i 0 h)

    length_is : length_of (kind_of s) ≡ n
    length_is = sym (k ∙ ap length_of (same 2 (omega arith)))

    two_first : take 2 s ≡ get_or first 0 0 ∷ get_or first 1 0 ∷ []
    two_first = part_at 2 s 0 (omega (arith, room)) ∙ rw (same 0 (omega arith), same 1 (omega arith))

    pub no_kind : n ≡ 0 → Kind ≡ broken_rule s
    unfolding broken_rule
    no_kind z = sym (rw (long_enough, length_is, z))

    module _ (some : n ≡ 0 → ⊥) where
      pub other_length : (high_first (get_or first 0 0 ∷ get_or first 1 0 ∷ []) ≡ n → ⊥) → Length ≡ broken_rule s
      unfolding broken_rule
      other_length d = sym (rw (long_enough, length_is, two_first, ne_eqb n 0 some, ne_eqb _ n d))

      pub cut_behind : high_first (get_or first 0 0 ∷ get_or first 1 0 ∷ []) ≡ n → Cut ≡ broken_rule s
      unfolding broken_rule
      cut_behind d = sym (rw (long_enough, length_is, two_first, ne_eqb n 0 some, eq-eqb _ n d))
