-- An image has a fault exactly when it is not sound.
-- What no test of a record says of it; records without a fault, one behind the other, keep what a sound image asks; and a sound image leaves no
-- test to any of its records, since points stand before all that names them. Assumes nothing.
use Rattle.std.specs.Prelude.{Option, Some, None, is_some}
use Prim.Native.Nat.{ℕ, ◌+◌, ◌-◌, ◌≤◌, ◌<◌}
use mathlib.Core.Bool.{Bool, true, false, not, ◌&&◌, false≢true}
use mathlib.Core.List.{List, [], ◌∷◌, ◌++◌, flatten, append_assoc, append-nil}
use mathlib.Core.Path.{◌≡◌, refl, ap, sym, ◌∙◌}
use native.Mathlib.Omega.{arith}
use borrow.Author.Tests.{eqb-true, eqb-false, ltb-true, ltb-false, leb-true, leb-false, not-true, not-false, eq-eqb, ne_eqb, lt-ltb, le-ltb, le-leb, lt-leb}
use lib.Dec.{ltb, leb, eqb}
use lib.ListN.{length, get_or, drop, length-drop, length-take, get_or-eq_default}
use Rattle.octets.specs.Choice.{when◌then◌else◌}
use Rattle.octets.specs.Conditions.{holds}
use Rattle.octets.specs.First.{first_of◌else◌}
use Rattle.octets.proofs.Choice.{refuted, not_both}
use Rattle.octets.proofs.Conditions.{and_left, holds_at, holds_more, holds_none}
use Rattle.label.specs.Label.{valid_a, valid_b}
use Rattle.records.specs.Records.{kind_of}
use Rattle.records.specs.Said.{every, linked, keep, how_many}
use Rattle.records.proofs.Places.{lie, end_to_end}
use Rattle.records.proofs.Said.{every_so, keep_none}
use Rattle.fields.specs.Parts.{point_of, first_date, second_date, record_address, reading_label, event_label, is_kind, is_point}
use Rattle.fields.specs.Answers.{records_of}
use Rattle.image.specs.Image.{reading_record, event_record, right, in_order, knows, sound_image}
use Rattle.image.proofs.Known.{from_kind, head_once, head_first, head_kind, dates_at_most_once, points_2, kinds_2}
use Rattle.image.proofs.Soundness.{Rules, rules, has_head, right_point, right_dates, right_reading, right_event}
use Rattle.faults.specs.declared.ImageRule.{ImageRule}
use Rattle.faults.specs.declared.ImageFault.{ImageFault}
use Rattle.faults.specs.Images.{behind, own_rules, follows, record_rules, end_faults, faults_behind, fault_from, whole_faults, image_fault}
use Rattle.faults.specs.working.Walking.{headed, Fine}
use Rattle.faults.proofs.Named.{unrefused, refused_not, both, fails, Comes, quiet, loud, comes, passes, passed, named_first}
use Rattle.faults.proofs.Lists.{every_more, every_back, how_many_law, one_more, no_more, linked_more, linked_back, linked_follows, knows_more}

-- a fault of the record behind some records is one where a rule is broken
pub behind_some : (before : List (List ℕ)) (rule : Option ImageRule) → is_some (behind before rule) ≡ is_some rule
behind_some before (Some rule) = refl
behind_some before None = refl

some : (n : ℕ) → eqb n 0 ≡ false → 0 < n
some n e = let other : n ≡ 0 → ⊥ = eqb-false n 0 e in omega arith

-- a rule that asks something of some records: its test fails, and what it asks holds where it applies
lapsed : (t u : Bool) → not (t && u) ≡ true → t ≡ true → u ≡ false
lapsed true u h e = not-true u h
lapsed false u h e = absurd (false≢true e)

kept_to : (t u : Bool) → not (t && not u) ≡ true → t ≡ true → u ≡ true
kept_to t u h e = not-false u (lapsed t (not u) h e)

lapses : (t u : Bool) → (t ≡ true → u ≡ false) → not (t && u) ≡ true
lapses true u f = rw (f refl)
lapses false u f = refl

keeps_to : (t u : Bool) → (t ≡ true → u ≡ true) → not (t && not u) ≡ true
keeps_to t u f = lapses t (not u) (λ e. ap not (f e))

-- what it is that no test of a record holds
pub record Clear (before : List (List ℕ)) (r : List ℕ) : Type 0 where
  pub first_kind : length before ≡ 0 → kind_of r ≡ 1
  pub right_itself : right r ≡ true
  pub in_order : follows before r ≡ true
  pub few_points : kind_of r ≡ 2 → how_many (is_kind 2) before < 8
  pub behind_points : 3 ≤ kind_of r → 0 < how_many (is_kind 2) before
  pub point_known : knows before r ≡ true

module _ (before : List (List ℕ)) (r : List ℕ) where
  own_right : holds (fails (own_rules r)) ≡ true → right r ≡ true
  unfolding right
  own_right h = by_kinds (eqb (kind_of r) 2) (eqb (kind_of r) 3) (eqb (kind_of r) 4) (eqb (kind_of r) 5) refl refl refl refl
    where
      at : (i : ℕ) → get_or (fails (own_rules r)) i true ≡ true
      at = holds_at (fails (own_rules r)) h

      by_kinds : (t u v w : Bool) → eqb (kind_of r) 2 ≡ t → eqb (kind_of r) 3 ≡ u → eqb (kind_of r) 4 ≡ v → eqb (kind_of r) 5 ≡ w
          → (when t then leb 1 (point_of r) else
          when u then valid_a (first_date r) && valid_a (second_date r) else
          when v then reading_record (record_address r) && valid_a (reading_label r) else
          when w then event_record (record_address r) && valid_b (event_label r) else
          true) ≡ true
      by_kinds true u v w e f g k =
          let some : point_of r ≡ 0 → ⊥ = eqb-false (point_of r) 0 (lapsed (is_kind 2 r) (eqb (point_of r) 0) (at 0) e) in
          le-leb 1 (point_of r) (omega arith)
      by_kinds false true v w e f g k = both (kept_to (is_kind 3 r) (valid_a (first_date r)) (at 1) f) (kept_to (is_kind 3 r) (valid_a (second_date r)) (at 2) f)
      by_kinds false false true w e f g k = both (kept_to (is_kind 4 r) (reading_record (record_address r)) (at 3) g) (kept_to (is_kind 4 r) (valid_a (reading_label r)) (at 4) g)
      by_kinds false false false true e f g k = both (kept_to (is_kind 5 r) (event_record (record_address r)) (at 5) k) (kept_to (is_kind 5 r) (valid_b (event_label r)) (at 6) k)
      by_kinds false false false false e f g k = refl

  right_own : right r ≡ true → (rest : List Bool) → holds rest ≡ true
      → holds (not (is_kind 2 r && eqb (point_of r) 0)
      ∷ not (is_kind 3 r && not (valid_a (first_date r)))
      ∷ not (is_kind 3 r && not (valid_a (second_date r)))
      ∷ not (is_kind 4 r && not (reading_record (record_address r)))
      ∷ not (is_kind 4 r && not (valid_a (reading_label r)))
      ∷ not (is_kind 5 r && not (event_record (record_address r)))
      ∷ not (is_kind 5 r && not (valid_b (event_label r)))
      ∷ rest) ≡ true
  right_own e rest h =
      holds_more _ (lapses (is_kind 2 r) _ (λ k. ne_eqb (point_of r) 0 (λ z. omega (arith, right_point r e (eqb-true _ 2 k)))))
      (holds_more _ (keeps_to (is_kind 3 r) _ (λ k. (right_dates r e (eqb-true _ 3 k)).0))
      (holds_more _ (keeps_to (is_kind 3 r) _ (λ k. (right_dates r e (eqb-true _ 3 k)).1))
      (holds_more _ (keeps_to (is_kind 4 r) _ (λ k. (right_reading r e (eqb-true _ 4 k)).0))
      (holds_more _ (keeps_to (is_kind 4 r) _ (λ k. (right_reading r e (eqb-true _ 4 k)).1))
      (holds_more _ (keeps_to (is_kind 5 r) _ (λ k. (right_event r e (eqb-true _ 5 k)).0))
      (holds_more rest (keeps_to (is_kind 5 r) _ (λ k. (right_event r e (eqb-true _ 5 k)).1)) h))))))

  pub clear : holds (fails (record_rules before r)) ≡ true → Clear before r
  clear h =
      let at : (i : ℕ) → get_or (fails (record_rules before r)) i true ≡ true = holds_at (fails (record_rules before r)) h in
      record {
        first_kind = λ e. eqb-true (kind_of r) 1 (kept_to (eqb (length before) 0) (is_kind 1 r) (at 0) (eq-eqb _ _ e));
        right_itself = own_right (holds_more _ (at 1) (holds_more _ (at 2) (holds_more _ (at 3) (holds_more _ (at 4) (holds_more _ (at 5) (holds_more _ (at 6) (holds_more _ (at 7) holds_none)))))));
        in_order = unrefused _ (at 8);
        few_points = λ k. leb-false 8 _ (lapsed (is_kind 2 r) _ (at 9) (eq-eqb _ _ k));
        behind_points = λ k. some _ (lapsed (leb 3 (kind_of r)) _ (at 10) (le-leb _ _ k));
        point_known = unrefused _ (at 11);
      }

  pub cleared : Clear before r → holds (fails (record_rules before r)) ≡ true
  cleared c =
      holds_more _ (keeps_to (eqb (length before) 0) (is_kind 1 r) (λ e. eq-eqb _ _ (c.first_kind (eqb-true _ _ e))))
      (right_own c.right_itself _
      (holds_more _ (refused_not c.in_order)
      (holds_more _ (lapses (is_kind 2 r) _ (λ e. lt-leb 8 _ (c.few_points (eqb-true _ _ e))))
      (holds_more _ (lapses (leb 3 (kind_of r)) _ (λ e. ne_eqb (how_many (is_kind 2) before) 0 (λ z. omega (arith, c.behind_points (leb-true 3 (kind_of r) e)))))
      (holds_more _ (refused_not c.point_known) holds_none)))))

-- records without a fault, and one more
pub none_fine : Fine []
unfolding every linked how_many keep
none_fine = record { each_right = refl; ordered = refl; first_headed = refl; few = omega arith; each_known = refl }

module _ (before : List (List ℕ)) (r : List ℕ) (f : Fine before) (c : Clear before r) where
  still_headed : headed (before ++ (r ∷ [])) ≡ true
  still_headed = by_front before f.first_headed c.first_kind
    where
      by_front : (before : List (List ℕ)) → headed before ≡ true → (length before ≡ 0 → kind_of r ≡ 1) → headed (before ++ (r ∷ [])) ≡ true
      by_front [] h k = eq-eqb _ _ (k refl)
      by_front (q ∷ qs) h k = h

  still_few : how_many (is_kind 2) (before ++ (r ∷ [])) ≤ 8
  still_few = by_test (is_kind 2 r) refl
    where
      by_test : (t : Bool) → is_kind 2 r ≡ t → how_many (is_kind 2) (before ++ (r ∷ [])) ≤ 8
      by_test true e = omega (arith, how_many_law (is_kind 2) before (r ∷ []), one_more (is_kind 2) r e, c.few_points (eqb-true _ _ e))
      by_test false e = omega (arith, how_many_law (is_kind 2) before (r ∷ []), no_more (is_kind 2) r e, f.few)

  pub still_fine : Fine (before ++ (r ∷ []))
  still_fine =
      record {
        each_right = every_more right before r f.each_right c.right_itself;
        ordered = linked_more before r f.ordered c.in_order;
        first_headed = still_headed;
        few = still_few;
        each_known =
            every_more (knows (before ++ (r ∷ []))) before r
            (every_so (knows before) (knows (before ++ (r ∷ []))) (λ q e. knows_more before (r ∷ []) q e) before f.each_known)
            (knows_more before (r ∷ []) r c.point_known);
      }

-- what the end of the records says where it is not at fault
pub record Ended (image : List ℕ) (rs : List (List ℕ)) : Type 0 where
  pub none_left : length image ≤ 1 + length (flatten rs)
  pub some_record : 0 < length rs
  pub some_point : 0 < how_many (is_kind 2) rs

module _ (image : List ℕ) (before : List (List ℕ)) where
  abbrev left : List ℕ
  left = drop (1 + length (flatten before)) image

  ended : is_some (first_of end_faults image before else None) ≡ false → Ended image before
  ended e =
      let h = passed is_some (end_faults image before) (None) refl e in
      let at : (i : ℕ) → get_or (fails (end_faults image before)) i true ≡ true = holds_at (fails (end_faults image before)) h in
      record {
        none_left = omega (arith, ltb-false 0 (length left) (not-true _ (at 0)), length-drop (1 + length (flatten before)) image);
        some_record = some _ (not-true _ (at 1));
        some_point = some _ (not-true _ (at 2));
      }

  not_ended : Ended image before → (first_of end_faults image before else None) ≡ None
  not_ended d =
      passes (end_faults image before) (None)
      (holds_more _ (ap not (le-ltb 0 (length left) (omega (arith, d.none_left, length-drop (1 + length (flatten before)) image))))
      (holds_more _ (ap not (ne_eqb (length before) 0 (λ z. omega (arith, d.some_record))))
      (holds_more _ (ap not (ne_eqb (how_many (is_kind 2) before) 0 (λ z. omega (arith, d.some_point)))) holds_none)))

-- no fault is found: the records are fine to their end
pub all_fine : (image : List ℕ) (before rs : List (List ℕ)) → Fine before → is_some (fault_from image before rs) ≡ false → Fine (before ++ rs) × Ended image (before ++ rs)
unfolding fault_from
all_fine image before [] f e = rw (append-nil before) (f, ended image before e)
all_fine image before (r ∷ rs) f e =
    by_way (λ f' e'. rw (append_assoc before (r ∷ []) rs) at (all_fine image (before ++ (r ∷ [])) rs f' e'))
    (comes is_some (record_rules before r) None refl)
  where
    other : Option ImageFault
    other = fault_from image (before ++ (r ∷ [])) rs

    by_way : (Fine (before ++ (r ∷ [])) → is_some other ≡ false → Fine (before ++ (r ∷ rs)) × Ended image (before ++ (r ∷ rs)))
        → Comes is_some (record_rules before r) None → Fine (before ++ (r ∷ rs)) × Ended image (before ++ (r ∷ rs))
    by_way rest (quiet all) =
        rest (still_fine before r f (clear before r all)) (rw (passes (faults_behind before (record_rules before r)) other all) at e)
    by_way rest (loud named) =
        absurd (not_both (sym (behind_some before _) ∙ rw (named_first is_some (behind before) (record_rules before r) None other refl named) at e) named)

-- the records of an image lie within it
within : (image : List ℕ) → length (flatten (records_of image)) ≤ length image - 1
unfolding records_of
within image =
    let rs = records_of image in
    omega (arith, ap length (end_to_end (lie image 1)), length-take (length (flatten rs)) (drop 1 image), length-drop 1 image)

one_head : (rs : List (List ℕ)) → 0 < length rs → Fine rs → how_many (is_kind 1) rs ≡ 1
unfolding how_many
one_head [] h f = absurd (omega arith)
one_head (r ∷ rs) h f = ap length (head_once r rs f.ordered (eqb-true (kind_of r) 1 f.first_headed))

module _ (image : List ℕ) where
  -- the records are fine to their end: the image is sound
  sound_so : length image ≤ 65535 → get_or image 0 0 ≡ 1 → Fine (records_of image) → Ended image (records_of image) → sound_image image ≡ true
  unfolding sound_image
  sound_so short version f d =
      let rs = records_of image in
      let least : 0 < length image = at_least (length image) (get_or-eq_default image 0 {n = 0}) in
      let reaches : 1 + length (flatten rs) ≡ length image = omega (arith, d.none_left, within image) in
      holds_more _ (le-leb _ _ short)
      (holds_more _ (eq-eqb _ _ version)
      (holds_more _ (eq-eqb _ _ reaches)
      (holds_more _ (eq-eqb _ _ (one_head rs d.some_record f))
      (holds_more _ (le-leb _ _ d.some_point)
      (holds_more _ (le-leb _ _ f.few)
      (holds_more _ (le-leb _ _ (dates_at_most_once rs f.ordered))
      (holds_more _ f.each_right (holds_more _ f.ordered (holds_more _ f.each_known holds_none)))))))))
    where
      at_least : (n : ℕ) → (n ≤ 0 → get_or image 0 0 ≡ 0) → 0 < n
      at_least n z = by_test (ltb 0 n) refl
        where
          by_test : (t : Bool) → ltb 0 n ≡ t → 0 < n
          by_test true e = ltb-true 0 n e
          by_test false e = absurd (omega (arith, z (ltb-false 0 n e)))

  -- an image without a fault is sound
  pub no_fault_sound : image_fault image ≡ None → sound_image image ≡ true
  unfolding image_fault
  no_fault_sound e = by_way (comes is_some (whole_faults image) (fault_from image [] (records_of image)) refl)
    where
      by_way : Comes is_some (whole_faults image) (fault_from image [] (records_of image)) → sound_image image ≡ true
      by_way (quiet all) =
          let at : (i : ℕ) → get_or (fails (whole_faults image)) i true ≡ true = holds_at (fails (whole_faults image)) all in
          let none = ap is_some (rw (passes (whole_faults image) (fault_from image [] (records_of image)) all) at e) in
          let found = all_fine image [] (records_of image) none_fine none in
          sound_so (ltb-false 65535 (length image) (not-true _ (at 0))) (eqb-true _ _ (unrefused _ (at 1))) found.0 found.1
      by_way (loud named) = absurd (not_both (ap is_some e) named)

-- where an image is sound, each of its records passes
none_later : (f : List ℕ → Bool) → ((q : List ℕ) → f q ≡ true → kind_of q ≡ 2) → (r : List ℕ) (rs : List (List ℕ)) → linked in_order (r ∷ rs) ≡ true
    → 3 ≤ kind_of r → how_many f (r ∷ rs) ≡ 0
unfolding how_many every
none_later f point_only r rs l h =
    ap length (keep_none f (λ q. leb 3 (kind_of q)) (λ q e. sym (refuted (f q) (λ p. omega (arith, point_only q p, leb-true 3 (kind_of q) e)))) (r ∷ rs)
    (rw (le-leb 3 (kind_of r) h, from_kind r rs l 3 h)))

headed_first : (before : List (List ℕ)) (r : List ℕ) (rs : List (List ℕ)) → headed (before ++ (r ∷ rs)) ≡ true → length before ≡ 0 → kind_of r ≡ 1
headed_first [] r rs h z = eqb-true (kind_of r) 1 h
headed_first (q ∷ before) r rs h z = absurd (omega arith)

known_before : (before : List (List ℕ)) (r : List ℕ) (rs : List (List ℕ)) → linked in_order (r ∷ rs) ≡ true → knows (before ++ (r ∷ rs)) r ≡ true → knows before r ≡ true
unfolding knows
known_before before r rs l e = by_test (leb 4 (kind_of r)) refl e
  where
    by_test : (t : Bool) → leb 4 (kind_of r) ≡ t → (when t then ltb 0 (how_many (is_point (point_of r)) (before ++ (r ∷ rs))) else true) ≡ true
        → (when t then ltb 0 (how_many (is_point (point_of r)) before) else true) ≡ true
    by_test true k h =
        let none = none_later (is_point (point_of r)) (points_2 (point_of r)) r rs l (omega (arith, leb-true 4 (kind_of r) k)) in
        lt-ltb 0 (how_many (is_point (point_of r)) before)
        (omega (arith, ltb-true 0 (how_many (is_point (point_of r)) (before ++ (r ∷ rs))) h, how_many_law (is_point (point_of r)) before (r ∷ rs)))
    by_test false k h = refl

module _ (image : List ℕ) (s : Rules image) where
  all_headed : headed (records_of image) ≡ true
  all_headed =
      let k = has_head image s in
      rw (head_first image s.in_order k) (eq-eqb _ _ (head_kind image s.in_order k))

  all_ended : Ended image (records_of image)
  all_ended =
      record {
        none_left = omega (arith, s.reaches);
        some_record = omega (arith, ap length (head_first image s.in_order (has_head image s)));
        some_point = s.some_point;
      }

  clear_there : (before : List (List ℕ)) (r : List ℕ) (rs : List (List ℕ)) → before ++ (r ∷ rs) ≡ records_of image → Clear before r
  unfolding every
  clear_there before r rs e =
      let order : linked in_order (before ++ (r ∷ rs)) ≡ true = rw e s.in_order in
      let tail = linked_back before (r ∷ rs) order in
      let points : how_many (is_kind 2) before + how_many (is_kind 2) (r ∷ rs) ≡ how_many (is_kind 2) (records_of image) =
      sym (how_many_law (is_kind 2) before (r ∷ rs)) ∙ ap (how_many (is_kind 2)) e in
      record {
        first_kind = headed_first before r rs (rw e all_headed);
        right_itself = and_left (right r) (every right rs) (every_back right before (r ∷ rs) (rw e s.all_right));
        in_order = linked_follows before r rs order;
        few_points = λ k. omega (arith, s.few_points, how_many_law (is_kind 2) (r ∷ []) rs, one_more (is_kind 2) r (eq-eqb _ _ k));
        behind_points = λ k. omega (arith, s.some_point, none_later (is_kind 2) kinds_2 r rs tail k);
        point_known =
            known_before before r rs tail
            (and_left (knows (before ++ (r ∷ rs)) r) (every (knows (before ++ (r ∷ rs))) rs)
            (every_back (knows (before ++ (r ∷ rs))) before (r ∷ rs) (rw e s.all_known)));
      }

  none_found : (before rs : List (List ℕ)) → before ++ rs ≡ records_of image → fault_from image before rs ≡ None
  unfolding fault_from
  none_found before [] e = let same : before ≡ records_of image = sym (append-nil before) ∙ e in not_ended image before (rw same all_ended)
  none_found before (r ∷ rs) e =
      passes (faults_behind before (record_rules before r)) (fault_from image (before ++ (r ∷ [])) rs) (cleared before r (clear_there before r rs e))
      ∙ none_found (before ++ (r ∷ [])) rs (append_assoc before (r ∷ []) rs ∙ e)

-- a sound image has no fault
pub sound_no_fault : (image : List ℕ) → sound_image image ≡ true → image_fault image ≡ None
unfolding image_fault
sound_no_fault image e =
    let s = rules image e in
    passes (whole_faults image) (fault_from image [] (records_of image))
    (holds_more _ (ap not (le-ltb 65535 (length image) s.short)) (holds_more _ (refused_not (eq-eqb _ _ s.version)) holds_none))
    ∙ none_found image s [] (records_of image) refl
