-- What callers use of a choice: what is found is the n-th chosen and has its room, a caller goes on from the place after it, other points'
-- records do not matter, and a range splits at any instant. By recursion on the records. Assumes nothing.
use Rattle.std.specs.Prelude.{Some, None}
use Prim.Native.Nat.{ℕ, zero, suc, ◌+◌, ◌≤◌, ◌<◌}
use mathlib.Core.Bool.{Bool, true, false}
use mathlib.Core.List.{List, [], ◌∷◌}
use mathlib.Core.Path.{◌≡◌, refl, ap, sym, ◌∙◌}
use native.Mathlib.Omega.{arith}
use lib.Dec.{leb, eqb}
use lib.ListN.{length, get_or}
use Rattle.octets.specs.Choice.{when◌then◌else◌}
use Rattle.octets.proofs.Choice.{either}
use Rattle.octets.proofs.Conditions.{and_left, and_right}
use Rattle.records.specs.Records.{length_of, kind_of, whole_at, record_at, records_from, place_after}
use Rattle.records.specs.Said.{keep, how_many, places_of}
use Rattle.records.proofs.Records.{stands_facts, kind_there, after_whole}
use Rattle.records.proofs.Said.{keep_within}
use Rattle.records.proofs.Places.{Lie, lie, none, one, lie_is, Hit, nth_hit, as_many_places}
use Rattle.fields.specs.Parts.{point_of, is_kind}
use Rattle.fields.specs.Answers.{records_of}
use Rattle.fields.specs.Calls.{value_found, event_found}
use Rattle.fields.proofs.Answers.{value_same, event-same}
use Rattle.choice.specs.declared.Span.{Span}
use Rattle.choice.specs.declared.Query.{Query}
use Rattle.choice.specs.declared.Query.TheVariants.{Reading, Event}
use Rattle.choice.specs.Choice.{in_span, chosen, choice, readings_of}
use Rattle.choice.specs.Calls.{places_from, nth_place}

-- the n-th of a list, or that it has no more
at_nth : (n : ℕ) (ps : List ℕ) (p : ℕ) → nth_place n ps ≡ Some p → (n < length ps) × (get_or ps n 0 ≡ p)
unfolding nth_place
at_nth n [] p e = let z : ◌≡◌ {A = ℕ} 0 1 = cc in absurd (omega arith)
at_nth zero (q ∷ ps) p e = (omega arith, cc)
at_nth (suc n) (q ∷ ps) p e = let rest = at_nth n ps p e in (omega arith, rest.1)

pub nothing_nth : (n : ℕ) (ps : List ℕ) → nth_place n ps ≡ None → length ps ≤ n
unfolding nth_place
nothing_nth n [] e = omega arith
nothing_nth zero (q ∷ ps) e = let z : ◌≡◌ {A = ℕ} 0 1 = cc in absurd (omega arith)
nothing_nth (suc n) (q ∷ ps) e = let rest = nothing_nth n ps e in omega arith

-- what is found among the records from a place on
pub record FoundThere (query : Query) (image : List ℕ) (from n at : ℕ) : Type 0 where
  pub whole_there : whole_at image at ≡ true
  pub nth_chosen : get_or (keep (chosen query) (records_from image from)) n [] ≡ record_at image at
  pub is_chosen : chosen query (record_at image at) ≡ true
  pub counted : n < how_many (chosen query) (records_from image from)
  pub room : at + 2 + length_of (kind_of (record_at image at)) ≤ length image

pub found_there : (query : Query) (image : List ℕ) (from n at : ℕ) → nth_place n (places_from query image from) ≡ Some at → FoundThere query image from n at
unfolding places_from
found_there query image from n at e =
    let f = chosen query in
    let rs = records_from image from in
    let p = at_nth n (places_of f from rs) at e in
    let within : n < how_many f rs = omega (arith, p.0, as_many_places f from rs) in
    let h : Hit f image (get_or (keep f rs) n []) at = rw p.1 at (nth_hit f (lie image from) n within) in
    record {
      whole_there = h.whole_there;
      nth_chosen = h.stands_there;
      is_chosen = rw h.stands_there at h.passes;
      counted = within;
      room = rw (kind_there image at h.whole_there) (stands_facts image at h.whole_there).room;
    }

-- a caller goes on from the place after: the next there is the one after the n-th
follow : {image : List ℕ} {from : ℕ} {rs : List (List ℕ)} (f : List ℕ → Bool) (at : ℕ) → Lie image from rs → (n : ℕ) → nth_place n (places_of f from rs) ≡ Some at
    → nth_place 0 (places_of f (place_after image at) (records_from image (place_after image at))) ≡ nth_place (suc n) (places_of f from rs)
unfolding places_of nth_place
follow f at (none e) n p = let z : ◌≡◌ {A = ℕ} 0 1 = cc in absurd (omega arith)
follow {image} {from} f at (one {rs = rs} e l) n p = by_test (λ m q. rw (after_whole image from e) at (follow f at l m (rw (sym (after_whole image from e)) at q))) (f (record_at image from)) n p
  where
    rest : List ℕ
    rest = places_of f (from + length (record_at image from)) rs

    by_test : ((m : ℕ) → nth_place m rest ≡ Some at → nth_place 0 (places_of f (place_after image at) (records_from image (place_after image at))) ≡ nth_place (suc m) rest)
        → (t : Bool) (n : ℕ) → nth_place n (when t then from ∷ rest else rest) ≡ Some at
        → nth_place 0 (places_of f (place_after image at) (records_from image (place_after image at))) ≡ nth_place (suc n) (when t then from ∷ rest else rest)
    by_test go true zero p =
        let same : at ≡ from = cc in
        rw (same, ← (lie_is l), after_whole image from e)
    by_test go true (suc n) p = go n p
    by_test go false n p = go n p

pub goes_on : (query : Query) (image : List ℕ) (from n at : ℕ) → nth_place n (places_from query image from) ≡ Some at
    → nth_place 0 (places_from query image (place_after image at)) ≡ nth_place (suc n) (places_from query image from)
unfolding places_from
goes_on query image from n at e = follow (chosen query) at (lie image from) n e

-- the choice of readings depends on the readings only
pub readings_alone : (image image' : List ℕ) → readings_of image ≡ readings_of image' → (span : Span) → choice (Reading span) image ≡ choice (Reading span) image'
unfolding choice chosen readings_of
readings_alone image image' same span =
    let within = keep_within (chosen (Reading span)) (is_kind 4) (λ r e. and_left (is_kind 4 r) _ e) in
    sym (within (records_of image)) ∙ ap (keep (chosen (Reading span))) same ∙ within (records_of image')

-- records that are not another point's: of kinds 1 to 3, or of the point
unfoldable pub not_of_others : ℕ → List ℕ → Bool
not_of_others point r = when leb 4 (kind_of r) then eqb (point_of r) point else true

pub readings_of_point : (span : Span) (r : List ℕ) → chosen (Reading span) r ≡ true → not_of_others span.point.0 r ≡ true
unfolding chosen in_span not_of_others
readings_of_point span r e = either (λ (t : Bool). t ≡ true) (leb 4 (kind_of r)) (λ h. and_left _ _ (and_right (eqb (kind_of r) 4) _ e)) (λ h. refl)

pub events_of_point : (span : Span) (r : List ℕ) → chosen (Event span) r ≡ true → not_of_others span.point.0 r ≡ true
unfolding chosen in_span not_of_others
events_of_point span r e = either (λ (t : Bool). t ≡ true) (leb 4 (kind_of r)) (λ h. and_left _ _ (and_right (eqb (kind_of r) 5) _ e)) (λ h. refl)

-- dropping other points' records leaves a point's choice
pub others_dropped : (query : Query) (point : ℕ) → ((r : List ℕ) → chosen query r ≡ true → not_of_others point r ≡ true)
    → (image image' : List ℕ) → records_of image' ≡ keep (not_of_others point) (records_of image) → choice query image' ≡ choice query image
unfolding choice
others_dropped query point so image image' e = rw e (keep_within (chosen query) (not_of_others point) so (records_of image))

-- what is found depends on the chosen records only: where two images have the same, the n-th of each has the same octets, so each value
-- and each event is answered alike
module _ (query : Query) (image image' : List ℕ) (same : choice query image ≡ choice query image') (n at at' : ℕ)
    (found : nth_place n (places_from query image 1) ≡ Some at) (found' : nth_place n (places_from query image' 1) ≡ Some at') where
  pub same_record : record_at image at ≡ record_at image' at'
  unfolding choice records_of
  same_record =
      sym (found_there query image 1 n at found).nth_chosen
      ∙ ap (λ (rs : List (List ℕ)). get_or rs n []) same
      ∙ (found_there query image' 1 n at' found').nth_chosen

  pub same_value : (object : ℕ) → value_found object image at ≡ value_found object image' at'
  same_value =
      value_same image image' at at' (found_there query image 1 n at found).whole_there (found_there query image' 1 n at' found').whole_there same_record

  pub same_event : event_found image at ≡ event_found image' at'
  same_event =
      event-same image image' at at' (found_there query image 1 n at found).whole_there (found_there query image' 1 n at' found').whole_there same_record
