-- How the records of any octets lie: each stands at its place, end to end; and what follows for places, ends and cuts.
-- By recursion on the records as they lie. Assumes nothing.
use Prim.Native.Nat.{ℕ, zero, suc, ◌+◌, ◌≤◌, ◌<◌}
use mathlib.Core.Bool.{Bool, true, false}
use mathlib.Core.List.{List, [], ◌∷◌, ◌++◌, flatten}
use mathlib.Core.Path.{◌≡◌, refl, ap, sym, ◌∙◌}
use native.Mathlib.Nat.{add_assoc}
use native.Mathlib.Omega.{arith}
use lib.ListN.{length, get_or, take, drop, length-append}
use lib.Seq.{drop-append_seam, drop-append-le, take-add, drop-drop}
use Rattle.octets.specs.Choice.{when◌then◌else◌}
use Rattle.octets.proofs.Choice.{if_both}
use Rattle.records.specs.Records.{is_whole, records, whole_at, record_at, records_from, place_after}
use Rattle.records.specs.Said.{every, keep, how_many, places_of}
use Rattle.records.proofs.Records.{stands_facts, from_end, from_more, after_whole, after_later, itself, whole_itself, whole_more}

-- the records from a place on, one after the other
pub data Lie (s : List ℕ) : ℕ → List (List ℕ) → Type 0 where
  none : {at : ℕ} → whole_at s at ≡ false → Lie s at []
  one : {at : ℕ} {rs : List (List ℕ)} → whole_at s at ≡ true → Lie s (place_after s at) rs → Lie s at (record_at s at ∷ rs)

lie_within : (n : ℕ) (s : List ℕ) (at : ℕ) → length s ≤ at + n → Lie s at (records_from s at)
lie_within zero s at h = by_test (whole_at s at) refl
  where
    by_test : (t : Bool) → whole_at s at ≡ t → Lie s at (records_from s at)
    by_test true e = let w = stands_facts s at e in absurd (omega arith)
    by_test false e = rw (from_end s at e) (none e)
lie_within (suc n) s at h = by_test (lie_within n s (place_after s at)) (whole_at s at) refl
  where
    by_test : (length s ≤ place_after s at + n → Lie s (place_after s at) (records_from s (place_after s at)))
        → (t : Bool) → whole_at s at ≡ t → Lie s at (records_from s at)
    by_test rest true e = rw (from_more s at e) (one e (rest (omega (arith, after_later s at e))))
    by_test rest false e = rw (from_end s at e) (none e)

pub lie : (s : List ℕ) (at : ℕ) → Lie s at (records_from s at)
lie s at = lie_within (length s) s at (omega arith)

-- and only so
pub lie_is : {s : List ℕ} {at : ℕ} {rs : List (List ℕ)} → Lie s at rs → rs ≡ records_from s at
lie_is {s} {at} (none e) = sym (from_end s at e)
lie_is {s} {at} (one e l) = ap (record_at s at ∷◌) (lie_is l) ∙ sym (from_more s at e)

-- each is whole by itself
pub each_whole : {s : List ℕ} {at : ℕ} {rs : List (List ℕ)} → Lie s at rs → every is_whole rs ≡ true
unfolding every
each_whole (none e) = refl
each_whole {s} {at} (one e l) = rw (whole_itself s at e, each_whole l)

-- the n-th of those of which a test holds stands at the n-th place, and is whole there
pub record Hit (f : List ℕ → Bool) (s : List ℕ) (r : List ℕ) (at : ℕ) : Type 0 where
  pub whole_there : whole_at s at ≡ true
  pub stands_there : r ≡ record_at s at
  pub passes : f r ≡ true

pub nth_hit : {s : List ℕ} {at : ℕ} {rs : List (List ℕ)} (f : List ℕ → Bool) → Lie s at rs → (n : ℕ) → n < how_many f rs
    → Hit f s (get_or (keep f rs) n []) (get_or (places_of f at rs) n 0)
unfolding how_many keep places_of
nth_hit f (none e) n h = absurd (omega arith)
nth_hit {s} {at} f (one {rs = rs} e l) n h = by_test (λ m k. rw (after_whole s at e) at (nth_hit f l m k)) (f (record_at s at)) refl n h
  where
    by_test : ((n : ℕ) → n < length (keep f rs) → Hit f s (get_or (keep f rs) n []) (get_or (places_of f (at + length (record_at s at)) rs) n 0))
        → (t : Bool) → f (record_at s at) ≡ t → (n : ℕ) → n < length (when t then record_at s at ∷ keep f rs else keep f rs)
        → Hit f s (get_or (when t then record_at s at ∷ keep f rs else keep f rs) n [])
        (get_or (when t then at ∷ places_of f (at + length (record_at s at)) rs else places_of f (at + length (record_at s at)) rs) n 0)
    by_test rest true p zero h = record { whole_there = e; stands_there = refl; passes = p }
    by_test rest true p (suc n) h = rest n (omega arith)
    by_test rest false p n h = rest n h

-- there are as many places as records
pub as_many_places : (f : List ℕ → Bool) (at : ℕ) (rs : List (List ℕ)) → length (places_of f at rs) ≡ how_many f rs
unfolding how_many keep places_of
as_many_places f at [] = refl
as_many_places f at (r ∷ rs) =
    let same = as_many_places f (at + length r) rs in
    if_both (λ (ps : List ℕ) (qs : List (List ℕ)). length ps ≡ length qs) (f r) (λ e. ap suc same) (λ e. same)

-- end to end: their octets are those of the list, from the place on
pub end_to_end : {s : List ℕ} {at : ℕ} {rs : List (List ℕ)} → Lie s at rs → flatten rs ≡ take (length (flatten rs)) (drop at s)
unfolding flatten
end_to_end (none e) = refl
end_to_end {s} {at} (one {rs = rs} e l) =
    rw (length-append (record_at s at) (flatten rs), take-add (length (record_at s at)) (length (flatten rs)) (drop at s), drop-drop (length (record_at s at)) at s, ← (after_whole s at e), itself s at e)
    (ap (record_at s at ++◌) (end_to_end l))

-- at the seam of two lists the records are those of the second
from_seam : (front back : List ℕ) (at : ℕ) → at ≡ length front → records_from (front ++ back) at ≡ records back
unfolding records_from
from_seam front back at e = ap (λ (n : ℕ). records (drop n (front ++ back))) e ∙ ap records (drop-append_seam front back)

-- a record that is whole stays as it is with more behind the list
longer_still : (front back : List ℕ) (at : ℕ) → whole_at front at ≡ true
    → (whole_at (front ++ back) at ≡ true) × (record_at (front ++ back) at ≡ record_at front at) × (place_after (front ++ back) at ≡ place_after front at)
unfolding whole_at record_at place_after
longer_still front back at e =
    let w = stands_facts front at e in
    let dropped : drop at (front ++ back) ≡ drop at front ++ back = drop-append-le at front back (omega arith) in
    let m = whole_more (drop at front) back e in
    rw (dropped, m.whole_still, m.same_record, e) (refl, refl, refl)

-- two lists of octets, the first records to its exact end: the records of the first, then those of the second
joined : {front : List ℕ} {at : ℕ} {rs : List (List ℕ)} (back : List ℕ) → Lie front at rs → at + length (flatten rs) ≡ length front
    → records_from (front ++ back) at ≡ rs ++ records back
unfolding flatten
joined {front} {at} back (none e) h = from_seam front back at (omega arith)
joined {front} {at} back (one {rs = rs} e l) h =
    let longer = longer_still front back at e in
    let rest = joined back l (omega (arith, after_whole front at e, length-append (record_at front at) (flatten rs))) in
    from_more (front ++ back) at longer.0 ∙ rw (longer.1, longer.2, rest)

pub records_append : (front back : List ℕ) → length (flatten (records front)) ≡ length front
    → records (front ++ back) ≡ records front ++ records back
unfolding records_from
records_append front back h = joined back (lie front 0) (omega arith)

-- and the places of the second are shifted by the length of the first
pub places_append : (f : List ℕ → Bool) (at : ℕ) (rs qs : List (List ℕ))
    → places_of f at (rs ++ qs) ≡ places_of f at rs ++ places_of f (at + length (flatten rs)) qs
unfolding places_of flatten
places_append f at [] qs = let e : at + 0 ≡ at = omega arith in rw e
places_append f at (r ∷ rs) qs =
    let rest : places_of f (at + length r) (rs ++ qs) ≡ places_of f (at + length r) rs ++ places_of f (at + length (r ++ flatten rs)) qs =
    rw (length-append, ← add_assoc) (places_append f (at + length r) rs qs) in
    if_both (λ (ps os : List ℕ). ps ≡ os ++ places_of f (at + length (r ++ flatten rs)) qs) (f r) (λ e. ap (at ∷◌) rest) (λ e. rest)

pub keep_append : (f : List ℕ → Bool) (rs qs : List (List ℕ)) → keep f (rs ++ qs) ≡ keep f rs ++ keep f qs
unfolding keep
keep_append f [] qs = refl
keep_append f (r ∷ rs) qs =
    let rest = keep_append f rs qs in
    if_both (λ (ps os : List (List ℕ)). ps ≡ os ++ keep f qs) (f r) (λ e. ap (r ∷◌) rest) (λ e. rest)
