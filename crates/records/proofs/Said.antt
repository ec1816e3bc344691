-- What is said over the records from a place on, as a loop over the places comes to it: at the end, and one record further.
-- By the walk's two steps. Assumes nothing.
use Prim.Native.Nat.{ℕ, zero, suc, ◌+◌, ◌<◌}
use mathlib.Core.Bool.{Bool, true, false}
use mathlib.Core.List.{List, [], ◌∷◌}
use mathlib.Core.Path.{◌≡◌, refl, ap, ◌∙◌}
use native.Mathlib.Omega.{arith}
use lib.ListN.{length, get_or}
use Rattle.octets.specs.Choice.{when◌then◌else◌}
use Rattle.octets.proofs.Choice.{not_both}
use Rattle.octets.proofs.Conditions.{and_left, and_right}
use Rattle.records.specs.Records.{whole_at, record_at, records_from, place_after}
use Rattle.records.specs.Said.{every, keep, places_of, places_behind}
use Rattle.records.proofs.Records.{from_end, from_more, after_whole}

module _ (f : List ℕ → Bool) (s : List ℕ) (at : ℕ) where
  pub places_end : whole_at s at ≡ false → places_of f at (records_from s at) ≡ []
  unfolding places_of
  places_end e = rw (from_end s at e)

  places_more : whole_at s at ≡ true
      → places_of f at (records_from s at)
      ≡ (when f (record_at s at) then at ∷ places_of f (place_after s at) (records_from s (place_after s at)) else places_of f (place_after s at) (records_from s (place_after s at)))
  unfolding places_of
  places_more e = rw (from_more s at e, after_whole s at e)

  pub places_hit : whole_at s at ≡ true → f (record_at s at) ≡ true
      → places_of f at (records_from s at) ≡ at ∷ places_of f (place_after s at) (records_from s (place_after s at))
  places_hit e p = places_more e ∙ rw p

  pub places_pass : whole_at s at ≡ true → f (record_at s at) ≡ false
      → places_of f at (records_from s at) ≡ places_of f (place_after s at) (records_from s (place_after s at))
  places_pass e p = places_more e ∙ rw p

-- over any list of records
module _ (f : List ℕ → Bool) where
  -- where a test holds of each, it does of the n-th
  pub every_at : (rs : List (List ℕ)) → every f rs ≡ true → (n : ℕ) → n < length rs → f (get_or rs n []) ≡ true
  unfolding every
  every_at [] e n h = absurd (omega arith)
  every_at (r ∷ rs) e zero h = and_left (f r) (every f rs) e
  every_at (r ∷ rs) e (suc n) h = every_at rs (and_right (f r) (every f rs) e) n (omega arith)

  -- what follows from a test, or is the same
  pub every_so : (g : List ℕ → Bool) → ((r : List ℕ) → f r ≡ true → g r ≡ true) → (rs : List (List ℕ)) → every f rs ≡ true → every g rs ≡ true
  unfolding every
  every_so g so [] e = refl
  every_so g so (r ∷ rs) e = rw (so r (and_left (f r) (every f rs) e), every_so g so rs (and_right (f r) (every f rs) e))

  pub every_same : (g : List ℕ → Bool) → ((r : List ℕ) → f r ≡ g r) → (rs : List (List ℕ)) → every f rs ≡ every g rs
  unfolding every
  every_same g same [] = refl
  every_same g same (r ∷ rs) = rw (same r, every_same g same rs)

  -- none is kept where a test that shuts it out holds of each
  pub keep_none : (g : List ℕ → Bool) → ((r : List ℕ) → g r ≡ true → f r ≡ false) → (rs : List (List ℕ)) → every g rs ≡ true → keep f rs ≡ []
  unfolding every keep
  keep_none g out [] e = refl
  keep_none g out (r ∷ rs) e = rw (out r (and_left (g r) (every g rs) e)) (keep_none g out rs (and_right (g r) (every g rs) e))

-- to keep some of what is kept is to keep these
pub keep_within : (f g : List ℕ → Bool) → ((r : List ℕ) → f r ≡ true → g r ≡ true) → (rs : List (List ℕ)) → keep f (keep g rs) ≡ keep f rs
unfolding keep
keep_within f g so [] = refl
keep_within f g so (r ∷ rs) = by_tests (keep_within f g so rs) (g r) (f r) refl refl
  where
    by_tests : keep f (keep g rs) ≡ keep f rs → (t u : Bool) → g r ≡ t → f r ≡ u
        → keep f (when t then r ∷ keep g rs else keep g rs) ≡ (when u then r ∷ keep f rs else keep f rs)
    by_tests rest true true p q = rw q (ap (r ∷◌) rest)
    by_tests rest true false p q = rw q rest
    by_tests rest false true p q = absurd (not_both p (so r q))
    by_tests rest false false p q = rest

-- the places from a place on: none where no record stands there, else the place, and those behind the record
pub places_behind_end : (s : List ℕ) (at : ℕ) → whole_at s at ≡ false → places_behind s at ≡ []
unfolding places_behind
places_behind_end s at e = places_end (λ r. true) s at e

pub places_behind_more : (s : List ℕ) (at : ℕ) {r : List ℕ} → (whole_at s at ≡ true) × (r ≡ record_at s at)
    → places_behind s at ≡ at ∷ places_behind s (at + length r)
unfolding places_behind
places_behind_more s at w = rw (w.1, ← (after_whole s at w.0)) (places_hit (λ r. true) s at w.0 refl)
