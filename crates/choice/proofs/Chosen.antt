-- The choice by keys is the choice by records; and what a walk over the places comes to, step by step.
-- By the query's cases and the walk's steps. Assumes nothing.
use Rattle.std.specs.Prelude.{slice_get, Option, Some, None, option_map}
use Rattle.std.specs.List.{filter}
use Prim.Native.Nat.{ℕ, zero, suc, ◌-◌, ◌≤◌, ◌<◌}
use mathlib.Core.Bool.{Bool, true, false, ◌&&◌}
use mathlib.Core.List.{List, [], ◌∷◌}
use mathlib.Core.Path.{◌≡◌, refl, ap, sym, ◌∙◌}
use native.Mathlib.Omega.{arith}
use borrow.Author.Tests.{eqb-true, eqb-false, ne_eqb}
use lib.Dec.{eqb}
use lib.ListN.{length}
use Rattle.octets.proofs.Choice.{either, if_both}
use Rattle.records.specs.Records.{kind_of, whole_at, record_at, records_from, kind_at}
use Rattle.records.specs.Said.{keep, how_many, places_of, places_behind}
use Rattle.records.proofs.Records.{after_later, after_within, after_whole}
use Rattle.records.proofs.Places.{Lie, lie, none, one, as_many_places}
use Rattle.fields.specs.declared.Key.{Key}
use Rattle.fields.specs.working.Key.{key_of, key_at, key_as}
use Rattle.fields.specs.Answers.{records_of}
use Rattle.fields.proofs.Parts.{key_kind, key_4, key_5, key_whole, key_at_kind, key_as_law, key_not_as}
use Rattle.choice.specs.declared.Span.{Span}
use Rattle.choice.specs.declared.Query.{Query}
use Rattle.choice.specs.declared.Query.TheVariants.{Reading, Event}
use Rattle.choice.specs.Choice.{in_span, chosen, choice}
use Rattle.choice.specs.Calls.{places_from, nth_place}
use Rattle.choice.specs.working.Keys.{key_in_span, key_chosen}

-- a kind first, and then what records of it have
guarded : (n kind : ℕ) (t u : Bool) → (n ≡ kind → t ≡ u) → (eqb n kind && t) ≡ (eqb n kind && u)
guarded n kind t u same = by_test (eqb n kind) refl
  where
    by_test : (v : Bool) → eqb n kind ≡ v → (v && t) ≡ (v && u)
    by_test true e = same (eqb-true n kind e)
    by_test false e = refl

pub chosen_key : (query : Query) (r : List ℕ) → key_chosen query (key_of r) ≡ chosen query r
unfolding key_chosen chosen key_in_span in_span
chosen_key (Reading span) r = rw (key_kind r) (guarded (kind_of r) 4 _ _ (λ k. rw (key_4 r k)))
chosen_key (Event span) r = rw (key_kind r) (guarded (kind_of r) 5 _ _ (λ k. rw (key_5 r k)))

-- of the record at a place, as it was answered
pub chosen_there : (query : Query) (s : List ℕ) (at : ℕ) {answer value : Bool} → whole_at s at ≡ true → answer ≡ key_chosen query (key_at s at)
    → answer ≡ value → chosen query (record_at s at) ≡ value
chosen_there query s at w a v = sym (chosen_key query (record_at s at)) ∙ ap (key_chosen query) (sym (key_whole s at w)) ∙ sym a ∙ v

-- by the key asked for as one kind, as by the key there
pub as_kind : (kind : ℕ) → 0 < kind → (s : List ℕ) (at : ℕ) (span : Span) (k : Key) → k ≡ key_as kind s at
    → (eqb k.kind kind && key_in_span span k) ≡ (eqb (key_at s at).kind kind && key_in_span span (key_at s at))
as_kind kind some s at span k e = by_test (eqb (kind_at s at) kind) refl
  where
    by_test : (t : Bool) → eqb (kind_at s at) kind ≡ t
        → (eqb k.kind kind && key_in_span span k) ≡ (eqb (key_at s at).kind kind && key_in_span span (key_at s at))
    by_test true t = rw (e, key_as_law s at kind (eqb-true _ _ t))
    by_test false t = rw (e, key_not_as s at kind (eqb-false _ _ t), key_at_kind s at, t, ne_eqb 0 kind (λ z. omega arith))

-- the n-th place is the list's n-th
nth_got : (n : ℕ) (ps : List ℕ) → slice_get ps n ≡ nth_place n ps
unfolding nth_place
nth_got n [] = refl
nth_got zero (p ∷ ps) = refl
nth_got (suc n) (p ∷ ps) = nth_got n ps

pub as_got : (found : Option ℕ) → found ≡ option_map (λ at. at) found
as_got (Some at) = refl
as_got None = refl

-- of the places of all records those at which a chosen key stands are the places of the chosen
filtered : {s : List ℕ} {at : ℕ} {rs : List (List ℕ)} (query : Query) → Lie s at rs
    → filter (λ p. key_chosen query (key_at s p)) (places_of (λ r. true) at rs) ≡ places_of (chosen query) at rs
unfolding places_of
filtered query (none e) = refl
filtered {s} {at} query (one {rs = rs} e l) =
    rw (key_whole s at e, chosen_key query (record_at s at), ← (after_whole s at e))
    (if_both (λ (ps qs : List ℕ). ps ≡ qs) (chosen query (record_at s at)) (λ t. ap (at ∷◌) (filtered query l)) (λ t. filtered query l))

pub nth_filtered : (query : Query) (s : List ℕ) (at n : ℕ)
    → slice_get (filter (λ p. key_chosen query (key_at s p)) (places_behind s at)) n ≡ nth_place n (places_from query s at)
unfolding places_behind places_from
nth_filtered query s at n = rw (filtered query (lie s at)) (nth_got n (places_of (chosen query) at (records_from s at)))

-- there are as many places as chosen records, and no more than octets
pub number_all : (query : Query) (s : List ℕ) → length (places_from query s 1) ≡ length (choice query s)
unfolding places_from choice records_of how_many
number_all query s = as_many_places (chosen query) 1 (records_from s 1)

keep_few : {s : List ℕ} {at : ℕ} {rs : List (List ℕ)} (f : List ℕ → Bool) → Lie s at rs → length (keep f rs) ≤ length s - at
unfolding keep
keep_few f (none e) = omega arith
keep_few {s} {at} f (one e l) =
    let rest = keep_few f l in
    let later = after_later s at e in
    let within = after_within s at e in
    either (λ (qs : List (List ℕ)). length qs ≤ length s - at) (f (record_at s at)) (λ _. omega arith) (λ _. omega arith)

pub choice_few : (query : Query) (s : List ℕ) → length (choice query s) ≤ length s
unfolding choice records_of
choice_few query s = omega (arith, keep_few (chosen query) (lie s 1))
