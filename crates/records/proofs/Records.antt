-- The walk over records, step by step: what a whole record is, the record that stands at a place, and the records from there on.
-- By recursion on the number that bounds the walk; as many turns as there are octets are enough. Assumes nothing.
use Prim.Native.Nat.{ℕ, zero, suc, ◌+◌, ◌≤◌, ◌<◌}
use mathlib.Core.Bool.{Bool, true, false}
use mathlib.Core.List.{List, [], ◌∷◌, ◌++◌}
use mathlib.Core.Path.{◌≡◌, refl, ap, sym, ◌∙◌}
use native.Mathlib.Numerals.{add-one}
use native.Mathlib.Omega.{arith}
use borrow.Author.Tests.{ltb-true, leb-true, leb-false, eqb-true, lt-ltb, le-leb, eq-eqb, ne_eqb}
use lib.Dec.{leb}
use lib.ListN.{length, get_or, take, drop, length-append, length-drop, get_or-append}
use lib.Seq.{drop-drop, get_or-drop, get_or-take, length-take-le, take-take, take-append-le}
use Rattle.octets.specs.Numbers.{high_first}
use Rattle.octets.proofs.Choice.{refuted}
use Rattle.octets.proofs.Conditions.{holds_at, holds_more, holds_none}
use Rattle.octets.proofs.Lists.{part_at}
use Rattle.records.specs.Records.{length_of, kind_of, size_of, is_whole, walk, records, whole_at, record_at, records_from, kind_at, place_after}

-- what a whole record is
pub record Whole (s : List ℕ) : Type 0 where
  pub some : 0 < length_of (kind_of s)
  pub said : high_first (take 2 s) ≡ length_of (kind_of s)
  pub fits : size_of s ≤ length s

pub whole_facts : (s : List ℕ) → is_whole s ≡ true → Whole s
unfolding is_whole
whole_facts s e =
    record {
      some = ltb-true _ _ (holds_at _ e 0);
      said = eqb-true _ _ (holds_at _ e 1);
      fits = leb-true _ _ (holds_at _ e 2);
    }

pub whole_from : (s : List ℕ) → Whole s → is_whole s ≡ true
unfolding is_whole
whole_from s w = holds_more _ (lt-ltb _ _ w.some) (holds_more _ (eq-eqb _ _ w.said) (holds_more _ (le-leb _ _ w.fits) holds_none))

-- no record is of kind 0
pub some_kind : (kind : ℕ) → 0 < length_of kind → 0 < kind
unfolding length_of
some_kind zero h = absurd (omega arith)
some_kind (suc kind) h = omega arith

-- and none of a kind over 5
pub last_kind : (kind : ℕ) → 0 < length_of kind → kind ≤ 5
unfolding length_of
last_kind kind h = by_test (leb kind 5) refl
  where
    by_test : (t : Bool) → leb kind 5 ≡ t → kind ≤ 5
    by_test true e = leb-true kind 5 e
    by_test false e =
        let over : 5 < kind = leb-false kind 5 e in
        let none : length_of kind ≡ 0 =
        rw (
          ne_eqb kind 1 (λ f. omega arith),
          ne_eqb kind 2 (λ f. omega arith),
          ne_eqb kind 3 (λ f. omega arith),
          ne_eqb kind 4 (λ f. omega arith),
          ne_eqb kind 5 (λ f. omega arith),
        ) in
        absurd (omega arith)

-- cut behind the record it stays whole, and so it does with more behind it
whole_alone : (s : List ℕ) → is_whole s ≡ true → is_whole (take (size_of s) s) ≡ true
whole_alone s e =
    let w = whole_facts s e in
    let kind : kind_of (take (size_of s) s) ≡ kind_of s = get_or-take (size_of s) s 2 0 (omega (arith, w.some)) in
    let two : take 2 (take (size_of s) s) ≡ take 2 s = take-take 2 (size_of s) s (omega arith) in
    let size : length (take (size_of s) s) ≡ size_of s = length-take-le (size_of s) s w.fits in
    whole_from (take (size_of s) s)
    (record {
      some = rw kind w.some;
      said = rw (kind, two) w.said;
      fits = rw (kind, size) (omega arith);
    })

pub record More (s back : List ℕ) : Type 0 where
  pub whole_still : is_whole (s ++ back) ≡ true
  pub same_size : size_of (s ++ back) ≡ size_of s
  pub same_record : take (size_of (s ++ back)) (s ++ back) ≡ take (size_of s) s

pub whole_more : (s back : List ℕ) → is_whole s ≡ true → More s back
whole_more s back e =
    let w = whole_facts s e in
    let kind : kind_of (s ++ back) ≡ kind_of s = get_or-append s back 0 2 (omega (arith, w.some, w.fits)) in
    let two : take 2 (s ++ back) ≡ take 2 s = take-append-le 2 s back (omega (arith, w.fits)) in
    record {
      whole_still =
          whole_from (s ++ back)
          (record {
            some = rw kind w.some;
            said = rw (kind, two) w.said;
            fits = rw (kind, length-append) (omega (arith, w.fits));
          });
      same_size = rw kind;
      same_record = rw kind (take-append-le (size_of s) s back w.fits);
    }

-- where none is whole the walk stops, whatever its bound
stopped : (n : ℕ) (s : List ℕ) → is_whole s ≡ false → walk n s ≡ []
unfolding walk
stopped zero s e = refl
stopped (suc n) s e = rw (walk, e)

empty_stops : (n : ℕ) (s : List ℕ) → length s ≤ 0 → walk n s ≡ []
empty_stops n s h = by_test (is_whole s) refl
  where
    by_test : (t : Bool) → is_whole s ≡ t → walk n s ≡ []
    by_test true e = absurd (omega (arith, (whole_facts s e).fits))
    by_test false e = stopped n s e

-- as many turns as there are octets are enough
enough : (m n : ℕ) (s : List ℕ) → length s ≤ m → length s ≤ n → walk m s ≡ walk n s
unfolding walk
enough zero n s h k = sym (empty_stops n s h)
enough (suc m) zero s h k = empty_stops (suc m) s k
enough (suc m) (suc n) s h k = by_test (is_whole s) (enough m n (drop (size_of s) s) (left m h) (left n k))
  where
    left : (n : ℕ) → length s ≤ suc n → length (drop (size_of s) s) ≤ n
    left n h = omega (arith, length-drop (size_of s) s)

    by_test : (t : Bool) → walk m (drop (size_of s) s) ≡ walk n (drop (size_of s) s)
        → ◌≡◌ {A = List (List ℕ)}
        (elim t [ true ↦ take (size_of s) s ∷ walk m (drop (size_of s) s) | false ↦ [] ])
        (elim t [ true ↦ take (size_of s) s ∷ walk n (drop (size_of s) s) | false ↦ [] ])
    by_test true e = ap (take (size_of s) s ∷◌) e
    by_test false e = refl

turn : (n : ℕ) (s : List ℕ) → is_whole s ≡ true → walk (suc n) s ≡ take (size_of s) s ∷ walk n (drop (size_of s) s)
unfolding walk
turn n s e = rw (walk, e)

-- the records of any octets: none, or the first and those of what follows it
pub records_end : (s : List ℕ) → is_whole s ≡ false → records s ≡ []
unfolding records
records_end s e = stopped (length s) s e

pub records_more : (s : List ℕ) → is_whole s ≡ true → records s ≡ take (size_of s) s ∷ records (drop (size_of s) s)
unfolding records
records_more s e =
    let rest = drop (size_of s) s in
    enough (length s) (suc (length s)) s (omega arith) (omega arith)
    ∙ turn (length s) s e
    ∙ ap (take (size_of s) s ∷◌) (enough (length s) (length rest) rest (omega (arith, length-drop (size_of s) s)) (omega arith))

-- the whole record at a place, by the octets of the list that it stands in
pub record Stands (s : List ℕ) (at : ℕ) : Type 0 where
  pub some : 0 < length_of (get_or s (at + 2) 0)
  pub said : high_first (get_or s at 0 ∷ get_or s (at + 1) 0 ∷ []) ≡ length_of (get_or s (at + 2) 0)
  pub room : at + 2 + length_of (get_or s (at + 2) 0) ≤ length s
  pub size : length (record_at s at) ≡ 2 + length_of (get_or s (at + 2) 0)

first_two : (s : List ℕ) (at : ℕ) → at + 2 ≤ length s → take 2 (drop at s) ≡ get_or s at 0 ∷ get_or s (at + 1) 0 ∷ []
first_two s at h = part_at 2 s at h ∙ rw add-one

pub stands_facts : (s : List ℕ) (at : ℕ) → whole_at s at ≡ true → Stands s at
unfolding whole_at record_at
stands_facts s at e =
    let kind : kind_of (drop at s) ≡ get_or s (at + 2) 0 = get_or-drop at s 2 0 in
    let w = whole_facts (drop at s) e in
    let some : 0 < length_of (get_or s (at + 2) 0) = rw kind at w.some in
    let fits : 2 + length_of (get_or s (at + 2) 0) ≤ length (drop at s) = rw kind at w.fits in
    let room : at + 2 + length_of (get_or s (at + 2) 0) ≤ length s = omega (arith, length-drop at s) in
    record {
      some = some;
      said = rw (← (first_two s at (omega arith)), ← kind) w.said;
      room = room;
      size = length-take-le _ (drop at s) w.fits ∙ rw kind;
    }

-- how the octets from a place on decide whether a whole record stands there: by their number, their kind's length, the length that they say
module _ (s : List ℕ) (at : ℕ) (rest : List ℕ) (e : rest ≡ drop at s) where
  refused : (Whole rest → ⊥) → whole_at s at ≡ false
  unfolding whole_at
  refused n = rw (← e) (sym (refuted _ (λ t. n (whole_facts rest t))))

  pub too_few : length rest < 3 → whole_at s at ≡ false
  too_few h = refused (λ w. omega arith)

  pub no_kind : length_of (get_or rest 2 0) ≡ 0 → whole_at s at ≡ false
  no_kind none = refused (λ w. omega arith)

  module _ (long : 3 ≤ length rest) where
    two : take 2 rest ≡ get_or rest 0 0 ∷ get_or rest 1 0 ∷ []
    two = part_at 2 rest 0 (omega arith)

    pub other_length : (high_first (get_or rest 0 0 ∷ get_or rest 1 0 ∷ []) ≡ length_of (get_or rest 2 0) → ⊥) → whole_at s at ≡ false
    other_length n = refused (λ w. n (rw two at w.said))

    pub cut_short : length rest < 2 + length_of (get_or rest 2 0) → whole_at s at ≡ false
    cut_short h = refused (λ w. omega arith)

    pub all_there : 0 < length_of (get_or rest 2 0) → high_first (get_or rest 0 0 ∷ get_or rest 1 0 ∷ []) ≡ length_of (get_or rest 2 0)
        → 2 + length_of (get_or rest 2 0) ≤ length rest → (whole_at s at ≡ true) × (take (2 + length_of (get_or rest 2 0)) rest ≡ record_at s at)
    unfolding whole_at record_at
    all_there some said fits = rw (← e) (whole_from rest (record { some = some; said = rw two said; fits = fits }), refl)

-- from a place on
module _ (s : List ℕ) (at : ℕ) where
  pub from_end : whole_at s at ≡ false → records_from s at ≡ []
  unfolding whole_at records_from
  from_end e = records_end (drop at s) e

  pub after_whole : whole_at s at ≡ true → place_after s at ≡ at + length (record_at s at)
  unfolding place_after
  after_whole e = rw e

  pub after_none : whole_at s at ≡ false → place_after s at ≡ at
  unfolding place_after
  after_none e = rw e

  pub kind_whole : whole_at s at ≡ true → kind_at s at ≡ get_or s (at + 2) 0
  unfolding kind_at
  kind_whole e = rw e

  pub kind_none : whole_at s at ≡ false → kind_at s at ≡ 0
  unfolding kind_at
  kind_none e = rw e

  pub from_more : whole_at s at ≡ true → records_from s at ≡ record_at s at ∷ records_from s (place_after s at)
  unfolding whole_at records_from record_at
  from_more e =
      let whole_there : is_whole (drop at s) ≡ true = e in
      let size : length (take (size_of (drop at s)) (drop at s)) ≡ size_of (drop at s) = length-take-le _ (drop at s) (whole_facts (drop at s) whole_there).fits in
      let next : drop (size_of (drop at s)) (drop at s) ≡ drop (place_after s at) s =
      drop-drop (size_of (drop at s)) at s ∙ ap (λ (n : ℕ). drop n s) (sym (after_whole e ∙ ap (at +◌) size)) in
      records_more (drop at s) whole_there ∙ ap (λ (l : List ℕ). record_at s at ∷ records l) next

  -- the place after is a later one, and within the list
  pub after_later : whole_at s at ≡ true → at < place_after s at
  after_later e = omega (arith, after_whole e, (stands_facts s at e).size)

  pub after_within : whole_at s at ≡ true → place_after s at ≤ length s
  after_within e = let w = stands_facts s at e in omega (arith, after_whole e)

  -- where a loop over the places stands: `next` is the place after
  pub stands : {next : ℕ} → next ≡ place_after s at → at < next → whole_at s at ≡ true
  stands n h = by_test (whole_at s at) refl
    where
      by_test : (t : Bool) → whole_at s at ≡ t → whole_at s at ≡ true
      by_test true e = e
      by_test false e = absurd (omega (arith, after_none e))

  pub stands_not : {next : ℕ} → next ≡ place_after s at → next ≤ at → whole_at s at ≡ false
  stands_not n h = by_test (whole_at s at) refl
    where
      by_test : (t : Bool) → whole_at s at ≡ t → whole_at s at ≡ false
      by_test true e = absurd (omega (arith, after_later e))
      by_test false e = e

-- the octets of the record at a place are octets of the list that it stands in
module _ (s : List ℕ) (at : ℕ) (e : whole_at s at ≡ true) where
  size_at : length (record_at s at) ≡ size_of (drop at s)
  unfolding whole_at record_at
  size_at = length-take-le _ (drop at s) (whole_facts (drop at s) e).fits

  -- cut to its own length it is itself
  pub itself : take (length (record_at s at)) (drop at s) ≡ record_at s at
  itself = ap (λ (n : ℕ). take n (drop at s)) size_at ∙ unfold record_at in refl

  pub octet_at_law : (k : ℕ) → k < length (record_at s at) → get_or (record_at s at) k 0 ≡ get_or s (at + k) 0
  unfolding record_at
  octet_at_law k h = get_or-take (size_of (drop at s)) (drop at s) k 0 (omega (arith, size_at)) ∙ get_or-drop at s k 0

  pub kind_there : kind_of (record_at s at) ≡ get_or s (at + 2) 0
  kind_there = let h = stands_facts s at e in octet_at_law 2 (omega arith)

  pub whole_itself : is_whole (record_at s at) ≡ true
  unfolding whole_at record_at
  whole_itself = whole_alone (drop at s) e

-- a record of a kind stands at a place: its room and its size are that kind's
pub record OfKind (s : List ℕ) (at kind : ℕ) : Type 0 where
  pub whole_there : whole_at s at ≡ true
  pub of_kind : kind_of (record_at s at) ≡ kind
  pub room_there : at + 2 + length_of kind ≤ length s
  pub size_there : length (record_at s at) ≡ 2 + length_of kind
  pub next : place_after s at ≡ at + 2 + length_of kind

pub kind_facts : (s : List ℕ) (at kind : ℕ) → kind_at s at ≡ kind → 0 < kind → OfKind s at kind
kind_facts s at kind k h = by_test (whole_at s at) refl
  where
    by_test : (t : Bool) → whole_at s at ≡ t → OfKind s at kind
    by_test true e =
        let octet : get_or s (at + 2) 0 ≡ kind = sym (kind_whole s at e) ∙ k in
        let w = stands_facts s at e in
        let room : at + 2 + length_of kind ≤ length s = rw octet at w.room in
        let size : length (record_at s at) ≡ 2 + length_of kind = w.size ∙ rw octet in
        record {
          whole_there = e;
          of_kind = kind_there s at e ∙ octet;
          room_there = room;
          size_there = size;
          next = omega (arith, after_whole s at e);
        }
    by_test false e = absurd (omega (arith, kind_none s at e))

-- the record at a place is of the kind there, or there is none
pub not_kind : (s : List ℕ) (at kind : ℕ) → whole_at s at ≡ true → (kind_at s at ≡ kind → ⊥) → kind_of (record_at s at) ≡ kind → ⊥
not_kind s at kind e n k = n (kind_whole s at e ∙ sym (kind_there s at e) ∙ k)
