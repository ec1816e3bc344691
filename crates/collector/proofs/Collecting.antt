-- Characters collected one by one stand behind those that are in, up to 261 in all, and the collector is marked where one of their parity bits is wrong; more
-- leave the overfull collector. So from the empty collector on nothing matters but the run, in either profile.
-- By recursion on the characters that are still to come. Assumes nothing.
use Prim.Native.Nat.{ℕ, suc, ◌+◌, ◌≤◌, ◌<◌}
use mathlib.Core.Bool.{Bool, true, false, not, ◌&&◌, ◌||◌, or-false}
use mathlib.Core.List.{List, [], ◌∷◌}
use mathlib.Core.Path.{◌≡◌, refl, sym, ap, ◌∙◌}
use native.Mathlib.Nat.{add-zero, zero-add}
use native.Mathlib.Omega.{arith}
use native.Mathlib.Decide.{dec_lt}
use borrow.Author.Tests.{lt-ltb, le-ltb, ne_eqb}
use lib.ListN.{length, take, drop, set, replicate, length-replicate, length-map}
use lib.Seq.{take_at, length-take-le, sets}
use Rattle.octets.specs.Conditions.{holds}
use Rattle.octets.specs.Over.{over}
use Rattle.octets.proofs.Conditions.{and_left, and_right}
use Rattle.octets.proofs.Over.{over_stores, over_first}
use Rattle.frame.specs.declared.Fault.TheVariants.{Empty, Parity}
use Rattle.frame.specs.Family.{Family}
use Rattle.frame.specs.Frame.{refused}
use Rattle.profile.specs.declared.Profile.{Profile}
use Rattle.profile.specs.declared.Profile.TheVariants.{Ten}
use Rattle.profile.proofs.Judging.{marked_judged}
use Rattle.profile.specs.Profile.{CharacterIn, octet_in, right_in, octets_in, are_right, judge_marked, judge_in}
use Rattle.collector.specs.declared.Collector.{Collector}
use Rattle.collector.specs.Collecting.{emptied, overfull, is_overfull, collected_in, collected, run_of, verdict_of}
use Rattle.collector.specs.Calls.{collected_all_in, collected_all}

-- what the run in a collector is: an empty one, and one that is marked
module _ (k : Family) (c : Collector) where
  pub empty_verdict : c.length ≡ 0 → verdict_of k c ≡ refused Empty
  unfolding verdict_of is_overfull run_of judge_marked
  empty_verdict none = rw none

  pub marked_verdict : 0 < c.length → c.length ≤ 261 → length c.octets ≡ 261 → c.marked ≡ true → verdict_of k c ≡ refused Parity
  unfolding verdict_of is_overfull run_of
  marked_verdict some h whole marked =
      let long = length-take-le c.length c.octets (omega arith) in
      rw (le-ltb 261 c.length h, marked) (marked_judged k (take c.length c.octets) (omega (arith, long)) (omega (arith, long)))

module _ (p : Profile) where
  -- a character whose parity bit is right is put in as its octet is
  pub right_collected : (c : Collector) (x : CharacterIn p) → right_in p x ≡ true → collected c (octet_in p x) ≡ collected_in p c x
  unfolding collected_in
  right_collected c x right = rw right

  pub right_all : (run : List (CharacterIn p)) (c : Collector) → are_right p run ≡ true → collected_all_in p c run ≡ collected_all c (octets_in p run)
  unfolding collected_all_in holds
  right_all [] c right = refl
  right_all (x ∷ run) c right =
      ap (λ (d : Collector). collected_all_in p d run) (sym (right_collected c x (and_left _ _ right)))
      ∙ right_all run (collected c (octet_in p x)) (and_right (right_in p x) _ right)

  pub overfull_stays : (xs : List (CharacterIn p)) → collected_all_in p overfull xs ≡ overfull
  unfolding collected_all_in collected_in overfull
  overfull_stays [] = refl
  overfull_stays (x ∷ xs) = overfull_stays xs

  -- a character that finds room is stored behind those that are in
  abbrev stored : Collector → CharacterIn p → Collector
  stored c x = record { octets = set c.octets c.length (octet_in p x); length = c.length + 1; marked = not (right_in p x) || c.marked }

  -- the mark of a character and of those behind it is the mark of all
  marks : (t u marked : Bool) → (not u || (not t || marked)) ≡ (not (t && u) || marked)
  marks true u marked = refl
  marks false true marked = refl
  marks false false marked = refl

  -- character after character
  pub collected_stores : (xs : List (CharacterIn p)) (c : Collector) → c.length + length xs ≤ 261
      → collected_all_in p c xs
      ≡ record { octets = sets c.octets c.length (octets_in p xs); length = c.length + length xs; marked = not (are_right p xs) || c.marked }
  unfolding collected_all_in collected_in holds
  collected_stores [] c h = rw (add-zero c.length)
  collected_stores (x ∷ xs) c h =
      let further = collected_stores xs (stored c x) (omega arith) in
      let one : c.length + 1 ≡ suc c.length = omega arith in
      let both : c.length + 1 + length xs ≡ c.length + suc (length xs) = omega arith in
      rw (lt-ltb c.length 261 (omega arith)) (further ∙ rw (both, one, marks (right_in p x) (are_right p xs) c.marked))

  -- so all of them stand behind, in an array that is long enough
  pub collected_after_law : (xs : List (CharacterIn p)) (c : Collector) → length c.octets ≡ 261 → c.length + length xs ≤ 261
      → collected_all_in p c xs
      ≡ record { octets = over c.octets c.length (octets_in p xs); length = c.length + length xs; marked = not (are_right p xs) || c.marked }
  collected_after_law xs c whole h =
      collected_stores xs c h ∙ rw (over_stores c.octets c.length (octets_in p xs) (omega (arith, length-map xs (octet_in p))))

  -- and one that finds no room leaves the overfull collector
  pub collected_over : (xs : List (CharacterIn p)) (c : Collector) → 0 < length xs → 261 < c.length + length xs → collected_all_in p c xs ≡ overfull
  unfolding collected_all_in collected_in
  collected_over [] c some long = absurd (omega arith)
  collected_over (x ∷ xs) c some long =
      by_room (λ room. collected_over xs (stored c x) (omega arith) (omega arith)) (dec_lt c.length 261)
    where
      by_room : (c.length < 261 → collected_all_in p (stored c x) xs ≡ overfull) → Dec (c.length < 261) → collected_all_in p (collected_in p c x) xs ≡ overfull
      by_room further (yes room) = rw (lt-ltb c.length 261 room) (further room)
      by_room further (no full) = rw (le-ltb c.length 261 (omega arith)) (overfull_stays xs)

  -- the collector that holds a run and nothing else
  abbrev holding : List (CharacterIn p) → Collector
  holding run = record { octets = over (replicate 261 0) 0 (octets_in p run); length = length run; marked = not (are_right p run) }

  run_back : (run : List (CharacterIn p)) → run_of (holding run) ≡ octets_in p run
  unfolding run_of
  run_back run =
      let octets = octets_in p run in
      rw (over_first (replicate 261 0) octets) (take_at octets (drop (length octets) (replicate 261 0)) (length run) (length-map run (octet_in p)))

  -- from the empty collector on
  module _ (run : List (CharacterIn p)) where
    pub collected_run : length run ≤ 261 → collected_all_in p emptied run ≡ holding run
    unfolding emptied
    collected_run h = collected_after_law run emptied (length-replicate {A = ℕ} 261 0) (omega arith) ∙ rw (zero-add (length run), or-false (not (are_right p run)))

    pub collected_long : 261 < length run → collected_all_in p emptied run ≡ overfull
    unfolding emptied
    collected_long h = collected_over run emptied (omega arith) (omega arith)

    -- so nothing of the collector matters but the run
    pub collected_verdict : (k : Family) → verdict_of k (collected_all_in p emptied run) ≡ judge_in p k run
    unfolding verdict_of is_overfull overfull judge_marked
    collected_verdict k = by_length (dec_lt 261 (length run))
      where
        by_length : Dec (261 < length run) → verdict_of k (collected_all_in p emptied run) ≡ judge_in p k run
        by_length (yes long) = rw (collected_long long, length-map run (octet_in p), ne_eqb (length run) 0 (λ e. omega arith), lt-ltb 261 (length run) long)
        by_length (no short) = rw (collected_run (omega arith), le-ltb 261 (length run) (omega arith), run_back run)

-- with ten bits there are octets, and no mark comes
ten_octets : (octets : List ℕ) → octets_in Ten octets ≡ octets
ten_octets [] = refl
ten_octets (x ∷ xs) = ap (λ (l : List ℕ). x ∷ l) (ten_octets xs)

ten_right : (octets : List ℕ) → are_right Ten octets ≡ true
unfolding holds
ten_right [] = refl
ten_right (x ∷ xs) = ten_right xs

pub octets_none : (xs : List ℕ) (c : Collector) → length xs ≡ 0 → collected_all c xs ≡ c
unfolding collected_all_in
octets_none [] c h = refl
octets_none (x ∷ xs) c h = absurd (omega arith)

pub octets_after : (xs : List ℕ) (c : Collector) → length c.octets ≡ 261 → c.length + length xs ≤ 261
    → collected_all c xs ≡ record { octets = over c.octets c.length xs; length = c.length + length xs; marked = c.marked }
octets_after xs c whole h = collected_after_law Ten xs c whole h ∙ rw (ten_octets xs, ten_right xs)
