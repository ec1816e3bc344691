-- What the public contracts of this crate do not allow: two wrong outcomes or more of each.
-- By computation, whatever the octets of the body; and by the test where no whole record stands. Assumes nothing.
use Prim.Native.Nat.{ℕ}
use mathlib.Core.Bool.{true, false}
use mathlib.Core.List.{List, [], ◌∷◌}
use mathlib.Core.Path.{◌≡◌}
use native.Mathlib.Omega.{arith}
use contract.Lifetimes.{Lfts}
use Rattle.octets.specs.Conditions.{holds}
use Rattle.octets.specs.Numbers.{low_first, high_first}
use Rattle.octets.proofs.Outcome.{RuledOut, Place, lent, never}
use Rattle.records.specs.Records.{length_of, is_whole, whole_at, record_at, kind_at, place_after}
use Rattle.records.proofs.length_of.Reads as length_of_call
use Rattle.records.proofs.is_whole.Reads as is_whole_call
use Rattle.records.proofs.kind_at.Reads as kind_at_call
use Rattle.records.proofs.after.Reads as after

-- to unfold this is to unfold what a whole record stands on
the_record : Unit {0}
unfolding whole_at is_whole holds length_of high_first low_first
the_record = tt

module _ (κs : Lfts 0) where
  -- the length of a reading without its kind
  length_of_body : RuledOut (length_of_call.Post κs) (4, tt) 38
  unfolding length_of
  length_of_body s p = omega (arith, p.0)

  -- a length of what is no kind
  length_of_none : (length : ℕ) → (length ≡ 0 → ⊥) → RuledOut (length_of_call.Post κs) (6, tt) length
  unfolding length_of
  length_of_none length some s p = some p.0

-- x: where the octets lie; a to f: the body of a point's record, which has length 7 and kind 2
module _ (κs : Lfts 1) (x : Place) (a b c d e f : ℕ) where
  -- a record that reaches the exact end not taken for whole
  is_whole_end : RuledOut (is_whole_call.Post κs) (lent x (0 ∷ 7 ∷ 2 ∷ a ∷ b ∷ c ∷ d ∷ e ∷ f ∷ []), (0, tt)) false
  unfolding the_record
  is_whole_end s p = never (cc)

  -- a record that is cut by one octet taken for whole
  is_whole_cut : RuledOut (is_whole_call.Post κs) (lent x (0 ∷ 7 ∷ 2 ∷ a ∷ b ∷ c ∷ d ∷ e ∷ []), (0, tt)) true
  unfolding the_record
  is_whole_cut s p = never (cc)

  -- a record whose length stands low octet first taken for whole
  is_whole_order : RuledOut (is_whole_call.Post κs) (lent x (7 ∷ 0 ∷ 2 ∷ a ∷ b ∷ c ∷ d ∷ e ∷ f ∷ []), (0, tt)) true
  unfolding the_record
  is_whole_order s p = never (cc)

  -- the first octet of the body as the kind, whenever it is not 2
  kind_at_body : (a ≡ 2 → ⊥) → RuledOut (kind_at_call.Post κs) (lent x (0 ∷ 7 ∷ 2 ∷ a ∷ b ∷ c ∷ d ∷ e ∷ f ∷ []), (0, tt)) a
  unfolding kind_at the_record
  kind_at_body n s p = n p

  -- an octet of the length as the kind
  kind_at_length : RuledOut (kind_at_call.Post κs) (lent x (0 ∷ 7 ∷ 2 ∷ a ∷ b ∷ c ∷ d ∷ e ∷ f ∷ []), (0, tt)) 7
  unfolding kind_at the_record
  kind_at_length s p = omega arith

  -- the place one octet too near
  after_near : RuledOut (after.Post κs) (lent x (0 ∷ 7 ∷ 2 ∷ a ∷ b ∷ c ∷ d ∷ e ∷ f ∷ []), (0, tt)) 8
  unfolding place_after record_at the_record
  after_near s p = omega arith

  -- the place one octet too far
  after_far : RuledOut (after.Post κs) (lent x (0 ∷ 7 ∷ 2 ∷ a ∷ b ∷ c ∷ d ∷ e ∷ f ∷ []), (0, tt)) 10
  unfolding place_after record_at the_record
  after_far s p = omega arith

  -- the place of a whole record for the place after it
  after_still : RuledOut (after.Post κs) (lent x (0 ∷ 7 ∷ 2 ∷ a ∷ b ∷ c ∷ d ∷ e ∷ f ∷ []), (0, tt)) 0
  unfolding place_after record_at the_record
  after_still s p = omega arith

module _ (κs : Lfts 1) (x : Place) where
  -- switch dates with an event's length taken for whole, whatever follows
  is_whole_other : (body : List ℕ) → RuledOut (is_whole_call.Post κs) (lent x (0 ∷ 13 ∷ 3 ∷ body), (0, tt)) true
  unfolding the_record
  is_whole_other body s p = never (cc)

  -- a record of kind 6 taken for whole, whatever its length and body
  is_whole_kind : (high low : ℕ) (body : List ℕ) → RuledOut (is_whole_call.Post κs) (lent x (high ∷ low ∷ 6 ∷ body), (0, tt)) true
  unfolding whole_at is_whole holds length_of
  is_whole_kind high low body s p = never (cc)

  -- a kind other than 0 where no whole record stands, whatever the octets
  kind_at_none : (octets : List ℕ) (at kind : ℕ) → whole_at octets at ≡ false → (kind ≡ 0 → ⊥)
      → RuledOut (kind_at_call.Post κs) (lent x octets, (at, tt)) kind
  unfolding kind_at
  kind_at_none octets at kind none n s p = n (rw none at p)

  -- another place where no whole record stands, whatever the octets
  after_none : (octets : List ℕ) (at place : ℕ) → whole_at octets at ≡ false → (place ≡ at → ⊥)
      → RuledOut (after.Post κs) (lent x octets, (at, tt)) place
  unfolding place_after
  after_none octets at place none n s p = n (rw none at p)
