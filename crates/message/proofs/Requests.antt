-- The objects that a request may ask for, as numbers; and its labels, written again, are the octets behind its header.
-- Condition by condition; octet by octet. Assumes nothing.
use Prim.Native.Nat.{ℕ, ◌≤◌}
use mathlib.Core.Bool.{true, false}
use mathlib.Core.List.{List, ◌++◌}
use mathlib.Core.Path.{◌≡◌, sym}
use native.Mathlib.Omega.{arith}
use borrow.Author.Tests.{leb-true, le-leb}
use lib.ListN.{length, take, drop}
use Rattle.octets.proofs.Conditions.{holds_at, holds_none, holds_more}
use Rattle.octets.proofs.Lists.{part_at}
use Rattle.label.specs.Label.{label_a_at, label_a_octets, label_b_octets}
use Rattle.label.proofs.Label.{label_b_written}
use Rattle.message.specs.declared.ObjectRange.{ObjectRange}
use Rattle.message.specs.Calls.{Offered}
use Rattle.message.specs.Headers.{header_of}
use Rattle.message.specs.Requests.{objects_offered, objects_many, asks_readings, labels_from, request_of}

module _ (objects : ObjectRange) where
  pub offered_so : objects_offered objects ≡ true → Offered objects
  unfolding objects_offered
  offered_so e =
      let each = holds_at _ e in
      record {
        from_one = leb-true 1 objects.first (each 0);
        rising = leb-true objects.first objects.last (each 1);
        to_six = leb-true objects.last 6 (each 2);
      }

  pub so_offered : Offered objects → objects_offered objects ≡ true
  unfolding objects_offered
  so_offered o =
      holds_more _ (le-leb 1 objects.first o.from_one)
      (holds_more _ (le-leb objects.first objects.last o.rising) (holds_more _ (le-leb objects.last 6 o.to_six) holds_none))

  pub many_most : Offered objects → objects_many objects ≤ 6
  unfolding objects_many
  many_most o = omega (arith, o.from_one, o.rising, o.to_six)

module _ (m : List ℕ) where
  -- 181: seven octets
  pub time_behind : 13 ≤ length m → label_b_octets (request_of m).time ≡ take 7 (drop 6 m)
  unfolding request_of
  time_behind room = label_b_written m 6 room

  -- 186: ten octets
  pub labels_behind : asks_readings (header_of m).type_id ≡ false → 16 ≤ length m
      → label_a_octets (request_of m).first ++ label_a_octets (request_of m).last ≡ take 10 (drop 6 m)
  unfolding request_of labels_from label_a_at label_a_octets
  labels_behind other room = rw other (sym (part_at 10 m 6 room))
