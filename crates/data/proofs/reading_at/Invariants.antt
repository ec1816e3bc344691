-- `reading_at` answers the message of the reading at a place, with the objects that are asked for.
-- The loop's invariant: those before the next one stand behind the header. Assumes nothing.
use Prim.Native.Nat.{ℕ, ◌+◌, ◌-◌, ◌≤◌}
use mathlib.Core.List.{List, ◌++◌}
use mathlib.Core.Path.{◌≡◌}
use lib.ListN.{length}
use Rattle.records.specs.Records.{record_at}
use Rattle.octets.specs.Keeping.{kept_of}
use Rattle.message.specs.Calls.{Offered}
use Rattle.data.specs.Messages.{objects_octets}
use Rattle.data.proofs.reading_at.Given as goal

abbrev pub invariant-loop-object : goal.invariant-loop-object
invariant-loop-object l = Offered l.fn.objects × (l.fn.objects.first ≤ l.object) × (l.object ≤ l.fn.objects.last + 1) × ((xs : List ℕ) → length xs ≡ 6 → l.initial.message ≡ kept_of xs → l.message ≡ kept_of (xs ++ objects_octets l.fn.objects.first (l.object - l.fn.objects.first) (record_at l.image l.at)))
