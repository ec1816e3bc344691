-- A request, read once from its octets: the header, and what stands behind it by the type (SD1 4.4). What is not there counts as 0.
-- Assumes nothing.
use Rattle.std.specs.Prelude.{ℕ, ◌+◌, ◌-◌, Bool, ◌||◌, List, [], ◌∷◌, eqb, leb, length, get_or}
use Rattle.octets.specs.Choice.{when◌then◌else◌}
use Rattle.octets.specs.Conditions.{holds}
use Rattle.octets.specs.Numbers.{low_first}
use Rattle.label.specs.Label.{label_a_at, label_b_at}
use Rattle.message.specs.declared.ObjectRange.{ObjectRange}
use Rattle.message.specs.declared.Request.{Request}
use Rattle.message.specs.Headers.{header_of}

-- 122 and 123 ask for readings
unfoldable pub asks_readings : ℕ → Bool
asks_readings type = eqb type 122 || eqb type 123

-- "any first and last with 1 ≤ first ≤ last ≤ 6" (document 02, #101)
unfoldable pub objects_offered : ObjectRange → Bool
objects_offered objects = holds (leb 1 objects.first ∷ leb objects.first objects.last ∷ leb objects.last 6 ∷ [])

-- "N = last − first + 1"
unfoldable pub objects_many : ObjectRange → ℕ
objects_many objects = objects.last - objects.first + 1

-- where the labels a stand: of a request for readings behind the two objects, of any other directly behind the header
unfoldable pub labels_from : ℕ → ℕ
labels_from type = when asks_readings type then 8 else 6

-- first and last object of 122 and 123, first and last label of these and of 102 and 186, the label b of 181, the password of 183, its full 32 bits
unfoldable pub request_of : List ℕ → Request
request_of m =
    let labels = labels_from (header_of m).type_id in
    record {
      header = header_of m;
      octets = length m;
      objects = record { first = get_or m 6 0; last = get_or m 7 0 };
      first = label_a_at m labels;
      last = label_a_at m (labels + 5);
      time = label_b_at m 6;
      password = low_first (get_or m 6 0 ∷ get_or m 7 0 ∷ get_or m 8 0 ∷ get_or m 9 0 ∷ []);
    }
