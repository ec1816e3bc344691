-- What this crate's own calls answer of one record at a place, or that there is none. The card's definition does without it.
-- Assumes nothing.
use Rattle.std.specs.Prelude.{ℕ, ◌&&◌, List, leb, eqb, Option, Some, None}
use Rattle.octets.specs.Choice.{when◌then◌else◌}
use Rattle.records.specs.Records.{kind_at, record_at}
use Rattle.fields.specs.Parts.{value_of, quality_of, spa_of, spq_of, event_label}
use Rattle.fields.specs.declared.Value.{Value}
use Rattle.fields.specs.declared.Event.{Event}

-- of the reading at a place: the value and quality of an object, 1 to 6
unfoldable pub value_found : ℕ → List ℕ → ℕ → Option Value
value_found object image at =
    let r = record_at image at in
    when eqb (kind_at image at) 4 && (leb 1 object && leb object 6) then Some (record { value = value_of object r; quality = quality_of object r }) else
    None

-- the event at a place
unfoldable pub event_found : List ℕ → ℕ → Option Event
event_found image at =
    let r = record_at image at in
    when eqb (kind_at image at) 5 then Some (record { spa = spa_of r; spq = spq_of r; label = event_label r }) else
    None
