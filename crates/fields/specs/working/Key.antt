-- What the code orders and chooses a record by: kind, point, record address and label, as far as records of its kind have them. Nothing here
-- has to be believed: that it comes to what `image` and `choice` say of the record itself is proved. Assumes nothing.
use Rattle.std.specs.Prelude.{ℕ, List, eqb}
use Rattle.octets.specs.Choice.{when◌then◌else◌}
use Rattle.label.specs.declared.LabelA.{LabelA}
use Rattle.label.specs.declared.LabelB.{LabelB}
use Rattle.records.specs.Records.{kind_of, whole_at, record_at, kind_at}
use Rattle.fields.specs.declared.Key.{Key}
use Rattle.fields.specs.Parts.{point_of, record_address, reading_label, event_label}

-- a label a as a label b at the start of its minute; and the label of octets 0, where a record has none
abbrev pub at_minute : LabelA → LabelB
at_minute label = record { low = 0; high = 0; a = label }

abbrev pub no_label : LabelB
no_label = at_minute (record { minute = 0; hour = 0; day = 0; month = 0; year = 0 })

abbrev pub key : ℕ → ℕ → ℕ → LabelB → Key
key kind point address label = record { kind = kind; point = record { 0 = point }; record_address = address; label = label }

unfoldable pub key_of : List ℕ → Key
key_of r =
    when eqb (kind_of r) 2 then key 2 (point_of r) 0 no_label else
    when eqb (kind_of r) 4 then key 4 (point_of r) (record_address r) (at_minute (reading_label r)) else
    when eqb (kind_of r) 5 then key 5 (point_of r) (record_address r) (event_label r) else
    key (kind_of r) 0 0 no_label

-- of the whole record at a place; kind 0 where none stands
unfoldable pub key_at : List ℕ → ℕ → Key
key_at s at = when whole_at s at then key_of (record_at s at) else key 0 0 0 no_label

-- the key of the record of one kind at a place; of kind 0 where none stands
unfoldable pub key_as : ℕ → List ℕ → ℕ → Key
key_as kind s at = when eqb (kind_at s at) kind then key_at s at else key 0 0 0 no_label
