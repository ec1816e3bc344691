-- `object_octets` answers number, value and quality of an object of the reading at a place.
-- The object is there, as the reading is; what the machine reads back from a value's bits is the value. Assumes nothing.
use mir.Syntax.{w32}
use mir.Val.{SFits}
use mir.Facts.{to_z-of_z}
use Rattle.octets.specs.Numbers.{low_octets}
use Rattle.data.proofs.Written.{value_not_missing, object_of_value}
use Rattle.data.proofs.object_octets.Goals as goal

pub returns-in_default : goal.returns-in_default
returns-in_default c = absurd (value_not_missing _ _ _ c.requires.at_value c.requires.le_object c.requires.object_bound c.value_at.ensures c.in_default.is)

pub returns : goal.returns
unfolding low_octets
returns c =
    let fits : SFits w32 c.in-Some.found.value = record { sfits = c.struct_told-1.given.0.1 } in
    rw (c.low_octets-value.ensures, c.unsigned.ensures, to_z-of_z fits)
    (object_of_value _ _ _ c.requires.at_value c.requires.le_object c.requires.object_bound c.value_at.ensures c.in-Some.is)
