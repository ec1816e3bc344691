-- What this crate's own calls answer: the instant of a label that is valid. The card's definition does without it.
-- Assumes nothing.
use Rattle.std.specs.Prelude.{Bool, Option, Some, None, Result, Ok, Err, ℤ}
use Rattle.octets.specs.Choice.{when◌then◌else◌}
use Rattle.label.specs.declared.LabelA.{LabelA}
use Rattle.label.specs.declared.LabelB.{LabelB}
use Rattle.label.specs.Label.{instant, valid_b}

-- the instant of a valid label, and none of any other
unfoldable pub moment_of : Bool → LabelA → Option ℤ
moment_of valid a = when valid then Some (instant a) else None

-- the instant of a label b, which is its label a's, and whether the label b is valid
unfoldable pub moment_b : LabelB → Result ℤ ℤ
moment_b b = when valid_b b then Ok (instant b.a) else Err (instant b.a)
