-- The choice as it is worked out, by a record's key.
-- Nothing here has to be believed: that it is the choice of `Choice` is proved. Assumes nothing.
use Rattle.std.specs.Prelude.{Bool, ◌&&◌, eqb}
use Rattle.std.specs.Int.Signed.{le_z}
use Rattle.label.specs.Label.{instant}
use Rattle.fields.specs.declared.Key.{Key}
use Rattle.choice.specs.declared.Span.{Span}
use Rattle.choice.specs.declared.Query.{Query}
use Rattle.choice.specs.declared.Query.TheVariants.{Reading, Event}

unfoldable pub key_in_span : Span → Key → Bool
key_in_span span k =
    eqb k.point.0 span.point.0
    && (eqb k.record_address span.record_address && (le_z span.first (instant k.label.a) && le_z (instant k.label.a) span.last))

unfoldable pub key_chosen : Query → Key → Bool
key_chosen (Reading span) k = eqb k.kind 4 && key_in_span span k
key_chosen (Event span) k = eqb k.kind 5 && key_in_span span k
