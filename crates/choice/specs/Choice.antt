-- What is chosen from an image. Document 01: "Chosen are records of that point and record address with first <= label <= last, in image
-- order"; an event is compared by its minute. Assumes nothing.
use Rattle.std.specs.Prelude.{ℕ, Bool, ◌&&◌, List, eqb, ℤ}
use Rattle.std.specs.Int.Signed.{le_z}
use Rattle.label.specs.Label.{instant}
use Rattle.records.specs.Said.{keep}
use Rattle.fields.specs.Parts.{point_of, record_address, reading_label, event_label, is_kind}
use Rattle.fields.specs.Answers.{records_of}
use Rattle.choice.specs.declared.Span.{Span}
use Rattle.choice.specs.declared.Query.{Query}
use Rattle.choice.specs.declared.Query.TheVariants.{Reading, Event}

-- a record of the span's point and record address, with an instant from first to last, both in
unfoldable pub in_span : Span → List ℕ → ℤ → Bool
in_span span r time =
    eqb (point_of r) span.point.0 && (eqb (record_address r) span.record_address && (le_z span.first time && le_z time span.last))

unfoldable pub chosen : Query → List ℕ → Bool
chosen (Reading span) r = is_kind 4 r && in_span span r (instant (reading_label r))
chosen (Event span) r = is_kind 5 r && in_span span r (instant (event_label r).a)

-- the chosen records' octets, in image order
unfoldable pub choice : Query → List ℕ → List (List ℕ)
choice query image = keep (chosen query) (records_of image)

-- all readings of an image
unfoldable pub readings_of : List ℕ → List (List ℕ)
readings_of image = keep (is_kind 4) (records_of image)
