-- What this crate's own calls answer: where the chosen records stand. The card's definition does without it.
-- Assumes nothing.
use Rattle.std.specs.Prelude.{ℕ, zero, suc, List, [], ◌∷◌, Option, Some, None}
use Rattle.records.specs.Records.{records_from}
use Rattle.records.specs.Said.{places_of}
use Rattle.choice.specs.declared.Query.{Query}
use Rattle.choice.specs.Choice.{chosen}

-- the places of the chosen among the records from a place on; all of them from place 1 on
unfoldable pub places_from : Query → List ℕ → ℕ → List ℕ
places_from query image at = places_of (chosen query) at (records_from image at)

-- the n-th place, counted from 0
unfoldable pub nth_place : ℕ → List ℕ → Option ℕ
nth_place n [] = None
nth_place zero (p ∷ ps) = Some p
nth_place (suc n) (p ∷ ps) = nth_place n ps
