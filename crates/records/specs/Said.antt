-- What is said over a list of records.
-- Assumes nothing.
use Rattle.std.specs.Prelude.{ℕ, ◌+◌, Bool, true, ◌&&◌, List, [], ◌∷◌, length}
use Rattle.octets.specs.Choice.{when◌then◌else◌}
use Rattle.records.specs.Records.{records_from}

-- each is as the test says
unfoldable pub every : (List ℕ → Bool) → List (List ℕ) → Bool
every f [] = true
every f (r ∷ rs) = f r && every f rs

-- each stands to the next as the test says
unfoldable pub linked : (List ℕ → List ℕ → Bool) → List (List ℕ) → Bool
linked f [] = true
linked f (r ∷ []) = true
linked f (r ∷ q ∷ rs) = f r q && linked f (q ∷ rs)

-- those of which the test holds, in order, and how many they are
unfoldable pub keep : (List ℕ → Bool) → List (List ℕ) → List (List ℕ)
keep f [] = []
keep f (r ∷ rs) = when f r then r ∷ keep f rs else keep f rs

unfoldable pub how_many : (List ℕ → Bool) → List (List ℕ) → ℕ
how_many f rs = length (keep f rs)

-- the places of those of which the test holds, where the first record stands at a place
unfoldable pub places_of : (List ℕ → Bool) → ℕ → List (List ℕ) → List ℕ
places_of f at [] = []
places_of f at (r ∷ rs) = when f r then at ∷ places_of f (at + length r) rs else places_of f (at + length r) rs

-- the places of all whole records from a place on
unfoldable pub places_behind : List ℕ → ℕ → List ℕ
places_behind s at = places_of (λ r. true) at (records_from s at)
