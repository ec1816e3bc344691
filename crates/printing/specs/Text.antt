-- Numbers and octets as they are printed: decimal figures, and upper-case hex pairs.
-- Assumes nothing.
use Rattle.std.specs.Prelude.{ℕ, zero, suc, ◌+◌, ◌/◌, ◌%◌, List, [], ◌∷◌, ◌++◌, ltb}
use Rattle.octets.specs.Choice.{when◌then◌else◌}

-- the last figures of a number, so many places at most, the highest first and no zero in front
unfoldable pub figures : ℕ → ℕ → List ℕ
figures zero n = []
figures (suc places) n = when ltb n 10 then (48 + n) ∷ [] else figures places (n / 10) ++ (48 + n % 10) ∷ []

-- 20 places hold every number of 64 bits
unfoldable pub decimal : ℕ → List ℕ
decimal n = figures 20 n

-- the hex figures 0 to 9 and A to F
unfoldable pub hex_figure : ℕ → ℕ
hex_figure n = when ltb n 10 then 48 + n else 55 + n

-- an octet as two of them
unfoldable pub pair_of : ℕ → List ℕ
pair_of octet = hex_figure (octet / 16) ∷ hex_figure (octet % 16) ∷ []

-- the pairs of some octets, `before` in front of each
unfoldable pub pairs : List ℕ → List ℕ → List ℕ
pairs before [] = []
pairs before (octet ∷ rest) = before ++ pair_of octet ++ pairs before rest
