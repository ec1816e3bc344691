-- Octets that are kept, a message or a text: an array of 252 and how many of it count, zeros behind them.
-- Assumes nothing.
use Rattle.std.specs.Prelude.{ℕ, List, length, take, replicate}
use Rattle.octets.specs.Over.{over}
use Rattle.octets.specs.declared.Kept.{Kept}

-- the octets that count
unfoldable pub octets_of : Kept → List ℕ
octets_of k = take k.length k.octets

-- some octets, kept
unfoldable pub kept_of : List ℕ → Kept
kept_of octets = record { octets = over (replicate 252 0) 0 octets; length = length octets }
