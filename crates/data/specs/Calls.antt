-- A part of the messages that this crate's own calls answer, cut out again. The card's definition does without it.
-- Assumes nothing.
use Rattle.std.specs.Prelude.{ℕ, ◌+◌, ◌*◌, List, take, drop}

-- the i-th object of a reading's message, counted from 0, behind a header of six octets: its number, its value of four octets, its quality
abbrev pub object_part : ℕ → List ℕ → List ℕ
object_part i message = take 6 (drop (6 + 6 * i) message)
