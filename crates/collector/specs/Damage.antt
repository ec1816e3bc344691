-- The count of damaged runs. Document 01: it grows by one for 2, 3 and 4 only, and stays at 65,535. #104: 10 has all effects of 3.
-- Assumes nothing.
use Rattle.std.specs.Prelude.{ℕ, ◌+◌, Bool, true, false, ltb}
use Rattle.octets.specs.Choice.{when◌then◌else◌}
use Rattle.frame.specs.declared.Fault.{Fault}
use Rattle.frame.specs.declared.Fault.TheVariants.{Empty, Long, Parity, Malformed, Spoiled}

-- a run that is no sound frame is damaged, unless it is empty
abbrev pub damages : Fault → Bool
damages Empty = false
damages Long = true
damages Parity = true
damages Malformed = true
damages Spoiled = true

unfoldable pub one_more : ℕ → ℕ
one_more damaged = when ltb damaged 65535 then damaged + 1 else damaged
