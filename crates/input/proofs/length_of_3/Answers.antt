-- `length_of_3` answers a big-endian length.
-- It is the number of four octets, of which the first is 0. Assumes nothing.
use Rattle.input.proofs.Input.{high_zero}
use mathlib.Core.Path.{◌∙◌}
use Rattle.input.specs.Input.{length_of3}
use Rattle.input.proofs.length_of_3.Goals as goal

pub returns : goal.returns
unfolding length_of3
returns c = c.from_high_first.ensures ∙ rw (c.octet_at.ensures, c.octet_at-2.ensures, c.octet_at-3.ensures) (high_zero _ _ _)
