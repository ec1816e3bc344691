-- `dates` answers the message of type 131.
-- The two labels stand behind the header, one after the other. Assumes nothing.
use native.Mathlib.Omega.{arith}
use Rattle.label.specs.Label.{label_a_octets}
use Rattle.data.specs.Messages.{dates_reply}
use Rattle.data.proofs.Written.{header_and_two}
use Rattle.data.proofs.dates.Goals as goal

pub returns : goal.returns
unfolding dates_reply label_a_octets
returns c =
    header_and_two _ _ _ _ _ _ c.headed.ensures c.with.ensures c.octets.ensures c.with-2.ensures c.octets-2.ensures
    (omega arith)
