-- `variable_end` gives the checksum and the end octet.
-- By the sum of C A A and that of the user octets. Assumes nothing.
use Rattle.std.proofs.Common.{ℕ, [], ◌∷◌, ap, refl}
use Rattle.frame.proofs.Writing.{sum_octet}
use Rattle.frame.proofs.variable_end.Goals as goal

pub returns : goal.returns
returns c =
    ap (λ (s : ℕ). s ∷ 0x16 ∷ [])
    (sum_octet _ _ _ _ _ _ _ c.control_and_address-body.ensures c.checksum.ensures
    c.checksum-2.ensures refl)
