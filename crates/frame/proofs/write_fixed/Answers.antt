-- `write_fixed` writes a frame of the fixed form.
-- In one part, by the law of such a frame. Assumes nothing.
use Rattle.frame.proofs.Writing.{fixed_stands}
use Rattle.std.proofs.Common.{rules}
use Rattle.frame.proofs.write_fixed.Goals as goal

pub returns : goal.returns
returns c =
    fixed_stands _ _ _ _ (search rules) c.control_and_address-body.ensures
    _ c.checksum-sum.ensures c.put.ensures
