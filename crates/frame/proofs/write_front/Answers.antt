-- `write_front` writes what stands before the checksum of a variable frame.
-- In two parts, one after the other. Assumes nothing.
use Rattle.frame.proofs.Writing.{front_stands}
use Rattle.std.proofs.Common.{rules}
use Rattle.frame.proofs.write_front.Goals as goal

pub returns : goal.returns
returns c =
    front_stands _ _ _ _ (search rules) (search rules) _ c.variable_head.ensures
    c.put.ensures c.put-2.ensures
