-- `write_variable` writes a frame of the variable form.
-- In two parts, one after the other, by the law of such a frame. Assumes nothing.
use Rattle.std.proofs.Common.{rules}
use Rattle.frame.proofs.Writing.{variable_stands}
use Rattle.frame.proofs.write_variable.Goals as goal

pub returns : goal.returns
returns c =
    variable_stands _ _ _ _ (search rules) (search rules) _ c.write_front.ensures
    c.variable_end.ensures c.put.ensures
