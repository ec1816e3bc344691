-- `unnamed` puts together the line where no rule is asked for.
-- By why none is. Assumes nothing.
use Rattle.why.proofs.Told.{unsound_line, length_line}
use Rattle.why.proofs.unnamed.Goals as goal

pub returns-in-ImageUnsound : goal.returns-in-ImageUnsound
returns-in-ImageUnsound c = cc unsound_line

pub returns-in-MessageLength : goal.returns-in-MessageLength
returns-in-MessageLength c = cc length_line
