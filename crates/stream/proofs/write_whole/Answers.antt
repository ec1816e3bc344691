-- `write_whole` writes a text, or answers that it could not.
-- As the library writes all of it. Assumes nothing.
use Rattle.std.proofs.Common.{rules}
use Rattle.stream.proofs.write_whole.Goals as goal

pub returns : goal.returns
returns c = search rules
