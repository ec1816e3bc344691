-- `Output::tell` tells as `Texts::tell` does.
-- By its contract. Assumes nothing.
use Rattle.std.proofs.Common.{rules}
use Rattle.stream.proofs.Output.tell.Goals as goal

pub returns : goal.returns
returns c = search rules
