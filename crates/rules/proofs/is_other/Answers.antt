-- `is_other` answers whether a session is another point's, of a type that needs its own.
-- By the session. Assumes nothing.
use Rattle.std.proofs.Common.{rules}
use Rattle.rules.proofs.is_other.Goals as goal

pub returns-then-ne : goal.returns-then-ne
returns-then-ne c = search rules

pub returns-else-ne : goal.returns-else-ne
returns-else-ne c = search rules
