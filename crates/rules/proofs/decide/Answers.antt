-- `decide` answers the first rule that applies.
-- Each test is the definition's, in its order. Assumes nothing.
use Rattle.std.proofs.Common.{rules}
use Rattle.rules.specs.Decide.{decide}
use Rattle.rules.proofs.decide.Goals as goal

pub returns-then-is_marked : goal.returns-then-is_marked
unfolding decide
returns-then-is_marked c = search rules

pub returns-in_default : goal.returns-in_default
unfolding decide
returns-in_default c = search rules
