-- `span_of` answers the span that a request chooses.
-- Part by part. Assumes nothing.
use Rattle.std.proofs.Common.{rules}
use Rattle.rules.specs.Decide.{span_of}
use Rattle.rules.proofs.span_of.Goals as goal

pub returns : goal.returns
unfolding span_of
returns c = search rules
