-- `named` puts together the line of a rule.
-- Part by part; what it comes to is computed. Assumes nothing.
use Rattle.why.proofs.Told.{accepted_line, refused_line}
use Rattle.why.proofs.named.Goals as goal

pub returns-in-Accepted : goal.returns-in-Accepted
returns-in-Accepted c = cc accepted_line

pub returns-in_default : goal.returns-in_default
returns-in_default c = cc (refused_line c.args.rule c.in_default.not-Accepted)
