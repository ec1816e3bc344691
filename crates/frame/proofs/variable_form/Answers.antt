-- `variable_form` answers whether a run has the variable form.
-- Each test is one of the definition's, in another order. Assumes nothing.
use Rattle.std.proofs.Common.{rules}
use Rattle.octets.specs.Conditions.{holds}
use Rattle.frame.specs.Frame.{variable_form}
use Rattle.frame.proofs.variable_form.Goals as goal

pub returns-then-run-eq-START_VARIABLE-2 : goal.returns-then-run-eq-START_VARIABLE-2
unfolding variable_form holds
returns-then-run-eq-START_VARIABLE-2 c = search rules
