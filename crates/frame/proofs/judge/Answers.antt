-- `judge` answers the number and values of the definition's verdict.
-- Where a frame is sound its parts are the run's own octets. Assumes nothing.
use Rattle.std.proofs.Common.{refl, rules}
use Rattle.frame.proofs.Judging.{says_fixed, says_variable}
use Rattle.frame.proofs.judge.Goals as goal

pub returns-then-fixed_form : goal.returns-then-fixed_form
returns-then-fixed_form c = says_fixed _ (search rules) (search rules) _ (search rules) (search rules) c.link_at.ensures

pub returns-then-variable_form : goal.returns-then-variable_form
returns-then-variable_form c =
    says_variable _ (search rules) (search rules) _ _ (search rules) (search rules) (search rules) c.link_at-then-variable_form.ensures refl
