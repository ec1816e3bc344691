-- `LabelA::instant` answers a label's instant.
-- It is the moment, and 0 where there is none. Assumes nothing.
use Rattle.std.proofs.Common.{pos, unwrap_or, ap, ◌∙◌}
use Rattle.label.proofs.Label.{moment_or_none, back}
use Rattle.label.proofs.LabelA.instant.Goals as goal

pub returns : goal.returns
returns c =
    back c.unwrap_or.result c.unwrap_or.type_inv
    ∙ c.unwrap_or.ensures
    ∙ ap (λ moment. unwrap_or moment (pos 0)) c.moment.ensures
    ∙ moment_or_none c.args.self
