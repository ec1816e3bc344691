-- `Events::moment` answers the instant of a label that is valid for an event.
-- It is that of the label b, where it is valid. Assumes nothing.
use Rattle.std.specs.Result.{result_ok}
use mathlib.Core.Path.{ap, ◌∙◌}
use Rattle.label.proofs.Label.{moment_valid}
use Rattle.image.proofs.EventsSeries.moment.Goals as goal

pub returns : goal.returns
returns c = c.ok.ensures.value ∙ ap result_ok c.moment.ensures ∙ moment_valid c.args.label
