-- `names::name` hands back the name of a code.
-- What lies where the look-up says is the name of the entry that is shown. Assumes nothing.
use mathlib.Core.Path.{◌∙◌}
use Rattle.names.proofs.Shows.{cut_is_name}
use Rattle.names.proofs.name.Goals as goal

pub returns : goal.returns
returns c = rw c.look_up.ensures at c.name_at.ensures ∙ cut_is_name c.args.code c.args.chosen.now c.args.italian.now
