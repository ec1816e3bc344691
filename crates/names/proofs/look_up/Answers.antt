-- `names::look_up` answers what a look-up comes to.
-- By what each of the two books has. Assumes nothing.
use Rattle.std.proofs.Common.{rules}
use Rattle.names.proofs.Passes.{chosen_refused, italian_refused, either_found}
use Rattle.names.proofs.look_up.Goals as goal

pub returns-in_err-first : goal.returns-in_err-first
returns-in_err-first c = search (rules, chosen_refused)

pub returns-in_err-second : goal.returns-in_err-second
returns-in_err-second c = search (rules, italian_refused)

pub returns : goal.returns
returns c = search (rules, either_found)
