-- `names::found_in` answers what a book has of a code.
-- By what the pass comes to. Assumes nothing.
use Rattle.std.proofs.Common.{rules, Some, None}
use Rattle.names.proofs.Passes.{finds, refuses}
use Rattle.names.proofs.found_in.Goals as goal

pub returns-in-Ok-Some : goal.returns-in-Ok-Some
returns-in-Ok-Some c = finds _ _ c.args.which {place = Some c.in-Ok-Some.place} (search rules)

pub returns-in-Ok-None : goal.returns-in-Ok-None
returns-in-Ok-None c = finds _ _ c.args.which {place = None} (search rules)

pub returns-in-Err : goal.returns-in-Err
returns-in-Err c = refuses _ _ c.args.which (search rules)
