-- `names::check` answers the check of a book.
-- By what the pass comes to, whatever code it looks for. Assumes nothing.
use Rattle.std.proofs.Common.{rules}
use Rattle.names.proofs.Passes.{is_refused, is_sound}
use Rattle.names.proofs.check.Goals as goal

pub returns-in_err-pass : goal.returns-in_err-pass
returns-in_err-pass c = search (rules, is_refused)

pub returns : goal.returns
returns c = search (rules, is_sound)
