-- `dash` answers what stands for no reply.
-- By whether there is none. Assumes nothing.
use Rattle.std.proofs.Common.{sym, rules}
use Rattle.printing.proofs.Lines.{dash_none, dash_some}
use Rattle.printing.proofs.dash.Goals as goal

pub returns-then-is_empty : goal.returns-then-is_empty
returns-then-is_empty c = sym (dash_none c.args.reply.now (search rules))

pub returns-else-is_empty : goal.returns-else-is_empty
returns-else-is_empty c = sym (dash_some c.args.reply.now (search rules))
