-- `clock` answers the message of type 72.
-- The clock's octets stand behind the header. Assumes nothing.
use mathlib.Core.Path.{refl}
use Rattle.data.specs.Messages.{clock_reply}
use Rattle.data.proofs.Written.{header_and}
use borrow.Author.Rules.{rules}
use Rattle.data.proofs.clock.Goals as goal

pub returns : goal.returns
unfolding clock_reply
returns c = header_and _ _ _ _ _ c.headed.ensures c.with.ensures refl (search rules)
