-- `Kept::with` answers more octets behind those that are kept.
-- They are written into the array where they fit. Assumes nothing.
use Rattle.std.proofs.Common.{rules}
use Rattle.octets.proofs.Choice.{told}
use Rattle.octets.proofs.Keeping.{put_fits_in, put_more, put_none}
use Rattle.octets.proofs.Kept.with.Goals as goal

pub overflow_cast-next-then-put : goal.overflow_cast-next-then-put
overflow_cast-next-then-put c =
    let h = put_fits_in c.args.self c.args.top.now (search rules) (told c.put.ensures.answers c.if-put.true) in
    search (rules, h)

pub returns-then-put : goal.returns-then-put
returns-then-put c = rw c.put.ensures.left_so (put_more _ _ (search rules) (told c.put.ensures.answers c.if-put.true))

pub returns-else-put : goal.returns-else-put
returns-else-put c = rw c.put.ensures.left_so (put_none _ _ (search rules) (told c.put.ensures.answers c.if-put.false))
