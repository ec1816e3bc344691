-- `records::after` answers the place after the whole record at a place, or the place itself.
-- By the two cases of wholeness. Assumes nothing.
use Rattle.std.proofs.Common.{sym, arith}
use Rattle.records.proofs.Records.{after_whole, after_within, after_none}
use Rattle.records.proofs.after.Goals as goal

pub overflow_add-result : goal.overflow_add-result
overflow_add-result c =
    let w = c.in-Some.ensures in
    rw w.1 (let h = after_within _ _ w.0 in omega (arith, after_whole _ _ w.0))

pub returns-in-Some : goal.returns-in-Some
returns-in-Some c = let w = c.in-Some.ensures in rw w.1 (sym (after_whole _ _ w.0))

pub returns-in-None : goal.returns-in-None
returns-in-None c = sym (after_none _ _ c.in-None.ensures)
