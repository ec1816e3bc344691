-- `records::kind_at` answers the kind of the whole record at a place, or 0.
-- By the two cases of wholeness. Assumes nothing.
use Rattle.std.proofs.Common.{sym, arith, ◌∙◌}
use Rattle.records.proofs.Records.{stands_facts, kind_there, kind_whole, kind_none}
use Rattle.records.proofs.kind_at.Goals as goal

pub bounds-whole-2 : goal.bounds-whole-2
bounds-whole-2 c = let w = c.in-Some.ensures in rw w.1 (let h = stands_facts _ _ w.0 in omega arith)

pub returns-in-Some : goal.returns-in-Some
returns-in-Some c = let w = c.in-Some.ensures in rw w.1 (kind_there _ _ w.0 ∙ sym (kind_whole _ _ w.0))

pub returns-in-None : goal.returns-in-None
returns-in-None c = sym (kind_none _ _ c.in-None.ensures)
