-- `Head::put` puts a part behind what stands.
-- By whether it could be put into the array. Assumes nothing.
use Rattle.std.proofs.Common.{rules}
use Rattle.printing.proofs.Lines.{part_fits, part_behind, part_long}
use Rattle.printing.proofs.Head.put.Goals as goal

pub invariant_of-self : goal.invariant_of-self
invariant_of-self c =
    let s = c.self.inside in
    part_fits s.octets c.args.part.now s.length (search rules) c.self.invariant c.put.ensures c.if-put.true

pub returns-then-put : goal.returns-then-put
returns-then-put c =
    let s = c.self.inside in
    λ room. rw (← c.self.view_is) (part_behind s.octets c.args.part.now s.length (search rules) c.self.invariant c.put.ensures c.if-put.true)

pub returns-else-put : goal.returns-else-put
returns-else-put c =
    let s = c.self.inside in
    λ room. absurd (part_long s.octets c.args.part.now s.length (search rules) c.self.invariant c.put.ensures c.if-put.false (rw c.self.view_is room))
