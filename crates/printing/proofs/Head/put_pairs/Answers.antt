-- `Head::put_pairs` puts the pairs of some octets behind what stands.
-- The loop's invariant: where there is room, those of the octets so far are put. Assumes nothing.
use Rattle.std.proofs.Common.{sym, append-nil, rules}
use lib.Seq.{take_all}
use Rattle.printing.specs.Text.{pairs}
use Rattle.printing.proofs.Lines.{pair_put}
use Rattle.printing.proofs.Head.put_pairs.Goals as goal

pub loop-octet-init : goal.loop-octet-init
unfolding pairs
loop-octet-init c = λ room. sym (append-nil c.args.self.now)

pub loop-octet-preserved : goal.loop-octet-preserved
loop-octet-preserved c =
    let a = c.args in
    let l = c.loop-octet in
    λ room. pair_put a.self.now a.octets.now l.octet-index (search rules) room (l.invariant room) c.pair.ensures c.put.ensures

pub returns : goal.returns
returns c =
    let l = c.loop-octet in
    λ room. rw (take_all l.octet-index c.args.octets.now (search rules)) at (l.invariant room)
