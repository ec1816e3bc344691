-- `Link::carried` answers ACK and what a message does.
-- Part by part. Assumes nothing.
use Rattle.link.specs.Answering.{carried}
use Rattle.link.proofs.Link.carried.Goals as goal

pub returns : goal.returns
unfolding carried
returns c = rw (c.after_new.ensures, c.plain.ensures)
