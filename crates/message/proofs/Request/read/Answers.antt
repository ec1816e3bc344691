-- `Request::read` answers the request that octets say.
-- Part by part: a label that is cut out is the one that stands there. Assumes nothing.
use Rattle.label.proofs.Label.{label_b_cut}
use Rattle.message.specs.Requests.{request_of}
use Rattle.message.proofs.Request.read.Goals as goal

pub returns : goal.returns
unfolding request_of
returns c = rw (c.label_at.ensures, c.label_at-2.ensures, c.read.ensures, c.part.ensures, label_b_cut, c.labels_from-labels.ensures.0, c.read-header.ensures, c.octet_at.ensures, c.octet_at-2.ensures, c.password_of.ensures)
