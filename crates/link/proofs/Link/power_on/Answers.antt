-- `Link::power_on` answers the link at power-on.
-- By its parts. Assumes nothing.
use Rattle.link.specs.State.{power_on}
use Rattle.link.proofs.Link.power_on.Goals as goal

pub returns : goal.returns
unfolding power_on
returns c = rw (c.new.ensures, c.plain.ensures)
