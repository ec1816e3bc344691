-- `pair` answers an octet as two hex figures.
-- By what each of them is. Assumes nothing.
use Rattle.printing.specs.Text.{pair_of}
use Rattle.printing.proofs.pair.Goals as goal

pub returns : goal.returns
unfolding pair_of
returns c = cc
