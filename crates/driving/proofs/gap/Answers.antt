-- `gap` does a gap and writes its line.
-- By what the gap returns and leaves. Assumes nothing.
use Rattle.driving.specs.Driven.{gap_step}
use Rattle.driving.specs.Stepped.{bench_of}
use Rattle.driving.proofs.Stepping.{gap_stepped}
use Rattle.driving.proofs.gap.Goals as goal

pub returns : goal.returns
unfolding gap_step bench_of
returns c =
    gap_stepped _ _ _ _ _ c.lent-gone.ensures
    c.line.ensures
