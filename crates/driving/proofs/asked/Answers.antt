-- `asked` writes the line that tells why.
-- All is as it was, also where the line does not fit. Assumes nothing.
use Rattle.octets.proofs.Keeping.{octets_back}
use Rattle.driving.specs.Driven.{why_text}
use Rattle.driving.specs.Stepped.{bench_of}
use Rattle.driving.proofs.Stepping.{kept_writes}
use Rattle.driving.proofs.asked.Goals as goal

pub returns : goal.returns
unfolding why_text bench_of
returns c =
    kept_writes _ _ _ _
    (rw (c.as_slice.ensures, c.line-text.ensures, c.ask.ensures, octets_back) at c.put_text.ensures)
