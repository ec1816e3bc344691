-- `Collector::with_parity` puts a character in by its octet and its parity bit.
-- By the promise of `with_character`. The prover finds this alone, too; written out, a wrong body is refused in so many words. Assumes nothing.
use Rattle.std.proofs.Common.{rules}
use Rattle.collector.proofs.Collector.with_parity.Goals as goal

pub returns : goal.returns
returns c = search rules
