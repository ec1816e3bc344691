-- `read_on` reads behind the first so many octets, which stay, until enough stand there.
-- What a read keeps is kept further. Assumes nothing.
use Rattle.std.proofs.Common.{arith}
use Rattle.stream.proofs.Filling.{kept_further}
use Rattle.stream.proofs.read_on.Goals as goal

pub returns-then-more-eq0 : goal.returns-then-more-eq0
returns-then-more-eq0 c =
    let i = c.loop-have.invariant in
    (i.0, omega (arith, i.1, i.2.same_length), kept_further i.0 i.2 c.read_behind-more.ensures.1)
