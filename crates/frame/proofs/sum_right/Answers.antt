-- `sum_right` answers whether the checksum is that of what it covers.
-- The part that is summed is what stands between start and checksum. Assumes nothing.
use Rattle.std.proofs.Common.{◌≡◌, ◌+◌, ◌-◌, length, arith}
use Rattle.frame.specs.Frame.{sum_right}
use Rattle.frame.proofs.sum_right.Goals as goal

pub returns : goal.returns
unfolding sum_right
returns c =
    let a = c.args in
    let long : length a.run.now - 2 - a.start ≡ length a.run.now - (a.start + 2) = omega arith in
    rw (c.checksum.ensures, long)
