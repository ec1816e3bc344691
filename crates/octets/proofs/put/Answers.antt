-- `octets::put` writes where there is room, and else leaves the buffer.
-- By the two cases of what it does. Assumes nothing.
use Rattle.std.proofs.Common.{rules, arith}
use Rattle.octets.proofs.Over.{put_whole, put_not, over_part}
use Rattle.octets.proofs.put.Goals as goal
use Rattle.octets.proofs.put.Goals.{else-at-buffer-via-then-at-buffer+else-top-buffer, else-at-buffer-via-else-at-buffer}

pub returns-then-top-buffer : goal.returns-then-top-buffer
returns-then-top-buffer c = put_whole _ _ _ (search rules) (over_part _ _ _ _ _ (search rules) (omega arith))

pub returns-else-at-buffer : goal.returns-else-at-buffer
returns-else-at-buffer c =
    put_not _ _ _ (elim c.else-at-buffer.branch [
      | else-at-buffer-via-then-at-buffer+else-top-buffer w ↦ omega arith
      | else-at-buffer-via-else-at-buffer w ↦ omega arith
    ])
