-- Every public contract of this crate leaves one outcome.
-- By what it says that a call does, or by its one equation. Assumes nothing.
use Rattle.octets.proofs.Outcome.{OneResult, one_outcome, OneOutcome, does_one}
use Rattle.printing.proofs.with_decimal.Reads as with_decimal
use Rattle.printing.proofs.put_text.Reads as put_text
use Rattle.printing.proofs.line.Reads as line
use Rattle.printing.proofs.gap_line.Reads as gap_line

with_decimal_one : OneResult with_decimal.Post
with_decimal_one κs a r r' s s' = one_outcome

put_text_one : OneOutcome (λ κs s. s.0.now) put_text.Post
put_text_one κs a r r' s s' = does_one

line_one : OneOutcome (λ κs s. s.0.now) line.Post
line_one κs a r r' s s' = does_one

gap_line_one : OneOutcome (λ κs s. s.0.now) gap_line.Post
gap_line_one κs a r r' s s' = does_one
