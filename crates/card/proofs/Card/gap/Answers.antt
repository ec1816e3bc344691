-- `Card::gap` answers a gap.
-- The buffer, the image, then the run. Assumes nothing.
use mathlib.Core.Path.{sym, ◌∙◌}
use Rattle.card.proofs.Gap.{gapped_same, gap_short, gap_unsound, gap_examined, refused_gap}
use borrow.Author.Rules.{rules}
use Rattle.card.proofs.Card.gap.Goals as goal

pub returns-then-buffer-lt-LONGEST : goal.returns-then-buffer-lt-LONGEST
returns-then-buffer-lt-LONGEST c = gapped_same _ _ _ (gap_short _ _ _ _ c.if-buffer-lt-LONGEST.true) (refused_gap _ _ _ c.refused.ensures)

pub returns-then-not-sound : goal.returns-then-not-sound
returns-then-not-sound c = gapped_same _ _ _ (gap_unsound _ _ _ _ (search rules) (sym c.sound.ensures ∙ c.if-not-sound.true)) (refused_gap _ _ _ c.refused-then-not-sound.ensures)

pub returns : goal.returns
returns c = gapped_same _ _ _ (gap_examined _ _ _ _ (search rules) (sym c.sound.ensures ∙ c.if-not-sound.false)) (rw c.examine-examined.ensures at c.after_examining.ensures)
