-- `start` writes the text of the head.
-- By whether the buffer is short, and what the head is found to be. Assumes nothing.
use mathlib.Core.Path.{refl}
use Rattle.input.specs.declared.Head.TheVariants as head
use Rattle.turns.specs.Printed.{after_head}
use Rattle.turns.proofs.Turning.{short_turned, silent_taken, head_turned}
use Rattle.turns.proofs.start.Goals as goal

pub returns-then-out-lt-ROOM : goal.returns-then-out-lt-ROOM
returns-then-out-lt-ROOM c = short_turned _ _ _ c.if-out-lt-ROOM.true (rw c.power_on-card.ensures at c.refused.ensures)

pub returns-in-Version : goal.returns-in-Version
unfolding after_head
returns-in-Version c =
    head_turned _ _ _ head.Version _ c.if-out-lt-ROOM.false c.power_on-card.ensures c.judge_head.ensures c.in-Version.is refl c.said.ensures

pub returns-in-Cut : goal.returns-in-Cut
unfolding after_head
returns-in-Cut c =
    head_turned _ _ _ head.Cut _ c.if-out-lt-ROOM.false c.power_on-card.ensures c.judge_head.ensures c.in-Cut.is refl c.said-in-Cut.ensures

pub returns-in-Image : goal.returns-in-Image
unfolding after_head
returns-in-Image c =
    head_turned _ _ _ head.Image _ c.if-out-lt-ROOM.false c.power_on-card.ensures c.judge_head.ensures c.in-Image.is refl c.said-in-Image.ensures

pub returns-in-Whole : goal.returns-in-Whole
unfolding after_head
returns-in-Whole c =
    head_turned _ _ _ head.Whole _ c.if-out-lt-ROOM.false c.power_on-card.ensures c.judge_head.ensures c.in-Whole.is refl (silent_taken _ _ _)
