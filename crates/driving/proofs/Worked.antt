-- Short inputs, and what is written for them: none, a call that is cut, one that is none, a gap that is lent 260 octets of the buffer, and a question.
-- By computation. Assumes nothing.
use mathlib.Core.List.{[], ◌∷◌}
use mathlib.Core.Path.{◌≡◌, refl}
use lib.ListN.{replicate}
use Rattle.octets.specs.Conditions.{holds}
use Rattle.octets.specs.Numbers.{low_first, high_first}
use Rattle.deeds.specs.declared.Order.TheVariants.{NoOrder}
use Rattle.image.specs.Image.{sound_image}
use Rattle.card.specs.State.{card_at_power_on}
use Rattle.card.specs.Gap.{refusal, gapped}
use Rattle.input.specs.Input.{length_of2, call_size, whole_call, call_found}
use Rattle.printing.specs.Text.{figures, decimal, hex_figure, pair_of, pairs}
use Rattle.printing.specs.Line.{cut_line, beginning, gap_line}
use Rattle.why.specs.Asking.{why_of}
use Rattle.why.specs.Told.{why_line}
use Rattle.driving.specs.Driven.{call_line, at_start, with_room, with_card, with_buffer, line_step, gap_step, why_text, why_step, after_call, call_step, steps_text, driven}

-- each name stands for the definitions of a call, of a gap's line and of a question's: to unfold it is to unfold these
unfoldable of_call : Unit {0}
unfolding driven steps_text call_step call_found call_size whole_call length_of2 high_first low_first after_call at_start with_room with_card with_buffer
of_call = tt

unfoldable of_gap : Unit {0}
unfolding gap_step line_step gapped refusal card_at_power_on gap_line beginning decimal figures pairs pair_of hex_figure
of_gap = tt

unfoldable of_question : Unit {0}
unfolding why_step why_text why_of why_line sound_image holds decimal figures
of_question = tt

nothing_written : driven [] ≡ []
unfolding of_call
nothing_written = refl

cut_written : driven (79 ∷ 0 ∷ []) ≡ cut_line
unfolding of_call
cut_written = refl

call_written : driven (90 ∷ 71 ∷ []) ≡ call_line
unfolding of_call
call_written = refl

gap_written : driven (66 ∷ 1 ∷ 4 ∷ 71 ∷ []) ≡ gap_line 9 0 NoOrder (replicate 10 0) 0 (replicate 300 0xAA)
unfolding of_call of_gap
gap_written = refl

-- at the start no sound image is lent: why 1 - - -
why_written : driven (87 ∷ 0 ∷ 0 ∷ []) ≡ 119 ∷ 104 ∷ 121 ∷ 32 ∷ 49 ∷ 32 ∷ 45 ∷ 32 ∷ 45 ∷ 32 ∷ 45 ∷ 10 ∷ []
unfolding of_call of_question
why_written = refl
