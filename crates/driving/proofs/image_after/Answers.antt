-- `image_after` puts the image of an I into its space.
-- By what the call is found to be; the image is all that stands behind its length. Assumes nothing.
use mathlib.Core.Path.{sym, ◌∙◌}
use borrow.Author.Rules.{rules}
use Rattle.driving.proofs.Stepping.{rest_all, image_stays}
use Rattle.driving.proofs.image_after.Goals as goal

pub returns-in-Image : goal.returns-in-Image
returns-in-Image c = rw (sym c.judge_call.ensures ∙ c.in-Image.is) (rw (c.part.ensures, rest_all) at c.stand.ensures)

pub returns-in_default : goal.returns-in_default
returns-in_default c = rw (sym c.judge_call.ensures) (image_stays c.judge_call.result _ _ _ (search rules))
