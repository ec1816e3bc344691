-- `fields::dates_of` answers the two switch dates behind the points.
-- The points take nine octets each. Assumes nothing.
use mathlib.Core.Path.{◌∙◌}
use native.Mathlib.Omega.{arith}
use Rattle.fields.proofs.Answers.{points-room, dates-place, dates-behind}
use Rattle.fields.proofs.dates_of.Goals as goal

pub overflow_mul-points : goal.overflow_mul-points
overflow_mul-points c = omega (arith, points-room _ _ c.points.ensures)

pub overflow_add-after : goal.overflow_add-after
overflow_add-after c = omega (arith, c.after.ensures, points-room _ _ c.points.ensures)

pub returns : goal.returns
returns c = c.dates_at.ensures ∙ dates-behind _ _ (dates-place _ _ _ c.after.ensures c.points.ensures)
