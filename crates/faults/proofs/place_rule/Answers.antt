-- `place_rule` answers the rule that the record where the walk stands breaks by what stands before it.
-- Its order, then the points. Assumes nothing.
use Rattle.std.specs.Prelude.{is_some}
use mathlib.Core.Path.{ap, ◌∙◌}
use Rattle.octets.proofs.Choice.{told}
use Rattle.faults.specs.working.Walking.{point_rule}
use Rattle.faults.proofs.Walking.{point_there, place_order, place_points}
use Rattle.faults.proofs.place_rule.Goals as goal

pub returns-then-does_follow : goal.returns-then-does_follow
returns-then-does_follow c = λ before s.
    let w = c.requires.0 in
    c.point_rule.ensures ∙ ap (point_rule _ _) (c.is_some-known.ensures ∙ ap is_some c.point_of.ensures) ∙ point_there _ before _ s w _ c.requires.1
    ∙ place_points _ before _ s w (told (c.does_follow.ensures before s) c.if-does_follow.true)

pub returns-else-does_follow : goal.returns-else-does_follow
returns-else-does_follow c = λ before s. place_order _ before _ s c.requires.0 (told (c.does_follow.ensures before s) c.if-does_follow.false)
