-- `image::sound` answers whether an image is sound.
-- What is asked before the walk is needed, and where it holds the walk decides. Assumes nothing.
use mathlib.Core.Path.{sym, ap, ◌∙◌}
use mathlib.Core.Bool.{Bool, ◌&&◌}
use Rattle.octets.proofs.Choice.{told}
use Rattle.image.specs.working.Keys.{orderly}
use Rattle.image.proofs.Soundness.{front_and_walk}
use Rattle.image.proofs.sound.Goals as goal

pub returns-then-has_front : goal.returns-then-has_front
returns-then-has_front c =
    c.is_orderly.ensures ∙ ap (λ (t : Bool). t && orderly c.args.image.now) (sym (told c.has_front.ensures c.if-has_front.true)) ∙ front_and_walk _

pub returns-else-has_front : goal.returns-else-has_front
returns-else-has_front c = c.if-has_front.false ∙ ap (λ (t : Bool). t && orderly c.args.image.now) (sym (told c.has_front.ensures c.if-has_front.false)) ∙ front_and_walk _
