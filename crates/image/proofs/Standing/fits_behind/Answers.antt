-- `Standing::fits_behind` answers whether a record fits behind a key.
-- By its three conditions. Assumes nothing.
use mathlib.Core.Path.{sym, ◌∙◌}
use Rattle.octets.proofs.Choice.{told, not_both}
use Rattle.image.proofs.Runs.{fits_known, fits_unordered, fits_wrong}
use Rattle.image.proofs.Standing.fits_behind.Goals as goal
use Rattle.image.proofs.Standing.fits_behind.Goals.{then-is_right, else-is_right}

pub returns-then-in_order : goal.returns-then-in_order
returns-then-in_order c =
    let here = c.args.self.now in
    elim c.if-is_right.branch [
      | then-is_right w ↦
          c.is_known.ensures
          ∙ fits_known _ _ _ _ here.whole here.own_key (told c.is_right.ensures w.if-is_right.true)
          (sym w.in_order.ensures ∙ sym w.value-is ∙ c.if-in_order.true)
      | else-is_right w ↦ absurd (not_both (w.value-is ∙ w.if-is_right.false) c.if-in_order.true)
    ]

pub returns-else-in_order : goal.returns-else-in_order
returns-else-in_order c =
    let here = c.args.self.now in
    c.if-in_order.false
    ∙ (elim c.if-is_right.branch [
      | then-is_right w ↦
          fits_unordered _ _ _ _ here.whole here.own_key (told c.is_right.ensures w.if-is_right.true)
          (sym w.in_order.ensures ∙ sym w.value-is ∙ c.if-in_order.false)
      | else-is_right w ↦ fits_wrong _ _ _ _ here.whole here.own_key (told c.is_right.ensures w.if-is_right.false)
    ])
