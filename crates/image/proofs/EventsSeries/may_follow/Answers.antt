-- `Events::may_follow` answers whether an event's label does not lie before the last one.
-- By the three ways of that order. Assumes nothing.
use mathlib.Core.Path.{◌≡◌, sym, ap, ap₂, ◌∙◌}
use borrow.Author.Tests.{ne_eqb}
use lib.Dec.{leb}
use mir.Syntax.{w64}
use mir.Val.{to_z, of_z}
use Rattle.label.proofs.Label.{back}
use Rattle.image.proofs.Runs.{event_later, event_same, event_earlier}
use Rattle.image.proofs.EventsSeries.may_follow.Goals as goal

pub returns-then-now-minute : goal.returns-then-now-minute
returns-then-now-minute c =
    let p = c.requires in
    let m = back c.args.minute c.ranges.minute.sfits in
    let n = back c.args.now c.ranges.now.sfits in
    c.if-now-minute.true ∙ sym (event_later _ _ _ _ p.0 p.1 (rw (m, n) at c.if-now-minute.true))

pub returns-then-now-minute-2 : goal.returns-then-now-minute-2
returns-then-now-minute-2 c =
    let p = c.requires in
    let m = back c.args.minute c.ranges.minute.sfits in
    let n = back c.args.now c.ranges.now.sfits in
    ap₂ leb c.in_minute.ensures c.in_minute-then-now-minute-2.ensures
    ∙ event_same _ _ _ _ p.0 p.1 (sym (sym n ∙ ap (to_z w64) c.if-now-minute-2.true ∙ m))

pub returns-else-now-minute-2 : goal.returns-else-now-minute-2
returns-else-now-minute-2 c =
    let p = c.requires in
    let m = back c.args.minute c.ranges.minute.sfits in
    let n = back c.args.now c.ranges.now.sfits in
    let apart : c.args.minute ≡ c.args.now → ⊥ = λ e. c.if-now-minute-2.false (ap (of_z w64) (sym e)) in
    ne_eqb _ _ c.if-now-minute-2.false ∙ sym (event_earlier _ _ _ _ p.0 p.1 (rw (m, n) at c.if-now-minute.false) apart)
