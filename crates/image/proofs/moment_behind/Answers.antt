-- `moment_behind` answers the instant of a record of a run that fits behind the last one.
-- By its label's moment, its record address, and the order by instants. Assumes nothing.
use borrow.Author.Rules.{rules}
use mir.Syntax.{w64}
use mir.Val.{to_z, of_z}
use mathlib.Core.Path.{◌≡◌, refl, sym, ◌∙◌}
use mathlib.Core.Bool.{true, false}
use Rattle.octets.proofs.Choice.{told}
use Rattle.label.proofs.Label.{back, moment_facts}
use Rattle.image.proofs.Runs.{wrong_label, right_label}
use Rattle.image.proofs.moment_behind.Goals as goal
use Rattle.image.proofs.moment_behind.Goals.{else-has_address-via-then-has_address+else-goes_on, else-has_address-via-else-has_address}

pub returns-in_err-now : goal.returns-in_err-now
returns-in_err-now g c =
    let v = rw c.in_err-now.was at (moment_facts _ _ _ c.moment.ensures) in
    c.from_residual.ensures ∙ wrong_label g.met.S.Series.runs c.requires v

pub may_follow-later-requires : goal.may_follow-later-requires
may_follow-later-requires g c =
    let v = rw c.in_ok-now.was at (moment_facts _ _ _ c.moment.ensures) in
    let n : to_z w64 (of_z w64 c.in_ok-now.now) ≡ c.in_ok-now.now = search rules in
    (back _ c.ranges.minute.sfits ∙ c.requires.kept, n ∙ v.1)

pub returns-then-goes_on : goal.returns-then-goes_on
returns-then-goes_on g c =
    let v = rw c.in_ok-now.was at (moment_facts _ _ _ c.moment.ensures) in
    let n : to_z w64 (of_z w64 c.in_ok-now.now) ≡ c.in_ok-now.now = search rules in
    rw n
    (right_label g.met.S.Series.runs c.requires true _ true _ v.0 v.1
    (sym (told c.has_address.ensures c.if-has_address.true)) c.may_follow-later.ensures (sym (told c.goes_on.ensures c.if-goes_on.true)))

pub returns-else-has_address : goal.returns-else-has_address
returns-else-has_address g c =
    let v = rw c.in_ok-now.was at (moment_facts _ _ _ c.moment.ensures) in
    elim c.else-has_address.branch [
      | else-has_address-via-then-has_address+else-goes_on w ↦
          right_label g.met.S.Series.runs c.requires true _ false _ v.0 v.1 (sym (told c.has_address.ensures w.if-has_address.true)) c.may_follow-later.ensures
          (sym (told w.goes_on.ensures w.if-goes_on.false))
      | else-has_address-via-else-has_address w ↦
          right_label g.met.S.Series.runs c.requires false _ _ _ v.0 v.1 (sym (told c.has_address.ensures w.if-has_address.false)) c.may_follow-later.ensures refl
    ]
