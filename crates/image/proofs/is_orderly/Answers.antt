-- `image::is_orderly` answers whether each record is right, neighbours are in order, the points named are known, and records reach the end.
-- The loop's invariant: what is left of the test from here on, behind the last key, is the whole test. Assumes nothing.
use mathlib.Core.Path.{sym, ◌∙◌}
use native.Mathlib.Omega.{arith}
use Rattle.octets.proofs.Choice.{told}
use Rattle.records.proofs.Records.{stands, stands_not, after_later, after_within}
use Rattle.fields.proofs.Parts.{key_whole}
use Rattle.image.proofs.Keys.{left_end, left_stop, left_all}
use Rattle.image.proofs.Runs.{passed, left_behind}
use Rattle.image.proofs.is_orderly.Goals as goal

pub loop-walk-init : goal.loop-walk-init
loop-walk-init c = (c.after-next.ensures, rw c.before_all.ensures (left_all _))

pub invariant_of-here : goal.invariant_of-here
invariant_of-here c =
    let w = stands _ _ c.loop-walk.invariant.0 c.loop-walk-test.true in
    record { whole = w; own_key = c.key_at.ensures ∙ key_whole _ _ w }

pub returns-then-not-fits_behind : goal.returns-then-not-fits_behind
returns-then-not-fits_behind c =
    left_stop _ _ _ (stands _ _ c.loop-walk.invariant.0 c.loop-walk-test.true) (told c.fits_behind.ensures c.if-not-fits_behind.true) ∙ c.loop-walk.invariant.1

pub past_any_run-requires : goal.past_any_run-requires
past_any_run-requires c =
    let w = stands _ _ c.loop-walk.invariant.0 c.loop-walk-test.true in
    passed _ _ _ _ w (c.key_at.ensures ∙ key_whole _ _ w) (told c.fits_behind.ensures c.if-not-fits_behind.false)

pub returns-in_default : goal.returns-in_default
returns-in_default c =
    let w = stands _ _ c.loop-walk.invariant.0 c.loop-walk-test.true in
    sym c.in_default.ensures
    ∙ left_behind _ _ _ _ w (c.key_at.ensures ∙ key_whole _ _ w) c.loop-walk.invariant.0 (told c.fits_behind.ensures c.if-not-fits_behind.false)
    ∙ c.loop-walk.invariant.1

pub loop-walk-smaller : goal.loop-walk-smaller
loop-walk-smaller c =
    let l = c.loop-walk in
    let w = stands _ _ l.invariant.0 c.loop-walk-test.true in
    omega (arith, after_later _ _ w, after_within _ _ w, l.invariant.0, c.in-Some.ensures.further)

pub loop-walk-preserved : goal.loop-walk-preserved
loop-walk-preserved c =
    let w = stands _ _ c.loop-walk.invariant.0 c.loop-walk-test.true in (
      c.after-next-in-loop-walk.ensures,
      c.in-Some.ensures.decides
          ∙ left_behind _ _ _ _ w (c.key_at.ensures ∙ key_whole _ _ w) c.loop-walk.invariant.0 (told c.fits_behind.ensures c.if-not-fits_behind.false)
          ∙ c.loop-walk.invariant.1,
    )

pub returns : goal.returns
returns c = left_end _ _ _ (stands_not _ _ c.loop-walk.invariant.0 c.loop-walk-test.false) ∙ c.loop-walk.invariant.1
