-- `past_run` answers how far the records of a kind behind a record fit.
-- The loop's invariant: what is left of the test from here on, behind the last key, is what was left at the start. Assumes nothing.
use Rattle.std.proofs.Common.{◌≡◌, sym, ◌∙◌, arith}
use borrow.Author.Rules.{rules}
use mir.Syntax.{w64}
use mir.Val.{to_z, of_z}
use Rattle.image.proofs.Runs.{run_behind, run_room, run_advances, run_stops}
use Rattle.image.proofs.past_run.Goals as goal

pub moment_behind-requires : goal.moment_behind-requires
moment_behind-requires g c = run_behind g.met.S.Series.runs c.loop-key.invariant _ (sym c.in-Some.is ∙ c.key_at.ensures)

pub returns-in_err-minute : goal.returns-in_err-minute
returns-in_err-minute g c =
    rw c.from_residual.ensures
    (run_stops g.met.S.Series.runs c.loop-key.invariant _ (sym c.in-Some.is ∙ c.key_at.ensures) (sym c.in_err-minute.was ∙ c.moment_behind.ensures))

pub overflow_add-walk : goal.overflow_add-walk
overflow_add-walk g c =
    omega (arith, run_room g.met.S.Series.runs c.loop-key.invariant _ (sym c.in-Some.is ∙ c.key_at.ensures), g.met.S.Series.takes)

pub loop-key-smaller : goal.loop-key-smaller
loop-key-smaller g c =
    omega (arith, run_room g.met.S.Series.runs c.loop-key.invariant _ (sym c.in-Some.is ∙ c.key_at.ensures), g.met.S.Series.takes)

pub loop-key-preserved : goal.loop-key-preserved
loop-key-preserved g c =
    let n : to_z w64 (of_z w64 c.in_ok-minute.minute) ≡ c.in_ok-minute.minute = search rules in
    rw n
    (run_advances g.met.S.Series.runs c.loop-key.invariant _ (sym c.in-Some.is ∙ c.key_at.ensures) _ _ (c.OCTETS.ensures ∙ g.met.S.Series.takes)
    (sym c.in_ok-minute.was ∙ c.moment_behind.ensures))
