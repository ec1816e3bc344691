-- `LabelA::standard_minute` answers the instant of a valid label.
-- By SU: the minutes as they are counted, or 60 less. Assumes nothing.
use mathlib.Core.Path.{ap, ◌∙◌}
use mir.Syntax.{w64}
use mir.Facts.{to_z-of_z, to_z_pos}
use borrow.Author.Rules.{rules}
use Rattle.octets.proofs.Choice.{told}
use Rattle.label.specs.Time.{real}
use Rattle.label.proofs.Label.{valid_a_law, standard_counted, summer_counted}
use Rattle.label.proofs.Instant.{less_fits}
use Rattle.label.proofs.LabelA.standard_minute.Goals as goal

pub minutes-minute-requires : goal.minutes-minute-requires
minutes-minute-requires c = ap real c.date_time.ensures ∙ (valid_a_law _ c.requires).real_time

pub overflow_sub-result : goal.overflow_sub-result
overflow_sub-result c =
    let n = c.minutes-minute.result in
    rw (to_z_pos w64 {n = n} (search rules)) (less_fits n (search rules))

pub returns-then-is_summer : goal.returns-then-is_summer
returns-then-is_summer c =
    let minutes = c.minutes-minute in
    rw (to_z-of_z {w = w64} (overflow_sub-result c))
    (summer_counted _ _ minutes.result (search rules) c.requires c.date_time.ensures
    minutes.ensures (told c.is_summer.ensures c.if-is_summer.true))

pub returns-else-is_summer : goal.returns-else-is_summer
returns-else-is_summer c =
    let minutes = c.minutes-minute in
    standard_counted _ _ minutes.result (search rules) c.requires c.date_time.ensures
    minutes.ensures (told c.is_summer.ensures c.if-is_summer.false)
