-- `LabelA::standard_time` answers what a label says in standard time.
-- By the cases of validity and SU. Assumes nothing.
use Rattle.std.proofs.Common.{ap, ◌∙◌}
use Rattle.octets.proofs.Choice.{told}
use Rattle.label.specs.Time.{real}
use Rattle.label.proofs.Label.{valid_a_law, from_summer, from_standard, from_not_valid}
use Rattle.label.proofs.LabelA.standard_time.Goals as goal
use Rattle.label.proofs.LabelA.standard_time.Goals.{else-is_valid-via-then-is_valid+else-is_summer, else-is_valid-via-else-is_valid}

pub hour_earlier-requires : goal.hour_earlier-requires
hour_earlier-requires c =
    ap real c.date_time-said.ensures
    ∙ (valid_a_law _ (told c.is_valid.ensures c.if-is_valid.true)).real_time

pub returns-then-is_summer : goal.returns-then-is_summer
returns-then-is_summer c =
    c.hour_earlier.ensures
    ∙ from_summer _ _ c.date_time-said.ensures
    (told c.is_valid.ensures c.if-is_valid.true)
    (told c.is_summer.ensures c.if-is_summer.true)

pub returns-else-is_valid : goal.returns-else-is_valid
returns-else-is_valid c =
    c.as_it_stands.ensures
    ∙ elim c.else-is_valid.branch [
      | else-is_valid-via-then-is_valid+else-is_summer w ↦
          from_standard _ _ c.date_time-said.ensures
          (told c.is_valid.ensures w.if-is_valid.true)
          (told w.is_summer.ensures w.if-is_summer.false)
      | else-is_valid-via-else-is_valid w ↦ from_not_valid _ _ c.date_time-said.ensures (told c.is_valid.ensures w.if-is_valid.false)
    ]
