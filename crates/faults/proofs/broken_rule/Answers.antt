-- `broken_rule` answers what is wrong with octets that are no whole record.
-- By their kind and their length, where they have one. Assumes nothing.
use Rattle.std.proofs.Common.{sym, ◌∙◌, arith}
use Rattle.faults.proofs.Walking.{cut_short, no_kind, other_length, cut_behind}
use Rattle.faults.proofs.broken_rule.Goals as goal

pub returns-in_default : goal.returns-in_default
returns-in_default c = cut_short _ _ c.part.ensures (λ e. omega arith)

pub returns-then-length-eq0 : goal.returns-then-length-eq0
returns-then-length-eq0 c = no_kind _ _ c.part.ensures (omega arith) _ c.length_of-length.ensures.0 c.if-length-eq0.true

pub returns-then-from_high_first-length : goal.returns-then-from_high_first-length
returns-then-from_high_first-length c =
    other_length _ _ c.part.ensures (omega arith) _ c.length_of-length.ensures.0 c.if-length-eq0.false
    (λ e. c.if-from_high_first-length.true (c.from_high_first.ensures ∙ e))

pub returns-else-from_high_first-length : goal.returns-else-from_high_first-length
returns-else-from_high_first-length c =
    cut_behind _ _ c.part.ensures (omega arith) _ c.length_of-length.ensures.0 c.if-length-eq0.false
    (sym c.from_high_first.ensures ∙ c.if-from_high_first-length.false)
