-- What this crate's own calls answer, as the paper's number and value. The card's definition does without it.
-- Assumes nothing.
use Rattle.std.specs.Prelude.{[], ◌∷◌}
use Rattle.octets.specs.Answer.{Answer}
use Rattle.message.specs.Mirror.{pn_bit}
use Rattle.rules.specs.declared.Rule.{Rule}
use Rattle.rules.specs.Rules.{cause_by, pn_by}

-- of a rule: its cause, and its P/N
abbrev pub rule_says : Rule → Answer
rule_says rule = record { number = cause_by rule; values = pn_bit (pn_by rule) ∷ [] }
