-- The line that tells an answer: why, its number, the rule's word, cause and P/N, a space apart.
-- Assumes nothing.
use Rattle.std.specs.Prelude.{List, [], ◌∷◌, ◌++◌, ℕ, eqb, Ok, Err}
use Rattle.octets.specs.Choice.{when◌then◌else◌}
use Rattle.message.specs.Mirror.{pn_bit}
use Rattle.printing.specs.Text.{decimal}
use Rattle.printing.specs.Line.{space, dash, newline}
use Rattle.rules.specs.declared.Rule.{Rule}
use Rattle.rules.specs.declared.Rule.TheVariants.{Accepted}
use Rattle.rules.specs.Rules.{cause_by, pn_by}
use Rattle.why.specs.declared.Unasked.TheVariants.{ImageUnsound, MessageLength}
use Rattle.why.specs.Naming.{place_of, word_of}
use Rattle.why.specs.Asking.{Why, why_says}

-- why
abbrev pub why_text : List ℕ
why_text = 119 ∷ 104 ∷ 121 ∷ []

-- cause and P/N, which an accepted message has not
unfoldable pub ruled_text : Rule → List ℕ
ruled_text rule =
    when eqb (place_of rule) (place_of Accepted) then space ++ dash ++ space ++ dash else
    space ++ decimal (cause_by rule) ++ space ++ decimal (pn_bit (pn_by rule))

-- word, cause and P/N, each behind a space, and - for what there is not
abbrev pub columns : Why → List ℕ
columns (Err ImageUnsound) = space ++ dash ++ space ++ dash ++ space ++ dash
columns (Err MessageLength) = space ++ dash ++ space ++ dash ++ space ++ dash
columns (Ok rule) = space ++ word_of rule ++ ruled_text rule

unfoldable pub why_line : Why → List ℕ
why_line why = why_text ++ space ++ decimal (why_says why).number ++ columns why ++ newline
