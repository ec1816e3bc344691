-- The line of an answer, as the code puts it together part by part.
-- Computed for every rule. Assumes nothing.
use Prim.Native.Nat.{◌≤◌}
use mathlib.Core.Bool.{true}
use mathlib.Core.List.{[], ◌∷◌, ◌++◌}
use mathlib.Core.Path.{◌≡◌, refl}
use native.Mathlib.Omega.{arith}
use lib.Dec.{eqb, leb}
use lib.ListN.{length}
use borrow.Author.Tests.{leb-true, ne_eqb}
use Rattle.octets.specs.Choice.{when◌then◌else◌}
use Rattle.octets.specs.declared.Kept.{Kept}
use Rattle.octets.specs.Calls.{added}
use Rattle.octets.specs.Keeping.{kept_of}
use Rattle.octets.specs.Numbers.{low_first}
use Rattle.octets.specs.Over.{over}
use Rattle.message.specs.Mirror.{pn_bit}
use Rattle.printing.specs.Text.{decimal, figures}
use Rattle.printing.specs.Line.{space, newline}
use Rattle.rules.specs.declared.Rule.{Rule}
use Rattle.rules.specs.declared.Rule.TheVariants.{Accepted}
use Rattle.rules.specs.Rules.{cause_by, pn_by}
use Rattle.std.specs.Prelude.{Ok, Err}
use Rattle.why.specs.declared.Unasked.TheVariants.{ImageUnsound, MessageLength}
use Rattle.why.specs.Asking.{Why}
use Rattle.why.specs.Naming.{place_of, word_of}
use Rattle.why.specs.Told.{ruled_text, why_line}
use Rattle.why.proofs.Naming.{for_each, places_differ, texts_differ}

-- the lines of what is not asked for
pub unsound_line : added (kept_of []) (119 ∷ 104 ∷ 121 ∷ 32 ∷ 49 ∷ 32 ∷ 45 ∷ 32 ∷ 45 ∷ 32 ∷ 45 ∷ 10 ∷ []) ≡ kept_of (why_line (Err ImageUnsound))
unfolding added kept_of over decimal figures why_line
unsound_line = refl

pub length_line : added (kept_of []) (119 ∷ 104 ∷ 121 ∷ 32 ∷ 50 ∷ 32 ∷ 45 ∷ 32 ∷ 45 ∷ 32 ∷ 45 ∷ 10 ∷ []) ≡ kept_of (why_line (Err MessageLength))
unfolding added kept_of over decimal figures why_line
length_line = refl

-- a rule's word; behind it no cause, or the cause and P/N
abbrev worded : Rule → Kept
worded rule = added (added (kept_of []) (119 ∷ 104 ∷ 121 ∷ 32 ∷ 48 ∷ 32 ∷ [])) (word_of rule)

pub accepted_line : added (worded Accepted) (32 ∷ 45 ∷ 32 ∷ 45 ∷ 10 ∷ []) ≡ kept_of (why_line (Ok Accepted))
unfolding added kept_of over decimal figures ruled_text why_line
accepted_line = refl

abbrev refused : Rule → Kept
refused rule = added (added (added (worded rule) (32 ∷ [])) (decimal (cause_by rule))) (space ++ decimal (pn_bit (pn_by rule)) ++ newline)

refused_or_not : (rule : Rule) → (when eqb (place_of rule) 19 then kept_of (why_line (Ok rule)) else refused rule) ≡ kept_of (why_line (Ok rule))
unfolding added kept_of over decimal figures ruled_text why_line
refused_or_not = for_each (λ rule. when eqb (place_of rule) 19 then kept_of (why_line (Ok rule)) else refused rule) (λ rule. kept_of (why_line (Ok rule))) refl refl

pub refused_line : (rule : Rule) → (rule ≡ Accepted → ⊥) → refused rule ≡ kept_of (why_line (Ok rule))
refused_line rule refusal = rw (ne_eqb (place_of rule) 19 (λ e. refusal (places_differ e))) at (refused_or_not rule)

-- no line is longer than that of the longest word
pub line_short : (why : Why) → length (why_line why) ≤ 25
unfolding decimal figures ruled_text why_line
line_short (Err ImageUnsound) = omega arith
line_short (Err MessageLength) = omega arith
line_short (Ok rule) =
    leb-true (length (why_line (Ok rule))) 25 (for_each (λ r. leb (length (why_line (Ok r))) 25) (λ r. true) refl refl rule)

-- no two rules share a line
pub lines_differ : {a b : Rule} → why_line (Ok a) ≡ why_line (Ok b) → a ≡ b
unfolding decimal figures ruled_text why_line low_first
lines_differ = texts_differ (λ r. why_line (Ok r)) refl refl
