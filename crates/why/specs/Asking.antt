-- Why a message is refused. Document 02, #105: "takes the state, image, clock and message, and names the first rule in document 01's order that applied".
-- Assumes nothing.
use Rattle.std.specs.Prelude.{ℕ, not, ◌||◌, List, [], ◌∷◌, ltb, length, Result, Ok, Err}
use Rattle.octets.specs.Answer.{Answer}
use Rattle.octets.specs.First.{◌⇒◌▸◌, first_of◌else◌}
use Rattle.message.specs.Mirror.{pn_bit}
use Rattle.message.specs.Requests.{request_of}
use Rattle.image.specs.Image.{sound_image}
use Rattle.rules.specs.declared.Session.{Session}
use Rattle.rules.specs.Rules.{cause_by, pn_by}
use Rattle.rules.specs.Decide.{decide}
use Rattle.rules.specs.declared.Rule.{Rule}
use Rattle.why.specs.declared.Unasked.{Unasked}
use Rattle.why.specs.declared.Unasked.TheVariants.{ImageUnsound, MessageLength}
use Rattle.why.specs.Naming.{place_of}

-- the rule, or why none is asked for
abbrev pub Why : Type 0
Why = Result Rule Unasked

-- "Refusals: 1 image not sound, 2 message under 6 or over 252 octets, in that order"; else the rule. Of the state the session is asked for, and nothing else:
-- "waiting replies are not looked at"
unfoldable pub why_of : Session → List ℕ → List ℕ → List ℕ → Why
why_of session image clock message =
    first_of
    not (sound_image image) ⇒ Err ImageUnsound ▸
    ltb (length message) 6 || ltb 252 (length message) ⇒ Err MessageLength ▸ []
    else Ok (decide session image clock (request_of message))

-- the answer by number and values: of a rule its place, and the cause and P/N of the mirror that it gives
abbrev pub why_says : Why → Answer
why_says (Err ImageUnsound) = record { number = 1; values = [] }
why_says (Err MessageLength) = record { number = 2; values = [] }
why_says (Ok rule) = record { number = 0; values = place_of rule ∷ cause_by rule ∷ pn_bit (pn_by rule) ∷ [] }
