-- A run examined. Document 01, "What a gap answers", 1 to 6, and 10 between 2 and 3: empty, over 261 octets, a parity bit wrong, not the form of a frame,
-- checksum wrong, other link address, control field not offered; or a sound frame for this card, and what it asks. Assumes nothing.
use Rattle.std.specs.Prelude.{ℕ, Bool, false, not, List, [], Option, Some, None, Result, Ok, Err}
use Rattle.octets.specs.Choice.{when◌then◌else◌}
use Rattle.octets.specs.Keeping.{kept_of}
use Rattle.address.specs.declared.LinkAddress.{LinkAddress}
use Rattle.address.specs.Address.{same_link}
use Rattle.frame.specs.declared.Form.{Form}
use Rattle.frame.specs.declared.Form.TheVariants.{Fixed, Variable}
use Rattle.frame.specs.Family.{sapr}
use Rattle.frame.specs.Frame.{fixed, variable, Verdict, refused, sound}
use Rattle.frame.specs.Controls.{offered}
use Rattle.fields.specs.Answers.{identity_found}
use Rattle.collector.specs.declared.Collector.{Collector}
use Rattle.collector.specs.Collecting.{verdict_of}
use Rattle.card.specs.declared.Asked.{Asked}
use Rattle.card.specs.declared.NoAnswer.{NoAnswer}
use Rattle.card.specs.declared.NoAnswer.TheVariants.{Faulty, OtherLink, NotOffered}
use Rattle.fields.specs.declared.Identity.{Identity}
use Rattle.frame.specs.declared.Service.{Service}

-- whether a frame has the link address of an image; an image without a first record has none
abbrev pub is_link : Option Identity → LinkAddress → Bool
is_link (Some identity) link = same_link identity.link link
is_link None link = false

-- 6 control field not offered; else what the frame asks, with its user octets
abbrev pub heard : Option Service → List ℕ → Result Asked NoAnswer
heard None user = Err NotOffered
heard (Some service) user = Ok (record { service = service; user = kept_of user })

-- 5 other link address
unfoldable pub examined_frame : List ℕ → Form → ℕ → LinkAddress → List ℕ → Result Asked NoAnswer
examined_frame image form control link user =
    when not (is_link (identity_found image) link) then Err OtherLink else heard (offered form control) user

-- 1, 2, 10, 3, 4; or a sound frame
abbrev pub examined_verdict : List ℕ → Verdict → Result Asked NoAnswer
examined_verdict image (refused fault) = Err (Faulty fault)
examined_verdict image (sound (fixed c a)) = examined_frame image Fixed c (record { 0 = a }) []
examined_verdict image (sound (variable c a user)) = examined_frame image Variable c (record { 0 = a }) user

unfoldable pub examined : Collector → List ℕ → Result Asked NoAnswer
examined c image = examined_verdict image (verdict_of sapr c)
