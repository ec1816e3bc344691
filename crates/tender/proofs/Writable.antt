-- What the link remembers can be written, from power-on on: its address has two octets, and at most 252 user octets count.
-- By the ways in which a frame is answered; a new reply carries the address of the image lent. Assumes nothing.
use Rattle.std.specs.Prelude.{Option, Some, None, Result, Ok, Err}
use Prim.Native.Nat.{ℕ, ◌≤◌, ◌<◌}
use mathlib.Core.Bool.{Bool, not}
use mathlib.Core.List.{List, []}
use mathlib.Core.Path.{◌≡◌, refl}
use native.Mathlib.Omega.{arith}
use lib.Dec.{eqb}
use lib.ListN.{length, drop}
use Rattle.octets.specs.declared.Kept.{Kept}
use Rattle.octets.specs.Keeping.{kept_of}
use Rattle.octets.proofs.Choice.{either}
use Rattle.octets.proofs.Numbers.{Octets, octets_take, octets_drop}
use Rattle.address.specs.declared.LinkAddress.{LinkAddress}
use Rattle.records.specs.Records.{size_of, kind_at, record_at}
use Rattle.fields.specs.Parts.{link_of}
use Rattle.fields.specs.Answers.{identity_found}
use Rattle.frame.specs.declared.Control.{Control}
use Rattle.frame.specs.declared.Control.TheVariants as control
use Rattle.frame.specs.declared.Form.TheVariants as form
use Rattle.frame.specs.declared.Reply.{Reply}
use Rattle.frame.specs.declared.Service.{Service}
use Rattle.frame.specs.Family.{sapr}
use Rattle.frame.specs.Frame.{fixed, variable, Verdict, refused, sound}
use Rattle.frame.specs.Controls.{offered}
use Rattle.frame.specs.Writing.{plain}
use Rattle.frame.proofs.Judging.{user_octets}
use Rattle.fields.proofs.Parts.{number_small}
use Rattle.profile.specs.Profile.{judge_marked}
use Rattle.profile.proofs.Judging.{sound_unmarked}
use Rattle.collector.specs.declared.Collector.{Collector}
use Rattle.collector.specs.Collecting.{is_overfull, run_of, verdict_of}
use Rattle.link.specs.declared.Link.{Link}
use Rattle.link.specs.declared.Answered.{Answered}
use Rattle.waiting.specs.NextReply.{next_of, message_in}
use Rattle.link.specs.State.{data_reply, power_on, after_reset, after_new}
use Rattle.link.specs.Answering.{link_in, answered_by, noted, carried, answered, reply_sent}
use Rattle.link.proofs.Answering.{Way, as_reset, as_status, not_reset, repeated, as_nack, carried_out_law, as_given, nothing_given, way}
use Rattle.card.specs.declared.Asked.{Asked}
use Rattle.card.specs.declared.NoAnswer.{NoAnswer}
use Rattle.card.specs.Examining.{is_link, heard, examined_frame, examined_verdict, examined}
use Rattle.tender.proofs.Lengths.{Short, Holds, nothing_kept, next_short, carried_kept}
use Rattle.fields.specs.declared.Identity.{Identity}

-- a reply that can be written
pub record CanWrite (reply : Reply) : Type 0 where
  pub address : reply.link.0 < 65536
  pub users : reply.user.length ≤ 252

-- the invariant of the link
pub record Ready (link : Link) : Type 0 where
  pub remembered : CanWrite link.remembered
  pub pending : Holds link.pending

-- and of what answers a frame
pub record AnswersReady (a : Answered) : Type 0 where
  pub reply : CanWrite (reply_sent a.sends a.link)
  pub link : Ready a.link

-- the link address of an image: two of its octets
two_octets : (r : List ℕ) → Octets r → link_of r < 65536
unfolding link_of
two_octets r o = number_small 2 3 r o

image_address : (image : List ℕ) → Octets image → (link_in (identity_found image)).0 < 65536
unfolding identity_found record_at
image_address image o =
    either (λ (found : Option Identity). (link_in found).0 < 65536) (eqb (kind_at image 1) 1)
    (λ _. two_octets _ (octets_take (size_of (drop 1 image)) (drop 1 image) (octets_drop 1 image o)))
    (λ _. omega arith)

-- a frame heard has at most 252 user octets
abbrev pub ShortHeard : Result Asked NoAnswer → Type 0
ShortHeard (Ok asked) = Short asked.user
ShortHeard (Err why) = Unit {0}

asked_short : (asked : Option Service) (user : List ℕ) → length user ≤ 252 → ShortHeard (heard asked user)
unfolding kept_of
asked_short None user few = tt
asked_short (Some service) user few = few

of_run : (image run : List ℕ) (wrong : Bool) (v : Verdict) → judge_marked sapr wrong run ≡ v → ShortHeard (examined_verdict image v)
unfolding examined_frame
of_run image run wrong (refused fault) e = tt
of_run image run wrong (sound (fixed c a)) e =
    either ShortHeard (not (is_link (identity_found image) (record { 0 = a }))) (λ _. tt) (λ _. asked_short (offered form.Fixed c) [] (omega arith))
of_run image run wrong (sound (variable c a user)) e =
    either ShortHeard (not (is_link (identity_found image) (record { 0 = a }))) (λ _. tt) (λ _. asked_short (offered form.Variable c) user (user_octets run c a user (sound_unmarked sapr run wrong _ e).1).fits)

pub heard_short : (c : Collector) (image : List ℕ) → ShortHeard (examined c image)
unfolding examined verdict_of
heard_short c image =
    either (λ (v : Verdict). ShortHeard (examined_verdict image v)) (is_overfull c) (λ _. tt) (λ _. of_run image (run_of c) c.marked (judge_marked sapr c.marked (run_of c)) refl)

-- at power-on
plain_written : (c : Control) (address : LinkAddress) → address.0 < 65536 → CanWrite (plain c address)
unfolding kept_of
plain_written c address small = record { address = small; users = omega arith }

pub power_on_ready : Ready power_on
unfolding power_on
power_on_ready = record { remembered = plain_written control.Ack _ (omega arith); pending = nothing_kept }

-- whatever service is answered, the reply can be written and the link stays so
module _ (link : Link) (ready : Ready link) (user : Kept) (short : Short user) (image clock : List ℕ) (octets : Octets image) (seven : length clock ≡ 7) where
  ours : (c : Control) → CanWrite (plain c (link_in (identity_found image)))
  ours c = plain_written c _ (image_address image octets)

  way_ready : {service : Service} {a : Answered} → Way link user image clock service a → AnswersReady a
  unfolding answered_by noted carried after_reset after_new
  way_ready as_reset = record { reply = ours control.Ack; link = record { remembered = ours control.Ack; pending = nothing_kept } }
  way_ready as_status = record { reply = ours control.Status; link = ready }
  way_ready (not_reset counts r) = record { reply = ready.remembered; link = ready }
  way_ready (repeated counts r e) = record { reply = ready.remembered; link = ready }
  way_ready (as_nack fresh w) = record { reply = ours control.Nack; link = record { remembered = ours control.Nack; pending = ready.pending } }
  way_ready (carried_out_law fresh w) =
      record { reply = ours control.Ack; link = record { remembered = ours control.Ack; pending = carried_kept link.session image clock user seven short } }
  way_ready (as_given fresh f) =
      let next = next_short link.pending image ready.pending in
      let can : CanWrite (data_reply (message_in (next_of link.pending image)) (link_in (identity_found image))) =
      record { address = image_address image octets; users = next.message } in
      record { reply = can; link = record { remembered = can; pending = next.pending } }
  way_ready (nothing_given fresh f) =
      record { reply = ours control.NothingToGive; link = record { remembered = ours control.NothingToGive; pending = ready.pending } }

  pub answered_ready : (service : Service) → AnswersReady (answered link service user image clock)
  answered_ready service = way_ready (way link user image clock service)
