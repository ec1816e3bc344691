-- Document 01's table, row by row: what the centre collects for an accepted request; one mirror for a refusal; and by what a reading is chosen.
-- By what its row does; data is that of the crate `waiting`, any other waiting reply is the last. Assumes nothing.
use Rattle.std.specs.Prelude.{Option, Some, None}
use Prim.Native.Nat.{ℕ, zero, suc, ◌+◌, ◌≤◌}
use mathlib.Core.Bool.{true, false≢true}
use mathlib.Core.List.{List, [], ◌∷◌}
use mathlib.Core.Path.{◌≡◌, refl, sym, ap, ◌∙◌}
use native.Mathlib.Omega.{arith}
use lib.ListN.{length, length-append, length-map}
use borrow.Author.Tests.{ne_eqb}
use Rattle.octets.specs.declared.Kept.{Kept}
use Rattle.octets.proofs.Choice.{either}
use Rattle.history.specs.History.{Each}
use Rattle.message.specs.declared.Deed.{Deed}
use Rattle.message.specs.declared.Deed.TheVariants.{Gives71, Gives131, GivesData}
use Rattle.message.specs.Mirror.{pn_bit, mirror_of}
use Rattle.message.specs.Requests.{asks_readings}
use Rattle.message.specs.Table.{table, row_in}
use Rattle.fields.specs.Answers.{identity_found, dates_found}
use Rattle.image.specs.Image.{sound_image}
use Rattle.image.proofs.Soundness.{rules, has_head}
use Rattle.choice.specs.declared.Query.TheVariants.{Reading, Event}
use Rattle.choice.specs.Choice.{in_span, chosen, choice}
use Rattle.choice.proofs.Laws.{readings_alone}
use Rattle.rules.specs.declared.Session.{Session}
use Rattle.rules.specs.declared.Rule.{Rule}
use Rattle.rules.specs.declared.Rule.TheVariants.{Accepted}
use Rattle.rules.specs.Rules.{cause_by, pn_by}
use Rattle.rules.specs.Decide.{dated, decide}
use Rattle.rules.proofs.Rules.{only_seven, cause_small}
use Rattle.rules.proofs.Decided.{accepted_offered, accepted_dated}
use Rattle.data.specs.Portions.{next_reading}
use Rattle.deeds.specs.declared.Waiting.{Waiting}
use Rattle.deeds.specs.declared.Pending.{Pending}
use Rattle.deeds.specs.Deeds.{deed_of, mirror_by, done_by, carried_out}
use Rattle.deeds.proofs.Deeds.{refused_mirror}
use Rattle.waiting.specs.NextReply.{firstly, lastly, reading_type, mirror_with, clock_from, data_from, next_by, next_of}
use Rattle.waiting.specs.Collected.{messages_collected, in_groups, events_message, reading_message}
use Rattle.waiting.proofs.Collected.{nothing_more, events_collected, events_number, readings_collected}
use Rattle.tender.specs.Rules.{request_in, identity_of, dates_of, events_for, readings_for, between_mirrors, span_in, WaitingRow, waiting_rows, WaitingReplies, OneMirror, ChosenAlone}
use Rattle.fields.specs.declared.Identity.{Identity}
use Rattle.fields.specs.declared.Dates.{Dates}

-- what is given last is one message, and nothing more
once : (pending : Pending) (image : List ℕ) (message : Kept) → next_of pending image ≡ lastly message → (turns : ℕ) → 1 ≤ turns
    → messages_collected turns pending image ≡ message ∷ []
unfolding messages_collected lastly firstly
once pending image message e zero some = absurd (omega (arith, some))
once pending image message e (suc turns) some = rw e (ap (message ∷◌) (nothing_more turns image))

-- a sound image has a first record
head_there : (image : List ℕ) → sound_image image ≡ true → identity_found image ≡ None → ⊥
unfolding identity_found
head_there image sound = rw (has_head image (rules image sound)) (λ e. omega (arith, ap found_number e))
  where
    found_number : Option Identity → ℕ
    found_number (Some h) = 1
    found_number None = 0

between_length : (request : Kept) (some : List Kept) → length (between_mirrors request some) ≡ 2 + length some
between_length request some = omega (arith, length-append some (mirror_of request 0 10 ∷ []))

-- one row and those behind it
infixr 2 ◌and◌
pub ◌and◌ : {A B : Type 0} → A → B → A × B
a and b = (a, b)

-- an accepted request
module _ (session : Session) (image clock : List ℕ) (request : Kept) (first : decide session image clock (request_in request) ≡ Accepted) where
  -- what waits by a deed
  abbrev waiting_by : Deed → Pending
  waiting_by deed =
      let done = done_by Accepted session clock (request_in request) deed in
      record { waiting = done.waiting; request = request; clock = done.clock }

  abbrev Collected : Pending → List Kept → Type 0
  Collected pending messages = (turns : ℕ) → length messages ≤ turns → messages_collected turns pending image ≡ messages

  -- by its row
  of_row : (type : ℕ) {messages : List Kept}
      → ((request_in request).header.type_id ≡ type → Collected (waiting_by (deed_of Accepted (row_in table type))) messages)
      → (request_in request).header.type_id ≡ type → Collected (carried_out session image clock request).pending messages
  unfolding carried_out
  of_row type collected e turns enough = rw (first, e) (collected e turns enough)

  identity_collected : (found : Option Identity) → identity_found image ≡ found → (found ≡ None → ⊥)
      → Collected (waiting_by Gives71) (identity_of found request)
  unfolding next_of
  identity_collected (Some h) e some = once _ image _ (rw e)
  identity_collected None e some = absurd (some refl)

  dates_collected : (found : Option Dates) → dates_found image ≡ found → dated found ≡ true → Collected (waiting_by Gives131) (dates_of found request)
  unfolding next_of
  dates_collected (Some d) e some = once _ image _ (rw e)
  dates_collected None e some = absurd (false≢true some)

  -- mirror 7, events, mirror 10
  events_row : (request_in request).header.type_id ≡ 102 → Collected (waiting_by GivesData) (between_mirrors request (events_for image request))
  events_row e turns enough =
      events_collected (waiting_by GivesData) image refl e turns
      (omega (
        arith,
        enough,
        between_length request (events_for image request),
        length-map (in_groups 27 (choice (Event (span_in request)) image)) (events_message (span_in request)),
        events_number (waiting_by GivesData) image,
      ))

  -- mirror 7, readings, mirror 10
  readings_row : (type : ℕ) → (type ≡ 102 → ⊥) → asks_readings type ≡ true → (request_in request).header.type_id ≡ type
      → Collected (waiting_by GivesData) (between_mirrors request (readings_for (reading_type type) image request))
  readings_row type other asks e turns enough =
      readings_collected (waiting_by GivesData) image refl (λ z. other (sym e ∙ z))
      (accepted_offered session image clock (request_in request) first (rw e asks)) turns
      (omega (
        arith,
        enough,
        between_length request (readings_for (reading_type type) image request),
        length-map (choice (Reading (span_in request)) image) (reading_message (reading_type type) (span_in request) (request_in request).objects),
      ))
      ∙ ap (λ (k : ℕ). between_mirrors request (readings_for (reading_type k) image request)) e

  rows : sound_image image ≡ true
      → Each
      (λ (w : WaitingRow). (request_in request).header.type_id ≡ w.type → Collected (carried_out session image clock request).pending w.messages)
      (waiting_rows image clock request)
  unfolding table row_in asks_readings next_of mirror_with reading_type clock_from
  rows sound =
      of_row 100 (λ e. identity_collected (identity_found image) refl (head_there image sound))
      and of_row 102 events_row
      and of_row 103 (λ e. once _ image _ refl)
      and of_row 122 (readings_row 122 (λ z. omega arith) refl)
      and of_row 123 (readings_row 123 (λ z. omega arith) refl)
      and of_row 181 (λ e. once _ image _ refl)
      and of_row 183 (λ e. once _ image _ refl)
      and of_row 185 (λ e. dates_collected (dates_found image) refl (accepted_dated session image clock (request_in request) first e))
      and of_row 186 (λ e. once _ image _ refl)
      and of_row 187 (λ e. once _ image _ refl)
      and tt

pub waiting_replies : WaitingReplies
waiting_replies session image clock request sound first = rows session image clock request first sound

-- the mirror of a rule is given last
pub mirror_next : (request : Kept) (clock image : List ℕ) (rule : Rule)
    → next_by request (mirror_by rule) clock image ≡ lastly (mirror_of request (pn_bit (pn_by rule)) (cause_by rule))
unfolding mirror_with
mirror_next request clock image rule =
    either (λ (w : Waiting). next_by request w clock image ≡ lastly (mirror_of request (pn_bit (pn_by rule)) (cause_by rule))) (pn_by rule)
    (λ t. rw (t, only_seven rule t)) (λ t. rw (t, cause_small rule))

pub one_mirror_each : OneMirror
unfolding carried_out next_of
one_mirror_each session image clock request rule decided other turns some =
    let r = request_in request in
    let found = row_in table r.header.type_id in
    once _ image _ (rw (decided, refused_mirror rule session clock r found other) (mirror_next request _ image rule)) turns some

pub chosen_alone : ChosenAlone
unfolding chosen in_span data_from next_reading
chosen_alone =
    record {
      of_readings = λ span r r' s. rw (s.same_kind, s.same_point, s.same_record, s.same_label);
      of_images = readings_alone;
      of_replies = λ image image' same request other before. rw (ne_eqb _ 102 other, readings_alone image image' same (span_in request));
    }
