-- Document 01's rules of the link, of orders, of the session and of what waits, one by one, each beside the paper's sentence: first as statements about any
-- card's gap, collected in `Rules`, then about the definitions that these cite. What a card leaves is spelled part by part, so that a part which changes
-- where it may not is seen. `P ⊎ Q` says: P or Q. Assumes nothing.
use Rattle.std.specs.Prelude.{ℕ, ◌≤◌, Bool, true, false, ◌||◌, List, [], ◌∷◌, ◌++◌, map, ◌⊎◌, ◌≡◌, ltb, length, drop, replicate, Option, Some, None}
use Rattle.octets.specs.Over.{laid_in}
use Rattle.history.specs.History.{Stepped, Each}
use Rattle.address.specs.declared.LinkAddress.{LinkAddress}
use Rattle.address.specs.declared.PointAddress.{PointAddress}
use Rattle.frame.specs.declared.Control.TheVariants as control
use Rattle.frame.specs.declared.Reply.{Reply}
use Rattle.frame.specs.declared.Service.{Service}
use Rattle.frame.specs.declared.Service.TheVariants.{Reset, UserData, Status, Collection}
use Rattle.frame.specs.Controls.{Counts}
use Rattle.frame.specs.Writing.{plain, reply_octets}
use Rattle.octets.specs.declared.Kept.{Kept}
use Rattle.message.specs.declared.Request.{Request}
use Rattle.message.specs.Requests.{request_of}
use Rattle.message.specs.Mirror.{pn_bit}
use Rattle.octets.specs.Keeping.{octets_of, kept_of}
use Rattle.message.specs.Mirror.{mirror_of}
use Rattle.records.specs.Records.{kind_of}
use Rattle.fields.specs.Parts.{point_of, record_address, reading_label}
use Rattle.fields.specs.Answers.{identity_found, dates_found}
use Rattle.image.specs.Image.{sound_image}
use Rattle.choice.specs.declared.Span.{Span}
use Rattle.choice.specs.declared.Query.TheVariants.{Reading, Event}
use Rattle.choice.specs.Choice.{chosen, choice, readings_of}
use Rattle.rules.specs.declared.Session.{Session}
use Rattle.rules.specs.declared.Session.TheVariants.{Closed, Open}
use Rattle.rules.specs.declared.Rule.{Rule}
use Rattle.rules.specs.declared.Rule.TheVariants.{WrongPassword, Accepted}
use Rattle.rules.specs.Rules.{cause_by, pn_by}
use Rattle.rules.specs.Decide.{span_of, decide}
use Rattle.data.specs.Messages.{identity_reply, clock_reply, dates_reply}
use Rattle.deeds.specs.declared.Order.{Order}
use Rattle.deeds.specs.declared.Order.TheVariants as order
use Rattle.deeds.specs.declared.Pending.{Pending}
use Rattle.deeds.specs.declared.Carried.{Carried}
use Rattle.deeds.specs.Deeds.{carried_out, nothing_pending, is_waiting}
use Rattle.waiting.specs.declared.Next.{Next}
use Rattle.waiting.specs.NextReply.{data_from, next_of, message_in}
use Rattle.waiting.specs.Collected.{messages_collected, in_groups, events_message, reading_message}
use Rattle.link.specs.declared.Link.{Link}
use Rattle.link.specs.State.{data_reply}
use Rattle.link.specs.Answering.{link_in}
use Rattle.card.specs.declared.Card.{Card}
use Rattle.card.specs.State.{left_with}
use Rattle.tender.specs.Card.{Loan, Seen, GapCall, Heard, no_time}
use Rattle.fields.specs.declared.Identity.{Identity}
use Rattle.fields.specs.declared.Dates.{Dates}

-- a gap at which a service is heard, lent a full buffer and a sound image
pub record Hears (card : Card) (loan : Loan) (service : Service) (user : Kept) : Type 0 where
  pub room : 261 ≤ length loan.buffer
  pub sound_image_law : sound_image loan.image ≡ true
  pub heard : Heard card loan service user

-- the link address of the image lent, which new replies carry
abbrev pub own_address : Loan → LinkAddress
own_address loan = link_in (identity_found loan.image)

abbrev pub ack : Loan → Reply
ack loan = plain control.Ack (own_address loan)

abbrev pub nack : Loan → Reply
nack loan = plain control.Nack (own_address loan)

abbrev pub status : Loan → Reply
status loan = plain control.Status (own_address loan)

-- 09
abbrev pub nothing_to_give : Loan → Reply
nothing_to_give loan = plain control.NothingToGive (own_address loan)

-- 0, "frame answered": "reply in the first octets of the buffer, the rest unchanged"
pub record Replies (loan : Loan) (reply : Reply) (seen : Seen) : Type 0 where
  pub number : seen.number ≡ 0
  pub counts : seen.count ≡ length (reply_octets reply)
  pub stands : seen.buffer ≡ laid_in loan.buffer (reply_octets reply)

-- a link that was reset, part by part
abbrev pub link_with : ℕ → Session → Reply → Pending → Link
link_with fcb session remembered pending = record { reset = true; fcb = fcb; session = session; remembered = remembered; pending = pending }

-- nothing changes but the last FCB and the remembered reply
abbrev pub noting : ℕ → Reply → Card → Link
noting bit reply card = link_with bit card.link.session reply card.link.pending

-- what a gap answers and leaves: a reply, an order, a link
pub record Answers (card : Card) (loan : Loan) (reply : Reply) (its_order : Order) (link : Link) (x : Stepped Card Seen) : Type 0 where
  pub replies : Replies loan reply x.answer
  pub orders : x.answer.order ≡ its_order
  pub leaves : x.state ≡ left_with link card

-- "Reset: ACK; session closed, waiting replies dropped, last FCB 0, the ACK remembered."
abbrev pub ResetCloses : GapCall → Type 0
ResetCloses gap =
    (card : Card) (loan : Loan) (user : Kept) → Hears card loan Reset user
    → Answers card loan (ack loan) order.NoOrder (link_with 0 Closed (ack loan) nothing_pending) (gap card loan)

-- "Status: reply 0B; changes nothing."
abbrev pub StatusKeeps : GapCall → Type 0
StatusKeeps gap =
    (card : Card) (loan : Loan) (user : Kept) → Hears card loan Status user → Answers card loan (status loan) order.NoOrder card.link (gap card loan)

-- 7, "function 3 or 11 before the first reset": "link and session unchanged"; no reply, no order, the buffer untouched, the run gone, the count as it was
pub record Unanswered (card : Card) (loan : Loan) (number : ℕ) (x : Stepped Card Seen) : Type 0 where
  pub numbered : x.answer.number ≡ number
  pub no_reply : x.answer.count ≡ 0
  pub no_order : x.answer.order ≡ order.NoOrder
  pub buffer_kept : x.answer.buffer ≡ loan.buffer
  pub leaves : x.state ≡ left_with card.link card

abbrev pub UnresetRefused : GapCall → Type 0
UnresetRefused gap =
    (card : Card) (loan : Loan) (service : Service) (user : Kept) (bit : ℕ) → Counts service bit → Hears card loan service user → card.link.reset ≡ false
    → Unanswered card loan 7 (gap card loan)

-- "Functions 3 and 11 with FCB equal to the last: the remembered reply again, octet for octet, nothing carried out, whatever the frame holds."
abbrev pub EqualRepeats : GapCall → Type 0
EqualRepeats gap =
    (card : Card) (loan : Loan) (service : Service) (user : Kept) (bit : ℕ) → Counts service bit → Hears card loan service user → card.link.reset ≡ true
    → bit ≡ card.link.fcb → Answers card loan card.link.remembered order.NoOrder card.link (gap card loan)

-- user data or a collection heard with a new FCB, after a reset
pub record Afresh (card : Card) (loan : Loan) (service : Service) (user : Kept) (bit : ℕ) : Type 0 where
  pub hears : Hears card loan service user
  pub is_reset : card.link.reset ≡ true
  pub new : bit ≡ card.link.fcb → ⊥

-- "FCB new: it becomes the last, the reply becomes the remembered one." The first half is `CountBit`
abbrev pub NewNoted : GapCall → Type 0
NewNoted gap =
    (card : Card) (loan : Loan) (service : Service) (user : Kept) (bit : ℕ) → Counts service bit → Afresh card loan service user bit
    → Replies loan (gap card loan).state.link.remembered (gap card loan).answer

-- replies wait
abbrev pub replies_wait : Card → Bool
replies_wait card = is_waiting card.link.pending.waiting

-- "if replies wait or there are under 6 user octets"
abbrev pub nack_due : Card → Kept → Bool
nack_due card user = replies_wait card || ltb user.length 6

-- the message carried out
abbrev pub carried_at : Card → Loan → Kept → Carried
carried_at card loan user = carried_out card.link.session loan.image loan.clock user

-- "Function 3 gets NACK if replies wait or there are under 6 user octets, else ACK and the message is carried out."
pub record DataTaken (card : Card) (loan : Loan) (user : Kept) (bit : ℕ) (x : Stepped Card Seen) : Type 0 where
  pub nack_if : nack_due card user ≡ true → Answers card loan (nack loan) order.NoOrder (noting bit (nack loan) card) x
  pub nack_only_if : Replies loan (nack loan) x.answer → nack_due card user ≡ true
  pub else_ack : nack_due card user ≡ false
      → Answers card loan (ack loan) (carried_at card loan user).order
      (link_with bit (carried_at card loan user).session (ack loan) (carried_at card loan user).pending) x
  pub times : nack_due card user ≡ false → x.answer.time ≡ (carried_at card loan user).time

abbrev pub NewData : GapCall → Type 0
NewData gap =
    (card : Card) (loan : Loan) (user : Kept) (bit : ℕ) → Afresh card loan (UserData bit) user bit → DataTaken card loan user bit (gap card loan)

-- the next waiting reply, from the image lent, and what waits behind it
abbrev pub next_at : Card → Loan → Next
next_at card loan = next_of card.link.pending loan.image

abbrev pub reply_at : Card → Loan → Reply
reply_at card loan = data_reply (message_in (next_at card loan)) (own_address loan)

-- "Function 11 gives the next waiting reply, or 09."
pub record Collects (card : Card) (loan : Loan) (bit : ℕ) (x : Stepped Card Seen) : Type 0 where
  pub nothing_if : replies_wait card ≡ false → Answers card loan (nothing_to_give loan) order.NoOrder (noting bit (nothing_to_give loan) card) x
  pub nothing_only_if : Replies loan (nothing_to_give loan) x.answer → replies_wait card ≡ false
  pub else_next : replies_wait card ≡ true
      → Answers card loan (reply_at card loan) order.NoOrder (link_with bit card.link.session (reply_at card loan) (next_at card loan).pending) x

abbrev pub NewCollection : GapCall → Type 0
NewCollection gap =
    (card : Card) (loan : Loan) (user : Kept) (bit : ℕ) → Afresh card loan (Collection bit) user bit → Collects card loan bit (gap card loan)

-- the request in a frame's user octets
abbrev pub request_in : Kept → Request
request_in user = request_of (octets_of user)

-- a gap at which a message of a type is carried out, decided by a rule
pub record Carries (card : Card) (loan : Loan) (user : Kept) (bit type : ℕ) (rule : Rule) : Type 0 where
  pub afresh : Afresh card loan (UserData bit) user bit
  pub taken : nack_due card user ≡ false
  pub is_type : (request_in user).header.type_id ≡ type
  pub decided : decide card.link.session loan.image loan.clock (request_in user) ≡ rule

-- "order to the meter (none, or set clock or set switch dates with the request's time octets)": an accepted 181 or 186 carried out afresh, and the octets
-- behind its header, seven and three zeros, or ten
pub data Ordered (card : Card) (loan : Loan) : Order → List ℕ → Type 0 where
  sets_clock_law : (user : Kept) (bit : ℕ) → Carries card loan user bit 181 Accepted
      → Ordered card loan order.SetClock (drop 6 (octets_of user) ++ replicate 3 0)
  sets_dates : (user : Kept) (bit : ℕ) → Carries card loan user bit 186 Accepted → Ordered card loan order.SetDates (drop 6 (octets_of user))

-- each such request gives its order, and no other gap gives any
pub record Orders (gap : GapCall) : Type 0 where
  pub so : (card : Card) (loan : Loan) {its_order : Order} {time : List ℕ} → Ordered card loan its_order time
      → ((gap card loan).answer.order ≡ its_order) × ((gap card loan).answer.time ≡ time)
  pub only_so : (card : Card) (loan : Loan)
      → Ordered card loan (gap card loan).answer.order (gap card loan).answer.time ⊎ (((gap card loan).answer.order ≡ order.NoOrder) × ((gap card loan).answer.time ≡ no_time))

-- what changes the session, and to which
pub data Changes (card : Card) (loan : Loan) : Session → Type 0 where
  by_reset : (user : Kept) → Hears card loan Reset user → Changes card loan Closed
  right_password : (user : Kept) (bit : ℕ) → Carries card loan user bit 183 Accepted → Changes card loan (Open (request_in user).header.point)
  wrong_password : (user : Kept) (bit : ℕ) → Carries card loan user bit 183 WrongPassword → Changes card loan Closed
  by_187 : (user : Kept) (bit : ℕ) → Carries card loan user bit 187 Accepted → Changes card loan Closed

-- "183: right password opens the session for that point, replacing any other; a wrong one gives P/N 1 and closes the session." 187: "session closed".
-- Whatever is heard, and whatever is refused, no other gap changes the session. That no character does is condition 1's `character_link_kept`
pub record Sessions (gap : GapCall) : Type 0 where
  pub so : (card : Card) (loan : Loan) {session : Session} → Changes card loan session → (gap card loan).state.link.session ≡ session
  pub only_so : (card : Card) (loan : Loan)
      → Changes card loan (gap card loan).state.link.session ⊎ ((gap card loan).state.link.session ≡ card.link.session)

-- "Refused by 14, 15 or 16 it changes none": a 183, or any other message
abbrev pub Refused183 : GapCall → Type 0
Refused183 gap =
    (card : Card) (loan : Loan) (user : Kept) (bit type : ℕ) (rule : Rule) → Carries card loan user bit type rule → 14 ≤ cause_by rule → cause_by rule ≤ 16
    → (gap card loan).state.link.session ≡ card.link.session

-- all of them
pub record Rules (gap : GapCall) : Type 0 where
  pub resets : ResetCloses gap
  pub keeps_at_status : StatusKeeps gap
  pub refuses_unreset : UnresetRefused gap
  pub repeats : EqualRepeats gap
  pub notes : NewNoted gap
  pub takes_data : NewData gap
  pub collects : NewCollection gap
  pub orders : Orders gap
  pub sessions : Sessions gap
  pub keeps_refused : Refused183 gap

-- "no session and type not 183, 14; .. session of another point and type not 183, 14": what is accepted and is no 183 stands in the session of its point
abbrev pub DataInSession : Type 0
DataInSession =
    (session : Session) (image clock : List ℕ) (r : Request) → decide session image clock r ≡ Accepted → (r.header.type_id ≡ 183 → ⊥)
    → session ≡ Open r.header.point

-- The table's column "Waiting replies". A row: a type, and the messages that wait
pub record WaitingRow : Type 0 where
  pub type : ℕ
  pub messages : List Kept

abbrev pub waiting_row : ℕ → List Kept → WaitingRow
waiting_row type messages = record { type = type; messages = messages }

abbrev pub point_in : Kept → PointAddress
point_in request = (request_in request).header.point

abbrev pub span_in : Kept → Span
span_in request = span_of (request_in request)

-- mirror 7 alone; and mirror 7, some data, mirror 10
abbrev pub mirror_alone : Kept → List Kept
mirror_alone request = mirror_of request 0 7 ∷ []

abbrev pub between_mirrors : Kept → List Kept → List Kept
between_mirrors request some = mirror_of request 0 7 ∷ (some ++ (mirror_of request 0 10 ∷ []))

-- 71 of the image's first record, 131 of its dates; a sound image has the one, and a request that is accepted finds the other
abbrev pub identity_of : Option Identity → Kept → List Kept
identity_of (Some h) request = kept_of (identity_reply (point_in request) h) ∷ []
identity_of None request = []

abbrev pub dates_of : Option Dates → Kept → List Kept
dates_of (Some d) request = kept_of (dates_reply (point_in request) d) ∷ []
dates_of None request = []

-- type 1, and types 8 and 11 with the objects that are asked for, of what is chosen
abbrev pub events_for : List ℕ → Kept → List Kept
events_for image request = map (events_message (span_in request)) (in_groups 27 (choice (Event (span_in request)) image))

abbrev pub readings_for : ℕ → List ℕ → Kept → List Kept
readings_for type image request = map (reading_message type (span_in request) (request_in request).objects) (choice (Reading (span_in request)) image)

-- of a request accepted with an image and a clock
abbrev pub waiting_rows : List ℕ → List ℕ → Kept → List WaitingRow
waiting_rows image clock request =
    waiting_row 100 (identity_of (identity_found image) request)
    ∷ waiting_row 102 (between_mirrors request (events_for image request))
    ∷ waiting_row 103 (kept_of (clock_reply (point_in request) clock) ∷ [])
    ∷ waiting_row 122 (between_mirrors request (readings_for 8 image request))
    ∷ waiting_row 123 (between_mirrors request (readings_for 11 image request))
    ∷ waiting_row 181 (mirror_alone request)
    ∷ waiting_row 183 (mirror_alone request)
    ∷ waiting_row 185 (dates_of (dates_found image) request)
    ∷ waiting_row 186 (mirror_alone request)
    ∷ waiting_row 187 (mirror_alone request)
    ∷ []

-- what so many collections give, one after the other, when each is lent the image with which the request was carried out
abbrev pub collected_after : Session → List ℕ → List ℕ → Kept → ℕ → List Kept
collected_after session image clock request turns = messages_collected turns (carried_out session image clock request).pending image

-- an accepted request of a row's type: as many collections as the row has messages, or more, give these and nothing more
abbrev pub WaitingReplies : Type 0
WaitingReplies =
    (session : Session) (image clock : List ℕ) (request : Kept) → sound_image image ≡ true → decide session image clock (request_in request) ≡ Accepted
    → Each
    (λ (r : WaitingRow). (request_in request).header.type_id ≡ r.type → (turns : ℕ) → length r.messages ≤ turns
    → collected_after session image clock request turns ≡ r.messages)
    (waiting_rows image clock request)

-- "Every refusal by cause is one mirror with P/N 0 .., except cause 7 with P/N 1"; "A mirror is the request's octets with another cause and P/N; T is kept."
abbrev pub OneMirror : Type 0
OneMirror =
    (session : Session) (image clock : List ℕ) (request : Kept) (rule : Rule) → decide session image clock (request_in request) ≡ rule → (rule ≡ Accepted → ⊥)
    → (turns : ℕ) → 1 ≤ turns
    → collected_after session image clock request turns ≡ mirror_of request (pn_bit (pn_by rule)) (cause_by rule) ∷ []

-- "Chosen are records of that point and record address with first ≤ label ≤ last ..", by these alone: two readings that agree on them are chosen both or
-- neither
pub record SameChoice (r r' : List ℕ) : Type 0 where
  pub same_kind : kind_of r ≡ kind_of r'
  pub same_point : point_of r ≡ point_of r'
  pub same_record : record_address r ≡ record_address r'
  pub same_label : reading_label r ≡ reading_label r'

-- and two images with the same readings, whatever else they hold, give the same choice, and the same data reply for the same request and count
pub record ChosenAlone : Type 0 where
  pub of_readings : (span : Span) (r r' : List ℕ) → SameChoice r r' → chosen (Reading span) r ≡ chosen (Reading span) r'
  pub of_images : (image image' : List ℕ) → readings_of image ≡ readings_of image' → (span : Span)
      → choice (Reading span) image ≡ choice (Reading span) image'
  pub of_replies : (image image' : List ℕ) → readings_of image ≡ readings_of image' → (request : Kept)
      → ((request_in request).header.type_id ≡ 102 → ⊥) → (before : ℕ) → data_from request image before ≡ data_from request image' before
