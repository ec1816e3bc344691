-- Document 02, #105, "Why did the meter say no?": "the card's cause must be that rule's. An accepted message is named so." As statements about any card's gap: a message
-- is asked about, sent in a fresh data frame while nothing waits, and then the next reply is collected. That the named rule holds and no earlier one does is stated in `why/specs/Stated`.
-- They shut out a card that gives another rule's cause, or P/N 1 for a refusal by cause; one that sends the mirror of another message, or another reply before it; one that refuses what is
-- named accepted, or does what is named refused; one that opens the session of another point, or gives another order. Assumes nothing.
use Rattle.std.specs.Prelude.{ℕ, ◌≤◌, false, List, [], ◌∷◌, ◌++◌, ◌≡◌, length, get_or, drop, replicate, Ok}
use Rattle.octets.specs.Bits.{bits◌to◌of◌}
use Rattle.octets.specs.declared.Kept.{Kept}
use Rattle.octets.specs.Keeping.{octets_of}
use Rattle.history.specs.History.{Stepped, Each}
use Rattle.frame.specs.declared.Service.TheVariants.{UserData, Collection}
use Rattle.message.specs.Mirror.{pn_bit}
use Rattle.rules.specs.declared.Session.{Session}
use Rattle.rules.specs.declared.Session.TheVariants.{Closed, Open}
use Rattle.rules.specs.declared.Rule.{Rule}
use Rattle.rules.specs.declared.Rule.TheVariants.{WrongPassword, Accepted}
use Rattle.rules.specs.Rules.{cause_by, pn_by}
use Rattle.deeds.specs.declared.Order.{Order}
use Rattle.deeds.specs.declared.Order.TheVariants.{NoOrder, SetClock, SetDates}
use Rattle.waiting.specs.Collected.{messages_collected}
use Rattle.link.specs.State.{data_reply}
use Rattle.card.specs.declared.Card.{Card}
use Rattle.why.specs.Asking.{why_of}
use Rattle.tender.specs.Card.{Loan, Seen, GapCall, no_time}
use Rattle.tender.specs.Rules.{own_address, ack, Replies, Afresh, replies_wait, request_in, point_in, WaitingRow, waiting_rows}

-- a message is named by a rule, nothing waits, and a fresh data frame with it is heard
pub record Sent (card : Card) (loan : Loan) (user : Kept) (bit : ℕ) (rule : Rule) : Type 0 where
  pub named : why_of card.link.session loan.image loan.clock (octets_of user) ≡ Ok rule
  pub nothing_waits_law : replies_wait card ≡ false
  pub afresh : Afresh card loan (UserData bit) user bit

-- a mirror of a message: its octets with this cause and P/N; T is kept
pub record MirrorOf (m : List ℕ) (cause pn : ℕ) (mirror : List ℕ) : Type 0 where
  pub as_long : length mirror ≡ length m
  pub elsewhere : (i : ℕ) → (i ≡ 2 → ⊥) → get_or mirror i 0 ≡ get_or m i 0
  pub its_cause : bits 1 to 6 of get_or mirror 2 0 ≡ cause
  pub its_pn : bits 7 to 7 of get_or mirror 2 0 ≡ pn
  pub its_t : bits 8 to 8 of get_or mirror 2 0 ≡ bits 8 to 8 of get_or m 2 0

-- a reply of data, which is such a mirror
pub record Mirrored (loan : Loan) (m : List ℕ) (cause pn : ℕ) (seen : Seen) : Type 0 where
  pub message : Kept
  pub replies : Replies loan (data_reply message (own_address loan)) seen
  pub mirrors : MirrorOf m cause pn (octets_of message)

-- "the card's cause must be that rule's": the next collection that is heard, whatever it is lent, brings the mirror with the cause and P/N of the rule. In between
-- octets and damaged runs may come, which leave the link
abbrev pub RefusedAsNamed : GapCall → Type 0
RefusedAsNamed gap =
    (card : Card) (loan : Loan) (user : Kept) (bit : ℕ) (rule : Rule) → Sent card loan user bit rule → (rule ≡ Accepted → ⊥)
    → (later : Card) → later.link ≡ (gap card loan).state.link → (its-loan : Loan) (nothing : Kept) (next : ℕ) → Afresh later its-loan (Collection next) nothing next
    → Mirrored its-loan (octets_of user) (cause_by rule) (pn_bit (pn_by rule)) (gap later its-loan).answer

-- and before that, with the data frame, it gets the ACK, gives no order and leaves the session as it was; a wrong password closes it
pub record NotDone (card : Card) (loan : Loan) (rule : Rule) (x : Stepped Card Seen) : Type 0 where
  pub acked : Replies loan (ack loan) x.answer
  pub no_order : x.answer.order ≡ NoOrder
  pub no_time_law : x.answer.time ≡ no_time
  pub session_kept : (rule ≡ WrongPassword → ⊥) → x.state.link.session ≡ card.link.session
  pub shut_out : rule ≡ WrongPassword → x.state.link.session ≡ Closed

abbrev pub RefusedNotDone : GapCall → Type 0
RefusedNotDone gap =
    (card : Card) (loan : Loan) (user : Kept) (bit : ℕ) (rule : Rule) → Sent card loan user bit rule → (rule ≡ Accepted → ⊥)
    → NotDone card loan rule (gap card loan)

-- What a message of each type does, beside what waits: the session after it, the order and its time octets
pub record DoneRow : Type 0 where
  pub type : ℕ
  pub session : Session
  pub order : Order
  pub time : List ℕ

abbrev pub done_row : ℕ → Session → Order → List ℕ → DoneRow
done_row type session order time = record { type = type; session = session; order = order; time = time }

abbrev pub done_rows : Session → Kept → List DoneRow
done_rows session request =
    done_row 100 session NoOrder no_time
    ∷ done_row 102 session NoOrder no_time
    ∷ done_row 103 session NoOrder no_time
    ∷ done_row 122 session NoOrder no_time
    ∷ done_row 123 session NoOrder no_time
    ∷ done_row 181 session SetClock (drop 6 (octets_of request) ++ replicate 3 0)
    ∷ done_row 183 (Open (point_in request)) NoOrder no_time
    ∷ done_row 185 session NoOrder no_time
    ∷ done_row 186 session SetDates (drop 6 (octets_of request))
    ∷ done_row 187 Closed NoOrder no_time
    ∷ []

pub record DoneAs (r : DoneRow) (x : Stepped Card Seen) : Type 0 where
  pub its_session : x.state.link.session ≡ r.session
  pub its_order : x.answer.order ≡ r.order
  pub its_time : x.answer.time ≡ r.time

-- what so many collections give when each is lent the image of the request
abbrev pub WaitsAs : List ℕ → WaitingRow → Stepped Card Seen → Type 0
WaitsAs image r x = (turns : ℕ) → length r.messages ≤ turns → messages_collected turns x.state.link.pending image ≡ r.messages

-- "An accepted message is named so": it gets the ACK and does what its row of the table says
pub record DoneByTable (card : Card) (loan : Loan) (user : Kept) (x : Stepped Card Seen) : Type 0 where
  pub acked : Replies loan (ack loan) x.answer
  pub done : Each (λ (r : DoneRow). (request_in user).header.type_id ≡ r.type → DoneAs r x) (done_rows card.link.session user)
  pub waits : Each (λ (r : WaitingRow). (request_in user).header.type_id ≡ r.type → WaitsAs loan.image r x) (waiting_rows loan.image loan.clock user)

abbrev pub AcceptedAsNamed : GapCall → Type 0
AcceptedAsNamed gap =
    (card : Card) (loan : Loan) (user : Kept) (bit : ℕ) → Sent card loan user bit Accepted → DoneByTable card loan user (gap card loan)
