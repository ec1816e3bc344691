-- The cases of document 01 that are marked P, as one list: octets and what is said of them. A conversation starts at power-on with
-- document 01's smallest image, and of each gap all is said: number, reply, no order and no time octets, the rest of the buffer, and the whole
-- card that is left. So it shuts out a definition that opens no session for the right password, sets the clock with every ACK, counts no damaged
-- run, leaves the run in the collector, or powers on reset: a list of numbers and replies alone does not. Assumes nothing.
use Rattle.std.specs.Prelude.{ℕ, Bool, true, false, List, [], ◌∷◌, map, length, replicate}
use Rattle.octets.specs.Choice.{when◌then◌else◌}
use Rattle.octets.specs.Over.{laid_in}
use Rattle.address.specs.declared.LinkAddress.{LinkAddress}
use Rattle.address.specs.declared.PointAddress.{PointAddress}
use Rattle.history.specs.History.{Stepped}
use Rattle.label.specs.Label.{valid_a, parts_a, second, millisecond, label_a_at, label_b_at}
use Rattle.frame.specs.declared.Control.TheVariants.{Ack}
use Rattle.frame.specs.declared.Reply.{Reply}
use Rattle.frame.specs.Writing.{plain}
use Rattle.octets.specs.Keeping.{kept_of}
use Rattle.collector.specs.Collecting.{emptied}
use Rattle.rules.specs.declared.Session.{Session}
use Rattle.rules.specs.declared.Session.TheVariants.{Closed, Open}
use Rattle.deeds.specs.declared.Order.TheVariants.{NoOrder}
use Rattle.deeds.specs.declared.Pending.{Pending}
use Rattle.deeds.specs.declared.Waiting.{Waiting}
use Rattle.deeds.specs.declared.Waiting.TheVariants.{NoReply, Mirror}
use Rattle.profile.specs.declared.Profile.{Profile}
use Rattle.profile.specs.Profile.{run_sent}
use Rattle.link.specs.State.{data_reply}
use Rattle.card.specs.declared.Card.{Card}
use Rattle.card.specs.State.{card_at_power_on}
use Rattle.tender.specs.Card.{Loan, Seen, no_time, received, ours}

-- a run, and what its gap does: the number, the reply's octets, the card that is left
pub record Turn : Type 0 where
  pub run : List ℕ
  pub number : ℕ
  pub reply : List ℕ
  pub card : Card

abbrev pub turn : List ℕ → ℕ → List ℕ → Card → Turn
turn run number reply card = record { run = run; number = number; reply = reply; card = card }

pub data Case : Type 0 where
  conversation : List Turn → Case
  -- the octets of a label a; 1 if it is valid, else 0; year, month, day, hour, minute
  label : List ℕ → ℕ → List ℕ → Case
  -- the octets that begin a label b; second, millisecond
  beginning : List ℕ → List ℕ → Case

-- address 1, point 1, password 12345678 hex
abbrev pub smallest : List ℕ
smallest =
    0x01 ∷ 0x00 ∷ 0x09 ∷ 0x01 ∷ 0x00 ∷ 0x01 ∷ 0x00 ∷ 0x00 ∷ 0x00 ∷ 0x00 ∷ 0x00 ∷ 0x00
    ∷ 0x00 ∷ 0x07 ∷ 0x02 ∷ 0x00 ∷ 0x01 ∷ 0x12 ∷ 0x34 ∷ 0x56 ∷ 0x78 ∷ []

abbrev pub lent : Loan
lent = record { image = smallest; clock = replicate 7 0; buffer = replicate 261 0 }

-- a card is left, and a number and a reply are seen, in the first octets of the buffer; the rest of it is unchanged, and there is no order
abbrev pub says : Card → ℕ → List ℕ → List ℕ → Stepped Card Seen
says card number reply buffer =
    record {
      state = card;
      answer = record { number = number; count = length reply; order = NoOrder; time = no_time; buffer = laid_in buffer reply };
    }

-- what is said of a case: outcomes of gaps, or numbers
pub data Said : Type 0 where
  outcomes : List (Stepped Card Seen) → Said
  numbers : List ℕ → Said

-- turn after turn, by the definition, in a profile: with eleven bits each octet comes with its right parity bit
abbrev pub outcomes_from : Profile → Card → List Turn → List (Stepped Card Seen)
outcomes_from p card [] = []
outcomes_from p card (t ∷ turns) =
    let outcome = received (ours p) card (run_sent p t.run) lent in
    outcome ∷ outcomes_from p outcome.state turns

abbrev pub said_of : Profile → Case → Said
said_of p (conversation turns) = outcomes (outcomes_from p card_at_power_on turns)
said_of p (label octets valid parts) = numbers ((when valid_a (label_a_at octets 0) then 1 else 0) ∷ parts_a (label_a_at octets 0))
said_of p (beginning octets parts) = numbers (second (label_b_at octets 0) ∷ millisecond (label_b_at octets 0) ∷ [])

-- what document 01 says of it
abbrev pub written_of : Case → Said
written_of (conversation turns) = outcomes (map (λ t. says t.card t.number t.reply lent.buffer) turns)
written_of (label octets valid parts) = numbers (valid ∷ parts)
written_of (beginning octets parts) = numbers parts

-- reset, collection with FCB 0, the ACK
abbrev pub reset : List ℕ
reset = 0x10 ∷ 0x40 ∷ 0x01 ∷ 0x00 ∷ 0x41 ∷ 0x16 ∷ []

abbrev pub collect : List ℕ
collect = 0x10 ∷ 0x5B ∷ 0x01 ∷ 0x00 ∷ 0x5C ∷ 0x16 ∷ []

abbrev pub acknowledged : List ℕ
acknowledged = 0x10 ∷ 0x00 ∷ 0x01 ∷ 0x00 ∷ 0x01 ∷ 0x16 ∷ []

-- the password of point 1, and its mirror with cause 7
abbrev pub password : List ℕ
password =
    0x68 ∷ 0x0D ∷ 0x0D ∷ 0x68 ∷ 0x73 ∷ 0x01 ∷ 0x00 ∷ 0xB7 ∷ 0x01 ∷ 0x06 ∷ 0x01 ∷ 0x00 ∷ 0x00 ∷ 0x78 ∷ 0x56 ∷ 0x34 ∷ 0x12 ∷ 0x47 ∷ 0x16 ∷ []

abbrev pub confirmed : List ℕ
confirmed =
    0x68 ∷ 0x0D ∷ 0x0D ∷ 0x68 ∷ 0x08 ∷ 0x01 ∷ 0x00 ∷ 0xB7 ∷ 0x01 ∷ 0x07 ∷ 0x01 ∷ 0x00 ∷ 0x00 ∷ 0x78 ∷ 0x56 ∷ 0x34 ∷ 0x12 ∷ 0xDD ∷ 0x16 ∷ []

-- a request for the clock without a session, and its mirror with cause 14
abbrev pub clock_asked : List ℕ
clock_asked = 0x68 ∷ 0x09 ∷ 0x09 ∷ 0x68 ∷ 0x73 ∷ 0x01 ∷ 0x00 ∷ 0x67 ∷ 0x00 ∷ 0x05 ∷ 0x01 ∷ 0x00 ∷ 0x00 ∷ 0xE1 ∷ 0x16 ∷ []

abbrev pub clock_refused : List ℕ
clock_refused = 0x68 ∷ 0x09 ∷ 0x09 ∷ 0x68 ∷ 0x08 ∷ 0x01 ∷ 0x00 ∷ 0x67 ∷ 0x00 ∷ 0x0E ∷ 0x01 ∷ 0x00 ∷ 0x00 ∷ 0x7F ∷ 0x16 ∷ []

-- the card that is left, with an empty collector: whether it is reset, the last FCB, the session, the remembered reply, what waits, and the count
-- of damaged runs
abbrev pub card_left : Bool → ℕ → Session → Reply → Pending → ℕ → Card
card_left reset fcb session remembered pending damaged =
    record {
      collector = emptied;
      link = record { reset = reset; fcb = fcb; session = session; remembered = remembered; pending = pending };
      damaged = damaged;
    }

-- this waits, of a request of these octets; nothing
abbrev pub waits : Waiting → List ℕ → Pending
waits waiting request = record { waiting = waiting; request = kept_of request; clock = replicate 7 0 }

abbrev pub nothing_waits : Pending
nothing_waits = waits NoReply []

abbrev pub our_link : LinkAddress
our_link = record { 0 = 1 }

abbrev pub our_point : PointAddress
our_point = record { 0 = 1 }

-- the remembered reply: none yet, the ACK, a message of these octets
abbrev pub none_kept : Reply
none_kept = plain Ack (record { 0 = 0 })

abbrev pub ack_kept : Reply
ack_kept = plain Ack our_link

abbrev pub data_kept : List ℕ → Reply
data_kept message = data_reply (kept_of message) our_link

-- a reset, as in case 1: session closed, nothing waiting, last FCB 0, the ACK remembered
abbrev pub reset_turn : Turn
reset_turn = turn reset 0 acknowledged (card_left true 0 Closed ack_kept nothing_waits 0)

-- the mirror is collected, as in case 5: the session stays open, nothing waits any more, the mirror is remembered
abbrev pub confirmed_turn : Turn
confirmed_turn =
    turn collect 0 confirmed
    (card_left true 0 (Open our_point) (data_kept (0xB7 ∷ 0x01 ∷ 0x07 ∷ 0x01 ∷ 0x00 ∷ 0x00 ∷ 0x78 ∷ 0x56 ∷ 0x34 ∷ 0x12 ∷ [])) nothing_waits 0)

abbrev pub cases : List Case
cases =
    -- 1
    conversation (reset_turn ∷ [])
    -- 2: as at power-on, but one run is damaged
    ∷ conversation (turn (0x10 ∷ 0x41 ∷ 0x01 ∷ 0x00 ∷ 0x41 ∷ 0x16 ∷ []) 4 [] (card_left false 0 Closed none_kept nothing_waits 1) ∷ [])
    -- 3: the ACK again, and nothing changes
    ∷ conversation (reset_turn ∷ turn collect 0 acknowledged reset_turn.card ∷ [])
    -- 4: the session is open for point 1, and the mirror waits; 5, and sent again
    ∷ conversation
    (reset_turn
    ∷ turn password 0 acknowledged
    (card_left true 1 (Open our_point) ack_kept (waits (Mirror 7) (0xB7 ∷ 0x01 ∷ 0x06 ∷ 0x01 ∷ 0x00 ∷ 0x00 ∷ 0x78 ∷ 0x56 ∷ 0x34 ∷ 0x12 ∷ [])) 0)
    ∷ confirmed_turn
    ∷ confirmed_turn
    ∷ [])
    -- 6: there is no session, so the mirror with cause 14 waits, and is given
    ∷ conversation
    (reset_turn
    ∷ turn clock_asked 0 acknowledged (card_left true 1 Closed ack_kept (waits (Mirror 14) (0x67 ∷ 0x00 ∷ 0x05 ∷ 0x01 ∷ 0x00 ∷ 0x00 ∷ [])) 0)
    ∷ turn collect 0 clock_refused (card_left true 0 Closed (data_kept (0x67 ∷ 0x00 ∷ 0x0E ∷ 0x01 ∷ 0x00 ∷ 0x00 ∷ [])) nothing_waits 0)
    ∷ [])
    -- 7: 1 January 2001 00:15
    ∷ label (0x0F ∷ 0x00 ∷ 0x21 ∷ 0x01 ∷ 0x01 ∷ []) 1 (1 ∷ 1 ∷ 1 ∷ 0 ∷ 15 ∷ [])
    -- 8: 29 February 2000, and 2001
    ∷ label (0 ∷ 0 ∷ 29 ∷ 2 ∷ 0 ∷ []) 1 (0 ∷ 2 ∷ 29 ∷ 0 ∷ 0 ∷ [])
    ∷ label (0 ∷ 0 ∷ 29 ∷ 2 ∷ 1 ∷ []) 0 (1 ∷ 2 ∷ 29 ∷ 0 ∷ 0 ∷ [])
    -- 9: 59 s 999 ms
    ∷ beginning (0xE7 ∷ 0xEF ∷ []) (59 ∷ 999 ∷ [])
    ∷ []
