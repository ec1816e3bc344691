-- Runs, loans, histories and cards that the wrong cards and the noisy history are tried on, in octets; `Sent` has them in both profiles.
-- Over document 01's smallest image. Assumes nothing.
use Prim.Native.Nat.{ℕ}
use mathlib.Core.Bool.{false}
use mathlib.Core.List.{List, [], ◌∷◌}
use lib.ListN.{set, replicate}
use Rattle.history.specs.History.{fed, closed_run}
use Rattle.profile.specs.declared.Profile.TheVariants.{Ten}
use Rattle.rules.specs.declared.Session.{Session}
use Rattle.rules.specs.declared.Session.TheVariants.{Closed, Open}
use Rattle.deeds.specs.declared.Order.{Order}
use Rattle.deeds.specs.declared.Order.TheVariants as order
use Rattle.link.specs.State.{power_on}
use Rattle.card.specs.declared.Card.{Card}
use Rattle.card.specs.State.{card_at_power_on}
use Rattle.tender.specs.Card.{Loan, Seen, History, end_of, ours, our_card}
use Rattle.tender.specs.Cases.{smallest, lent, reset, collect, password}
use Rattle.tender.specs.Wrong.{repeater}

-- runs of octets, each closed by a gap
abbrev pub closed_runs : List (List ℕ) → History Ten
closed_runs [] = []
closed_runs (run ∷ runs) = closed_run run lent (closed_runs runs)

-- collection with FCB 1
abbrev pub asking : List ℕ
asking = 0x10 ∷ 0x7B ∷ 0x01 ∷ 0x00 ∷ 0x7C ∷ 0x16 ∷ []

-- noise: over 261 octets, not the form of a frame, a wrong checksum, a reset with one octet changed
abbrev pub long : List ℕ
long = replicate 262 0x10

abbrev pub malformed : List ℕ
malformed = 0x10 ∷ 0x40 ∷ 0x01 ∷ []

abbrev pub spoiled : List ℕ
spoiled = 0x10 ∷ 0x40 ∷ 0x01 ∷ 0x00 ∷ 0x42 ∷ 0x16 ∷ []

abbrev pub changed : List ℕ
changed = set reset 1 0x41

-- a reset, and the same with noise before and after it
abbrev pub quiet : History Ten
quiet = closed_run reset lent []

abbrev pub noisy : History Ten
noisy = closed_run long lent (closed_run malformed lent (closed_run reset lent (closed_run spoiled lent (closed_run changed lent []))))

-- what it answers is no fixed silence: the ACK, number 0
abbrev pub ack : Seen
ack =
    record {
      number = 0;
      count = 6;
      order = order.NoOrder;
      time = replicate 10 0;
      buffer = 0x10 ∷ 0x00 ∷ 0x01 ∷ 0x00 ∷ 0x01 ∷ 0x16 ∷ replicate 255 0;
    }

-- and what noise gets: a number
abbrev pub unanswered : ℕ → Seen
unanswered number = record { number = number; count = 0; order = order.NoOrder; time = replicate 10 0; buffer = replicate 261 0 }

-- a collector that no run has left: it holds none, but not zeros
abbrev pub odd : Card
odd = record { collector = record { octets = 1 ∷ replicate 260 0; length = 0; marked = false }; link = power_on; damaged = 0 }

abbrev pub ready : Card
ready = end_of (our_card Ten) quiet

-- 09, nothing to give: 10 09 01 00 0A 16
abbrev pub nothing_to_give : List ℕ
nothing_to_give = 0x10 ∷ 0x09 ∷ 0x01 ∷ 0x00 ∷ 0x0A ∷ 0x16 ∷ []

-- what is compared: the first gap's number and order, the last gap's number and reply length, the session and the last FCB at the end
abbrev pub first_number : List Seen → ℕ
first_number [] = 99
first_number (seen ∷ rest) = seen.number

abbrev pub order_number : Order → ℕ
order_number order.NoOrder = 0
order_number order.SetClock = 1
order_number order.SetDates = 2

abbrev pub first_order : List Seen → ℕ
first_order [] = 99
first_order (seen ∷ rest) = order_number seen.order

abbrev pub last_number : List Seen → ℕ
last_number [] = 99
last_number (seen ∷ []) = seen.number
last_number (seen ∷ next ∷ rest) = last_number (next ∷ rest)

abbrev pub last_count : List Seen → ℕ
last_count [] = 99
last_count (seen ∷ []) = seen.count
last_count (seen ∷ next ∷ rest) = last_count (next ∷ rest)

abbrev pub session_number : Session → ℕ
session_number Closed = 0
session_number (Open point) = 1

abbrev pub session_of : Card → ℕ
session_of card = session_number card.link.session

-- behind a concentrator: link address 2, point 1; a reset and the point's password
abbrev pub behind : Loan
behind = record { image = set smallest 5 2; clock = lent.clock; buffer = lent.buffer }

abbrev pub opened_behind : History Ten
opened_behind =
    closed_run (0x10 ∷ 0x40 ∷ 0x02 ∷ 0x00 ∷ 0x42 ∷ 0x16 ∷ []) behind
    (closed_run
    (0x68 ∷ 0x0D ∷ 0x0D ∷ 0x68 ∷ 0x73 ∷ 0x02 ∷ 0x00 ∷ 0xB7 ∷ 0x01 ∷ 0x06 ∷ 0x01 ∷ 0x00 ∷ 0x00 ∷ 0x78 ∷ 0x56 ∷ 0x34 ∷ 0x12 ∷ 0x48 ∷ 0x16 ∷ []) behind
    [])

-- a card that has a changed reset in its collector, and one that has a malformed run
abbrev pub changed_card : Card
changed_card = fed (ours Ten) card_at_power_on changed

abbrev pub malformed_card : Card
malformed_card = fed (ours Ten) card_at_power_on malformed

-- a buffer of ones
abbrev pub ones : Loan
ones = record { image = smallest; clock = lent.clock; buffer = replicate 261 1 }

-- a reset, the password and its mirror; with a run of one octet put in; and the card that only repeats, after the reset
abbrev pub opened : History Ten
opened = closed_runs (reset ∷ password ∷ collect ∷ [])

abbrev pub one_octet_in : History Ten
one_octet_in = closed_runs (reset ∷ (0 ∷ []) ∷ password ∷ collect ∷ [])

abbrev pub after_first : Card
after_first = end_of (repeater Ten) quiet
