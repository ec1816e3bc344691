-- Wrong cards: those that document 01 names, others that a tired engineer could write, and others that looser conditions let through.
-- Assumes nothing.
use Rattle.std.specs.Prelude.{◌-◌, Bool, true, false, ◌&&◌, ◌||◌, [], ◌∷◌, ◌++◌, eqb, length, get_or, take, replicate, set}
use Rattle.octets.specs.Choice.{when◌then◌else◌}
use Rattle.frame.specs.Writing.{reply_octets}
use Rattle.profile.specs.declared.Profile.{Profile}
use Rattle.profile.specs.declared.Profile.TheVariants.{Eleven}
use Rattle.profile.specs.Profile.{CharacterIn}
use Rattle.collector.specs.declared.Collector.{Collector}
use Rattle.rules.specs.declared.Session.{Session}
use Rattle.rules.specs.declared.Session.TheVariants.{Closed, Open}
use Rattle.deeds.specs.declared.Pending.{Pending}
use Rattle.deeds.specs.declared.Order.TheVariants.{NoOrder, SetClock}
use Rattle.link.specs.declared.Link.{Link}
use Rattle.link.specs.State.{power_on, after_reset, after_new}
use Rattle.card.specs.declared.Card.{Card}
use Rattle.card.specs.State.{card_at_power_on, collecting, with_character, with_octet}
use Rattle.tender.specs.Card.{Loan, Seen, GapCall, AnyCard, our_gap, ours}
use Rattle.tender.specs.Cases.{says}

-- a wrong card is one in each profile
abbrev pub WrongCard : Type 0
WrongCard = (p : Profile) → AnyCard p

-- a card with our power-on and our character function, and another gap function
abbrev pub with_gap : GapCall → WrongCard
with_gap gap p = record { power_on = card_at_power_on; calls = record { symbol = with_character p; gap = gap; call = (ours p).call } }

-- and one with our power-on and our gap function, and another character function
abbrev pub with_symbol : ((p : Profile) → Card → CharacterIn p → Card) → WrongCard
with_symbol symbol p = record { power_on = card_at_power_on; calls = record { symbol = symbol p; gap = our_gap; call = (ours p).call } }

-- a card with another link; a link with another session, or with something else waiting
abbrev pub linked_by : Link → Card → Card
linked_by link card = record { collector = card.collector; link = link; damaged = card.damaged }

abbrev pub in_session : Session → Link → Link
in_session session link = record { reset = link.reset; fcb = link.fcb; session = session; remembered = link.remembered; pending = link.pending }

abbrev pub awaiting : Pending → Link → Link
awaiting pending link = record { reset = link.reset; fcb = link.fcb; session = link.session; remembered = link.remembered; pending = pending }

-- and one that does what ours does, but powers on with another link
abbrev pub with_link : Link → WrongCard
with_link link p = record { power_on = linked_by link card_at_power_on; calls = ours p }

-- always refuses
abbrev pub refuser : WrongCard
refuser = with_gap (λ card loan. says card 3 [] loan.buffer)

-- always sends the ACK
abbrev pub acknowledger : WrongCard
acknowledger = with_gap (λ card loan. says card 0 (0x10 ∷ 0x00 ∷ 0x01 ∷ 0x00 ∷ 0x01 ∷ 0x16 ∷ []) loan.buffer)

-- does nothing
abbrev pub idler : WrongCard
idler = with_gap (λ card loan. says card 1 [] loan.buffer)

-- right for its first frame, and only repeats afterwards
abbrev pub repeater : WrongCard
repeater =
    with_gap (λ card loan.
    when card.link.reset then says card 0 (reply_octets card.link.remembered) loan.buffer else
    our_gap card loan)

-- the same, but polite: it repeats at frames that ours answers, and leaves all else to ours, so that noise goes unanswered. A condition 3 that
-- compares a card's noised history with the card's own quiet one, and not with the definition's, lets it through
abbrev pub polite_repeater : WrongCard
polite_repeater =
    with_gap (λ card loan.
    when card.link.reset && eqb (our_gap card loan).answer.number 0
    then says (linked_by card.link (our_gap card loan).state) 0 (reply_octets card.link.remembered) loan.buffer
    else our_gap card loan)

-- never answers, and hears nothing. The same looser condition 3 lets it through; and so does a `Repeats` of the frames that the card itself
-- answers, for lack of one
abbrev pub stone : WrongCard
stone p =
    record {
      power_on = card_at_power_on;
      calls = record { symbol = λ card x. card; gap = λ card loan. says card 3 [] loan.buffer; call = (ours p).call };
    }

-- counts as reset at power-on; has a session open at power-on. Conditions over histories from our power-on, whatever the card's, let both through
abbrev pub resetter : WrongCard
resetter = with_link (after_reset power_on.remembered)

abbrev pub opener : WrongCard
opener = with_link (in_session (Open (record { 0 = 1 })) power_on)

-- a character closes the session. A condition 1 of gaps alone lets it through
abbrev pub closer : WrongCard
closer = with_symbol (λ p card x. linked_by (in_session Closed card.link) (with_character p card x))

-- what ours does, and then something else to the card
abbrev pub gap_leaving : (Card → Loan → Seen → Card → Card) → GapCall
gap_leaving change card loan =
    record { state = change card loan (our_gap card loan).answer (our_gap card loan).state; answer = (our_gap card loan).answer }

abbrev pub leaving : (Card → Loan → Seen → Card → Card) → WrongCard
leaving change = with_gap (gap_leaving change)

-- an invented count
abbrev pub inventor : WrongCard
inventor = leaving (λ card loan seen left. record { collector = left.collector; link = left.link; damaged = 7 })

-- a reset, whose control octet is 40 hex, keeps the session
abbrev pub clinger : WrongCard
clinger =
    leaving (λ card loan seen left.
    when eqb (get_or card.collector.octets 1 0) 0x40 then linked_by (in_session card.link.session left.link) left else
    left)

-- a spoiled frame advances the count bit
abbrev pub stumbler : WrongCard
stumbler =
    leaving (λ card loan seen left.
    when eqb seen.number 4 then linked_by (after_new (1 - card.link.fcb) card.link.remembered left.link.session left.link.pending left.link) left else
    left)

-- a run that is not the form of a frame stays in the collector. A condition 1 without `run_gone` lets it through
abbrev pub hoarder : WrongCard
hoarder = leaving (λ card loan seen left. when eqb seen.number 3 then collecting card.collector left else left)

-- what ours answers, but for a part of it
abbrev pub but_says : (Loan → Seen → Seen) → WrongCard
but_says change =
    with_gap (λ card loan. record { state = (our_gap card loan).state; answer = change loan (our_gap card loan).answer })

-- the buffer is cleared before it is known whether there is a reply
abbrev pub cleaner : WrongCard
cleaner =
    but_says (λ loan seen.
    record {
      number = seen.number;
      count = seen.count;
      order = seen.order;
      time = seen.time;
      buffer = take seen.count seen.buffer ++ replicate (length loan.buffer - seen.count) 0;
    })

-- the clock is set with every reply
abbrev pub setter : WrongCard
setter =
    but_says (λ loan seen.
    record {
      number = seen.number;
      count = seen.count;
      order = when eqb seen.number 0 then SetClock else NoOrder;
      time = seen.time;
      buffer = seen.buffer;
    })

-- ten ones for time octets, also where there is no order. Condition 1 and `Repeats` without `no_time_law`, and the looser condition 3, let it through
abbrev pub babbler : WrongCard
babbler =
    but_says (λ loan seen.
    record { number = seen.number; count = seen.count; order = seen.order; time = replicate 10 1; buffer = seen.buffer })

-- the link address is taken for the point's: it stands in the image where the first point's should
abbrev pub mistaker : WrongCard
mistaker =
    with_gap (λ card loan.
    our_gap card
    (record { image = set (set loan.image 15 (get_or loan.image 4 0)) 16 (get_or loan.image 5 0); clock = loan.clock; buffer = loan.buffer }))

-- with eleven bits the parity bit is not looked at. Condition 2 with a definition that is itself so lets it through, and `ElevenBits` does not
abbrev pub blind : AnyCard Eleven
blind = record { power_on = card_at_power_on; calls = record { symbol = λ card x. with_octet card x.octet; gap = our_gap; call = (ours Eleven).call } }

-- a collector with another mark
abbrev pub marking : Bool → Collector → Collector
marking marked c = record { octets = c.octets; length = c.length; marked = marked }

-- the mark stays behind when its run is gone. A condition 1 that asks only for a run of no octets lets it through
abbrev pub staining : WrongCard
staining = leaving (λ card loan seen left. when eqb seen.number 10 then collecting (marking true left.collector) left else left)

-- 10 is not counted
abbrev pub forgiver : WrongCard
forgiver = leaving (λ card loan seen left. when eqb seen.number 10 then record { collector = left.collector; link = left.link; damaged = card.damaged } else left)

-- the form is looked at before the mark: 3 where 10 is due
abbrev pub hasty : WrongCard
hasty =
    with_gap (λ card loan.
    let unmarked = our_gap (collecting (marking false card.collector) card) loan in
    when eqb unmarked.answer.number 3 then unmarked else our_gap card loan)

-- a damaged run is always a matter of parity: 10 for 3 and 4, also with ten bits
abbrev pub suspicious : WrongCard
suspicious =
    but_says (λ loan seen.
    record {
      number = when eqb seen.number 3 || eqb seen.number 4 then 10 else seen.number;
      count = seen.count;
      order = seen.order;
      time = seen.time;
      buffer = seen.buffer;
    })
