-- Unruly cards: each does what ours does but for one thing, which a rule of `Rules` or a statement of `Why` forbids.
-- Assumes nothing.
use Rattle.std.specs.Prelude.{ℕ, Bool, ◌||◌, eqb, ltb, get_or}
use Rattle.octets.specs.Choice.{when◌then◌else◌}
use Rattle.frame.specs.Writing.{reply_octets}
use Rattle.rules.specs.declared.Session.{Session}
use Rattle.rules.specs.declared.Session.TheVariants.{Closed, Open}
use Rattle.deeds.specs.declared.Order.TheVariants.{SetClock}
use Rattle.deeds.specs.declared.Waiting.{Waiting}
use Rattle.deeds.specs.declared.Waiting.TheVariants.{NoReply, Mirror, Denied, Begin, More, Type71, Type72, Type131}
use Rattle.deeds.specs.Deeds.{nothing_pending}
use Rattle.card.specs.declared.Card.{Card}
use Rattle.tender.specs.Card.{GapCall, our_gap}
use Rattle.tender.specs.Cases.{says}
use Rattle.tender.specs.Wrong.{linked_by, in_session, awaiting, gap_leaving}
use Rattle.tender.specs.Rules.{nothing_to_give}

-- an octet of the run: at 1 a fixed frame has C, at 7 a variable one the type of its message
abbrev pub octet_at : ℕ → Card → ℕ
octet_at i card = get_or card.collector.octets i 0

-- a collection, of either FCB
abbrev pub is_collection : Card → Bool
is_collection card = eqb (octet_at 1 card) 0x5B || eqb (octet_at 1 card) 0x7B

abbrev pub with_session : Session → Card → Card
with_session session card = linked_by (in_session session card.link) card

-- a status closes the session
abbrev pub closing_at_status : GapCall
closing_at_status = gap_leaving (λ card loan seen left. when eqb (octet_at 1 card) 0x49 then with_session Closed left else left)

-- a NACK, whose control octet stands in the buffer, drops what waits
abbrev pub dropping_at_nack : GapCall
dropping_at_nack =
    gap_leaving (λ card loan seen left. when eqb (get_or seen.buffer 1 0) 0x01 then linked_by (awaiting nothing_pending left.link) left else left)

-- a collection gets 09, whatever waits
abbrev pub giving_nothing : GapCall
giving_nothing card loan =
    when is_collection card then says (our_gap card loan).state 0 (reply_octets (nothing_to_give loan)) loan.buffer else
    our_gap card loan

-- a 181 sets the clock, also when it is repeated
abbrev pub ordering_again : GapCall
ordering_again card loan =
    let x = our_gap card loan in
    record {
      state = x.state;
      answer =
          record {
            number = x.answer.number;
            count = x.answer.count;
            order = when eqb (octet_at 7 card) 181 then SetClock else x.answer.order;
            time = x.answer.time;
            buffer = x.answer.buffer;
          };
    }

-- a 187 leaves the session open
abbrev pub staying_open : GapCall
staying_open = gap_leaving (λ card loan seen left. when eqb (octet_at 7 card) 187 then with_session card.link.session left else left)

-- a collection closes the session
abbrev pub closing_at_collection : GapCall
closing_at_collection = gap_leaving (λ card loan seen left. when is_collection card then with_session Closed left else left)

-- every refusal by cause has cause 14
abbrev pub fourteen : Waiting → Waiting
fourteen (Mirror cause) = Mirror (when ltb cause 13 then cause else 14)
fourteen NoReply = NoReply
fourteen Denied = Denied
fourteen Begin = Begin
fourteen (More before) = More before
fourteen Type71 = Type71
fourteen Type72 = Type72
fourteen Type131 = Type131

abbrev pub always_fourteen : GapCall
always_fourteen =
    gap_leaving (λ card loan seen left.
    let pending = left.link.pending in
    linked_by (awaiting (record { waiting = fourteen pending.waiting; request = pending.request; clock = pending.clock }) left.link) left)

-- every 183 opens the session of point 1, also one that is refused
abbrev pub opening_anyway : GapCall
opening_anyway = gap_leaving (λ card loan seen left. when eqb (octet_at 7 card) 183 then with_session (Open (record { 0 = 1 })) left else left)
