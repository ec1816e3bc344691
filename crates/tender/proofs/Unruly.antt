-- Each unruly card breaks a rule, or is not as the question why says.
-- It hears one frame, over document 01's smallest image, and what it answers or leaves computes to something else. Assumes nothing.
use Rattle.std.specs.Prelude.{Result, Ok, Err}
use Prim.Native.Nat.{ℕ, ◌<◌}
use mathlib.Core.Bool.{true, false, false≢true}
use mathlib.Core.List.{List, [], ◌∷◌, ◌++◌}
use mathlib.Core.Path.{◌≡◌, refl, sym, ap, ◌∙◌}
use native.Mathlib.Omega.{arith}
use lib.ListN.{length, get_or, replicate, length-append, get_or-append}
use Rattle.history.specs.History.{fed}
use Rattle.octets.specs.declared.Kept.{Kept}
use Rattle.frame.specs.declared.Control.TheVariants.{Ack}
use Rattle.frame.specs.declared.Service.{Service}
use Rattle.frame.specs.declared.Service.TheVariants.{UserData, Collection}
use Rattle.frame.specs.Controls.{user_data_law}
use Rattle.frame.specs.Frame.{body_of, start_with, written}
use Rattle.frame.specs.Writing.{plain, reply_frame, reply_octets}
use Rattle.octets.specs.Keeping.{octets_of, kept_of}
use Rattle.octets.specs.Numbers.{low_octets}
use Rattle.octets.specs.Over.{laid_in}
use Rattle.address.specs.declared.LinkAddress.{LinkAddress}
use Rattle.profile.specs.declared.Profile.TheVariants.{Ten}
use Rattle.card.specs.declared.Asked.{Asked}
use Rattle.card.specs.declared.NoAnswer.{NoAnswer}
use Rattle.collector.specs.Collecting.{emptied}
use Rattle.card.specs.Examining.{examined}
use Rattle.rules.specs.declared.Session.TheVariants.{Open}
use Rattle.rules.specs.declared.Rule.TheVariants.{Address, WrongPassword, Accepted}
use Rattle.deeds.specs.declared.Waiting.TheVariants.{Mirror}
use Rattle.deeds.specs.declared.Pending.{Pending}
use Rattle.deeds.specs.Deeds.{nothing_pending}
use Rattle.link.specs.State.{data_reply}
use Rattle.card.specs.declared.Card.{Card}
use Rattle.why.specs.Naming.{place_of}
use Rattle.why.specs.Asking.{why_of}
use Rattle.tender.specs.Card.{ours}
use Rattle.tender.specs.Cases.{smallest, lent, password, collect}
use Rattle.tender.specs.Rules.{Hears, own_address, link_with, StatusKeeps, EqualRepeats, Afresh, replies_wait, NewData, NewCollection, Carries, by_187, Sessions}
use Rattle.tender.specs.Unruly.{closing_at_status, dropping_at_nack, giving_nothing, ordering_again, staying_open, closing_at_collection, always_fourteen, opening_anyway}
use Rattle.tender.specs.Why.{Sent, RefusedAsNamed, RefusedNotDone, AcceptedAsNamed}
use Rattle.tender.specs.Wrong.{linked_by}
use Rattle.tender.proofs.Smallest.{fit}
use Rattle.tender.proofs.Examples.{session_number, order_number, asking}
use Rattle.tender.proofs.Worked.{everything}

-- a status; a 181 of 1 January 2001 00:15 and a 187, both with FCB 1
abbrev asks_status : List ℕ
asks_status = 0x10 ∷ 0x49 ∷ 0x01 ∷ 0x00 ∷ 0x4A ∷ 0x16 ∷ []

abbrev sets_clock : List ℕ
sets_clock =
    0x68 ∷ 0x10 ∷ 0x10 ∷ 0x68 ∷ 0x73 ∷ 0x01 ∷ 0x00 ∷ 0xB5 ∷ 0x01 ∷ 0x06 ∷ 0x01 ∷ 0x00 ∷ 0x00
    ∷ 0x00 ∷ 0x00 ∷ 0x0F ∷ 0x00 ∷ 0x21 ∷ 0x01 ∷ 0x01 ∷ 0x63 ∷ 0x16 ∷ []

abbrev ends_session : List ℕ
ends_session = 0x68 ∷ 0x09 ∷ 0x09 ∷ 0x68 ∷ 0x73 ∷ 0x01 ∷ 0x00 ∷ 0xBB ∷ 0x00 ∷ 0x06 ∷ 0x01 ∷ 0x00 ∷ 0x00 ∷ 0x36 ∷ 0x16 ∷ []

-- a mirror waits
abbrev mirror_waits : Pending
mirror_waits = record { waiting = Mirror 7; request = kept_of (replicate 6 0); clock = replicate 7 0 }

-- a card in the session of point 1 that has a run in its collector, with a last FCB and what waits
abbrev hearing : List ℕ → ℕ → Pending → Card
hearing run last pending =
    fed (ours Ten) (record { collector = emptied; link = link_with last (Open (record { 0 = 1 })) (plain Ack (record { 0 = 1 })) pending; damaged = 0 }) run

-- the user octets of what it hears
abbrev user_in : Result Asked NoAnswer → Kept
user_in (Ok asked) = asked.user
user_in (Err why) = kept_of []

abbrev user_of : Card → Kept
user_of card = user_in (examined card.collector smallest)

-- it hears a service
abbrev Asks : Card → Service → Type 0
Asks card service = examined card.collector smallest ≡ Ok (record { service = service; user = user_of card })

hears : (card : Card) (service : Service) → Asks card service → Hears card lent service (user_of card)
hears card service asks = record { room = fit.full_size; sound_image_law = fit.sound_image_law; heard = asks }

pub status_closes : StatusKeeps closing_at_status → ⊥
unfolding everything
status_closes c =
    let card = hearing asks_status 0 nothing_pending in
    let left = (c card lent (user_of card) (hears card _ refl)).leaves in
    let none : ◌≡◌ {A = ℕ} 0 1 = ap (λ (x : Card). session_number x.link.session) left in
    omega (arith, none)

-- heard with FCB 1 where 0 is the last
afresh : (card : Card) (service : Service) → Asks card service → card.link.reset ≡ true → card.link.fcb ≡ 0
    → Afresh card lent service (user_of card) 1
afresh card service asks set last = record { hears = hears card service asks; is_reset = set; new = λ e. absurd (omega (arith, e, last)) }

pub nack_drops : NewData dropping_at_nack → ⊥
unfolding everything
nack_drops c =
    let card = hearing password 0 mirror_waits in
    let left = ((c card lent (user_of card) 1 (afresh card _ refl refl refl)).nack_if refl).leaves in
    false≢true (ap replies_wait left)

pub gives_nothing : NewCollection giving_nothing → ⊥
unfolding everything
gives_nothing c =
    let card = hearing asking 0 mirror_waits in
    let none : replies_wait card ≡ false =
    (c card lent (user_of card) 1 (afresh card _ refl refl refl)).nothing_only_if (record { number = refl; counts = refl; stands = refl }) in
    false≢true (sym none)

pub orders_again : EqualRepeats ordering_again → ⊥
unfolding everything
orders_again c =
    let card = hearing sets_clock 1 nothing_pending in
    let none = (c card lent (UserData 1) (user_of card) 1 user_data_law (hears card _ refl) refl refl).orders in
    let zero : ◌≡◌ {A = ℕ} 1 0 = ap order_number none in
    omega (arith, zero)

pub stays_open : Sessions staying_open → ⊥
unfolding everything
stays_open c =
    let card = hearing ends_session 0 nothing_pending in
    let carries : Carries card lent (user_of card) 1 187 Accepted =
    record { afresh = afresh card _ refl refl refl; taken = refl; is_type = refl; decided = refl } in
    let one : ◌≡◌ {A = ℕ} 1 0 = ap session_number (c.so card lent (by_187 (user_of card) 1 carries)) in
    omega (arith, one)

pub collection_closes : NewCollection closing_at_collection → ⊥
unfolding everything
collection_closes c =
    let card = hearing asking 0 nothing_pending in
    let left = ((c card lent (user_of card) 1 (afresh card _ refl refl refl)).nothing_if refl).leaves in
    let none : ◌≡◌ {A = ℕ} 0 1 = ap (λ (x : Card). session_number x.link.session) left in
    omega (arith, none)

-- a 100 of record address 1, which is refused with cause 15, with FCB 1
abbrev asks_elsewhere : List ℕ
asks_elsewhere = 0x68 ∷ 0x09 ∷ 0x09 ∷ 0x68 ∷ 0x73 ∷ 0x01 ∷ 0x00 ∷ 0x64 ∷ 0x00 ∷ 0x05 ∷ 0x01 ∷ 0x00 ∷ 0x01 ∷ 0xDF ∷ 0x16 ∷ []

-- the cause octet of a message in the frame that sends it
cause_there : (message : Kept) (link : LinkAddress) (buffer : List ℕ) → 2 < length (octets_of message)
    → get_or (laid_in buffer (reply_octets (data_reply message link))) 9 0 ≡ get_or (octets_of message) 2 0
unfolding reply_octets reply_frame written start_with body_of low_octets
cause_there message link buffer room =
    third (octets_of message) _ _ room
  where
    third : (user end behind : List ℕ) → 2 < length user → get_or ((user ++ end) ++ behind) 2 0 ≡ get_or user 2 0
    third user end behind long =
        get_or-append (user ++ end) behind 0 2 (omega (arith, long, length-append user end)) ∙ get_or-append user end 0 2 long

pub gives_fourteen : RefusedAsNamed always_fourteen → ⊥
unfolding everything why_of
gives_fourteen c =
    let card = hearing asks_elsewhere 0 nothing_pending in
    let sent : Sent card lent (user_of card) 1 Address = record { named = refl; nothing_waits_law = refl; afresh = afresh card _ refl refl refl } in
    let later = linked_by (always_fourteen card lent).state.link (hearing collect 0 nothing_pending) in
    let fresh : Afresh later lent (Collection 0) (user_of later) 0 = record { hears = hears later _ refl; is_reset = refl; new = λ e. absurd (omega (arith, e)) } in
    let m = c card lent (user_of card) 1 Address sent (λ e. absurd (omega (arith, ap place_of e))) later refl lent (user_of later) 0 fresh in
    let cause = cause_there m.message (own_address lent) lent.buffer (omega (arith, m.mirrors.as_long)) in
    omega (arith, m.mirrors.its_cause, cause, ap (λ (l : List ℕ). get_or l 9 0) m.replies.stands)

-- a 183 with a wrong password and FCB 1
abbrev asks_wrongly : List ℕ
asks_wrongly =
    0x68 ∷ 0x0D ∷ 0x0D ∷ 0x68 ∷ 0x73 ∷ 0x01 ∷ 0x00 ∷ 0xB7 ∷ 0x01 ∷ 0x06 ∷ 0x01 ∷ 0x00 ∷ 0x00 ∷ 0x79 ∷ 0x56 ∷ 0x34 ∷ 0x12 ∷ 0x48 ∷ 0x16 ∷ []

pub opens_anyway : RefusedNotDone opening_anyway → ⊥
unfolding everything why_of
opens_anyway c =
    let card = hearing asks_wrongly 0 nothing_pending in
    let sent : Sent card lent (user_of card) 1 WrongPassword = record { named = refl; nothing_waits_law = refl; afresh = afresh card _ refl refl refl } in
    let one : ◌≡◌ {A = ℕ} 1 0 =
    ap session_number ((c card lent (user_of card) 1 WrongPassword sent (λ e. absurd (omega (arith, ap place_of e)))).shut_out refl) in
    omega (arith, one)

-- what is named accepted is not done
pub keeps_open : AcceptedAsNamed staying_open → ⊥
unfolding everything why_of
keeps_open c =
    let card = hearing ends_session 0 nothing_pending in
    let sent : Sent card lent (user_of card) 1 Accepted = record { named = refl; nothing_waits_law = refl; afresh = afresh card _ refl refl refl } in
    let done = (c card lent (user_of card) 1 sent).done in
    let one : ◌≡◌ {A = ℕ} 1 0 = ap session_number (done.1.1.1.1.1.1.1.1.1.0 refl).its_session in
    omega (arith, one)
