-- Any card of a profile: how it powers on, and what a character and a gap do to it, on the card's types; and ours, which is what the contracts of the crate
-- `card` say (`Tied`). The profile is given with the characters; a gap does not ask for it. Assumes nothing.
use Rattle.std.specs.Prelude.{ℕ, List, ◌≡◌, length, take, replicate, Ok}
use Rattle.octets.specs.Over.{laid_in}
use Rattle.octets.specs.declared.Kept.{Kept}
use Rattle.frame.specs.declared.Service.{Service}
use Rattle.profile.specs.declared.Profile.{Profile}
use Rattle.profile.specs.Profile.{CharacterIn}
use Rattle.history.specs.History.{Event, Stepped, Machine, answers, after, fed}
use Rattle.deeds.specs.declared.Order.{Order}
use Rattle.card.specs.declared.Card.{Card}
use Rattle.card.specs.State.{card_at_power_on, with_character}
use Rattle.card.specs.Examining.{examined}
use Rattle.card.specs.Gap.{gapped}
use Rattle.card.specs.Gap as gap

-- what a gap is lent: the meter image, the clock, the reply buffer
pub record Loan : Type 0 where
  pub image : List ℕ
  pub clock : List ℕ
  pub buffer : List ℕ

-- what is seen of a gap: number, reply length, order with its time octets, and the buffer as it is left
pub record Seen : Type 0 where
  pub number : ℕ
  pub count : ℕ
  pub order : Order
  pub time : List ℕ
  pub buffer : List ℕ

-- the reply stands in the first octets of the buffer
abbrev pub reply_in : Seen → List ℕ
reply_in seen = take seen.count seen.buffer

-- no time octets: ten zeros
abbrev pub no_time : List ℕ
no_time = replicate 10 0

-- what a gap does: it is lent something, answers, and leaves a card
abbrev pub GapCall : Type 0
GapCall = Card → Loan → Stepped Card Seen

-- what a card's calls do, where the line delivers A. There are none but characters and gaps
abbrev pub CallsOf : Type 0 → Type 0
CallsOf A = Machine Card A Loan ⊥ Seen

-- any card of a profile: how it powers on, and what its calls do
pub record AnyCard (p : Profile) : Type 0 where
  pub power_on : Card
  pub calls : CallsOf (CharacterIn p)

-- one profile for a whole history
abbrev pub History : Profile → Type 0
History p = List (Event (CharacterIn p) Loan ⊥)

-- what a card answers to a history from its power-on, and the card at its end
abbrev pub answers_of : {p : Profile} → AnyCard p → History p → List Seen
answers_of c h = answers c.calls c.power_on h

abbrev pub end_of : {p : Profile} → AnyCard p → History p → Card
end_of c h = after c.calls c.power_on h

-- a run is received: its characters are put in, and the gap comes
abbrev pub received : {A : Type 0} → CallsOf A → Card → List A → Loan → Stepped Card Seen
received m card run loan = m.gap (fed m card run) loan

-- the run is examined, and a service for this card is heard, with these user octets
abbrev pub Heard : Card → Loan → Service → Kept → Type 0
Heard card loan service user = examined card.collector loan.image ≡ Ok (record { service = service; user = user })

-- ours: the definition
abbrev pub seen_of : gap.Outcome → List ℕ → Seen
seen_of o buffer =
    record {
      number = o.number;
      count = length o.reply;
      order = o.order;
      time = o.time;
      buffer = laid_in buffer o.reply;
    }

abbrev pub outcome_at : Card → Loan → gap.Outcome
outcome_at card loan = gapped card loan.image loan.clock (length loan.buffer)

abbrev pub our_gap : GapCall
our_gap card loan = record { state = (outcome_at card loan).card; answer = seen_of (outcome_at card loan) loan.buffer }

abbrev pub ours : (p : Profile) → CallsOf (CharacterIn p)
ours p = record { symbol = with_character p; gap = our_gap; call = λ card call. absurd call }

abbrev pub our_card : (p : Profile) → AnyCard p
our_card p = record { power_on = card_at_power_on; calls = ours p }
