-- Condition 1. "Every octet, line gap, image and buffer may be given to every public call. Each call ends; bad input is refused by the numbers
-- in document 01; a refusal changes neither the reply buffer nor the link and session."
-- "May be given", "each call ends": the card's calls are functions of every card, character, image, clock and buffer (`CallsOf`); that the code's are
-- too, and end, is what its proof means. The other clauses are the fields of `Condition1`. Assumes nothing.
use Rattle.std.specs.Prelude.{ℕ, Bool, true, false, not, ◌&&◌, ◌||◌, List, [], ◌≡◌, ltb, eqb, length, Option, Some, None}
use Rattle.octets.specs.Choice.{when◌then◌else◌}
use Rattle.octets.specs.First.{When, ◌⇒◌▸◌, first_of◌else◌}
use Rattle.history.specs.History.{Stepped}
use Rattle.address.specs.declared.LinkAddress.{LinkAddress}
use Rattle.frame.specs.declared.Service.TheVariants.{Reset, UserData, Status, Collection}
use Rattle.frame.specs.Family.{sapr}
use Rattle.frame.specs.Frame.{Frame, fixed, variable, fixed_form, variable_form, sum_right, start_of, said}
use Rattle.frame.specs.Controls.{asked_by}
use Rattle.fields.specs.Answers.{identity_found}
use Rattle.image.specs.Image.{sound_image}
use Rattle.profile.specs.declared.Profile.{Profile}
use Rattle.profile.specs.Profile.{CharacterIn}
use Rattle.collector.specs.Collecting.{emptied, is_overfull, run_of}
use Rattle.collector.specs.Damage.{one_more}
use Rattle.deeds.specs.declared.Order.TheVariants as order
use Rattle.card.specs.declared.Card.{Card}
use Rattle.card.specs.Examining.{is_link}
use Rattle.tender.specs.Card.{Loan, Seen, no_time, AnyCard}
use Rattle.frame.specs.declared.Service.{Service}

-- the link address of a frame; whether what it asks is not offered; whether it is function 3 or 11
abbrev pub link_of : Frame → LinkAddress
link_of (fixed c a) = record { 0 = a }
link_of (variable c a user) = record { 0 = a }

abbrev pub is_not_offered : Option Service → Bool
is_not_offered None = true
is_not_offered (Some service) = false

abbrev pub is_counted : Option Service → Bool
is_counted None = false
is_counted (Some Reset) = false
is_counted (Some (UserData bit)) = true
is_counted (Some Status) = false
is_counted (Some (Collection bit)) = true

-- document 01, "What a gap answers", and #104's 10, a parity bit wrong, between 2 and 3: when each number is due, in its order
abbrev pub refusals : Card → Loan → List (When ℕ)
refusals card loan =
    let run = run_of card.collector in
    let overfull = is_overfull card.collector in
    let frame = said sapr run in
    ltb (length loan.buffer) 261 ⇒ 9 ▸
    not (sound_image loan.image) ⇒ 8 ▸
    not overfull && eqb (length run) 0 ⇒ 1 ▸
    overfull ⇒ 2 ▸
    card.collector.marked ⇒ 10 ▸
    not (fixed_form sapr run || variable_form sapr run) ⇒ 3 ▸
    not (sum_right (start_of sapr run) run) ⇒ 4 ▸
    not (is_link (identity_found loan.image) (link_of frame)) ⇒ 5 ▸
    is_not_offered (asked_by frame) ⇒ 6 ▸
    is_counted (asked_by frame) && not card.link.reset ⇒ 7 ▸ []

-- 1, 8 and 9 change nothing; 2, 3 and 4 are damaged runs, and 10 with all effects of 3
abbrev pub changes_nothing : ℕ → Bool
changes_nothing number = eqb number 1 || (eqb number 8 || eqb number 9)

abbrev pub is_damage : ℕ → Bool
is_damage number = eqb number 2 || (eqb number 3 || (eqb number 4 || eqb number 10))

-- what a refusal leaves: the buffer untouched, length 0 and no order, link and session unchanged
pub record Refused (card : Card) (loan : Loan) (x : Stepped Card Seen) : Type 0 where
  pub buffer_kept : x.answer.buffer ≡ loan.buffer
  pub no_reply : x.answer.count ≡ 0
  pub no_order : x.answer.order ≡ order.NoOrder
  pub no_time_law : x.answer.time ≡ no_time
  pub link_kept : x.state.link ≡ card.link
  -- all of the card is kept, or the collector is emptied
  pub all_kept : changes_nothing x.answer.number ≡ true → x.state ≡ card
  pub run_gone : changes_nothing x.answer.number ≡ false → x.state.collector ≡ emptied

pub record Condition1 {p : Profile} (c : AnyCard p) : Type 0 where
  -- every octet, and with eleven bits its parity bit: it keeps link and session, and is not counted as a damaged run
  pub character_link_kept : (card : Card) (x : CharacterIn p) → (c.calls.symbol card x).link ≡ card.link
  pub character_uncounted : (card : Card) (x : CharacterIn p) → (c.calls.symbol card x).damaged ≡ card.damaged
  -- bad input: each number exactly when it is due and none before it is
  pub numbers : (card : Card) (loan : Loan) → (c.calls.gap card loan).answer.number ≡ (first_of refusals card loan else 0)
  -- a refusal
  pub refused : (card : Card) (loan : Loan) → ((c.calls.gap card loan).answer.number ≡ 0 → ⊥) → Refused card loan (c.calls.gap card loan)

-- document 01: the count of damaged runs grows by one for 2, 3 and 4 only, here also for 10, and stays at 65,535. Of 1, 8 and 9 `Refused` says it too; of
-- an answered frame and of the others this alone does
pub record Counted {p : Profile} (c : AnyCard p) : Type 0 where
  pub counts : (card : Card) (loan : Loan)
      → (c.calls.gap card loan).state.damaged ≡ (when is_damage (c.calls.gap card loan).answer.number then one_more card.damaged else card.damaged)
