-- Condition 2. "The card reads and answers as Terna's SAPR-AdM document (SD1) and document 01 say: frame, count bit, session, order of
-- refusals, readings chosen by number only. Every reply is a sound frame, and read by the same frame rules it gives back the message that the
-- definition says was meant." The first sentence is `Condition2`, and its count bit once more, by itself, `CountBit`; the second is `SoundReplies`.
-- Assumes nothing.
use Rattle.std.specs.Prelude.{ℕ, ◌≤◌, ◌<◌, ◌≡◌, length, get_or}
use Rattle.octets.specs.declared.Kept.{Kept}
use Rattle.history.specs.History.{AllFit, AtGaps}
use Rattle.frame.specs.declared.Reply.{Reply}
use Rattle.frame.specs.declared.Service.{Service}
use Rattle.frame.specs.Family.{sapr}
use Rattle.frame.specs.Frame.{sound}
use Rattle.frame.specs.Controls.{Counts}
use Rattle.frame.specs.Writing.{reply_frame}
use Rattle.profile.specs.declared.Profile.{Profile}
use Rattle.profile.specs.Profile.{run_sent, judge_in}
use Rattle.link.specs.Answering.{answered, reply_sent}
use Rattle.card.specs.declared.Card.{Card}
use Rattle.card.specs.State.{card_at_power_on}
use Rattle.tender.specs.Card.{Loan, reply_in, GapCall, AnyCard, History, answers_of, end_of, Heard, our_card}

-- it powers on as document 01 says, and at every history from there, with any images, clocks and buffers lent gap by gap, it answers what
-- the definition answers and is left as the definition leaves it
pub record Condition2 {p : Profile} (c : AnyCard p) : Type 0 where
  pub powers_on : c.power_on ≡ card_at_power_on
  pub as_defined : (h : History p) → answers_of c h ≡ answers_of (our_card p) h
  pub left_as_defined : (h : History p) → end_of c h ≡ end_of (our_card p) h

-- the reply that the definition says is meant when a service is heard: with the last FCB the remembered one, else a new one, which carries the
-- link address of the image lent
abbrev pub meant_at : Card → Loan → Service → Kept → Reply
meant_at card loan service user =
    let a = answered card.link service user loan.image loan.clock in
    reply_sent a.sends a.link

-- every reply is that to a service which was heard, a sound frame of at most 261 octets, and judged by the same rules gives back what was meant. Replies
-- leave as octets, and the line's hardware adds their parity bits: so sent, they are sound in the profile. Where there is one is said by `Condition2`
pub record SoundReply (p : Profile) (gap : GapCall) (card : Card) (loan : Loan) : Type 0 where
  pub service : Service
  pub user : Kept
  pub heard : Heard card loan service user
  pub at_most_261 : (gap card loan).answer.count ≤ 261
  pub gives_back : judge_in p sapr (run_sent p (reply_in (gap card loan).answer)) ≡ sound (reply_frame (meant_at card loan service user))

-- what is lent: an image of octets, a clock of seven
pub record Lent (loan : Loan) : Type 0 where
  pub octets : (i : ℕ) → get_or loan.image i 0 < 256
  pub seven : length loan.clock ≡ 7

abbrev pub SoundReplies : {p : Profile} → AnyCard p → Type 0
SoundReplies {p} c =
    (h : History p) → AllFit Lent h
    → AtGaps c.calls (λ (card : Card) (loan : Loan). (c.calls.gap card loan).answer.number ≡ 0 → SoundReply p c.calls.gap card loan) c.power_on h

-- the count bit: an answered frame of user data or collection leaves its FCB the last. Which is answered is said by condition 1's numbers
abbrev pub CountBit : {p : Profile} → AnyCard p → Type 0
CountBit c =
    (card : Card) (loan : Loan) (service : Service) (user : Kept) (bit : ℕ) → Heard card loan service user → Counts service bit
    → (c.calls.gap card loan).answer.number ≡ 0 → (c.calls.gap card loan).state.link.fcb ≡ bit
