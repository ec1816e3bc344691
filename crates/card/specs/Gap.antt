-- What a gap answers and leaves. Document 01, "What a gap answers": the numbers in the order 9, 8, 1, 2, 10, 3, 4, 5, 6, 7, then 0.
-- Assumes nothing.
use Rattle.std.specs.Prelude.{ℕ, not, List, [], ltb, length, replicate, Result, Ok, Err}
use Rattle.octets.specs.First.{◌⇒◌▸◌, first_of◌else◌}
use Rattle.octets.specs.Over.{laid_in, Does}
use Rattle.frame.specs.declared.Reply.{Reply}
use Rattle.frame.specs.Frame.{fault_number}
use Rattle.frame.specs.Writing.{reply_octets}
use Rattle.image.specs.Image.{sound_image}
use Rattle.deeds.specs.declared.Order.{Order}
use Rattle.deeds.specs.declared.Order.TheVariants as order
use Rattle.link.specs.declared.Sends.{Sends}
use Rattle.link.specs.declared.Sends.TheVariants.{NotReset, Remembered, Status}
use Rattle.link.specs.declared.Answered.{Answered}
use Rattle.link.specs.Answering.{answered, reply_sent}
use Rattle.card.specs.declared.Card.{Card}
use Rattle.card.specs.declared.Asked.{Asked}
use Rattle.card.specs.declared.NoAnswer.{NoAnswer}
use Rattle.card.specs.declared.NoAnswer.TheVariants.{Faulty, OtherLink, NotOffered}
use Rattle.card.specs.declared.Gone.{Gone}
use Rattle.card.specs.State.{left_with, damaged_by}
use Rattle.card.specs.Examining.{examined}

-- the outcome of a gap: number, the octets of the reply, order and its time octets, the card after it
pub record Outcome : Type 0 where
  pub number : ℕ
  pub reply : List ℕ
  pub order : Order
  pub time : List ℕ
  pub card : Card

-- all but 0 give length 0 and no order
unfoldable pub refusal : ℕ → Card → Outcome
refusal number card = record { number = number; reply = []; order = order.NoOrder; time = replicate 10 0; card = card }

-- 0: a reply
unfoldable pub replied_by : Card → Answered → Reply → Outcome
replied_by card a reply = record { number = 0; reply = reply_octets reply; order = a.order; time = a.time; card = left_with a.link card }

-- 7, or 0
abbrev pub after_sending : Card → Answered → Sends → Outcome
after_sending card a NotReset = refusal 7 (left_with a.link card)
after_sending card a Remembered = replied_by card a (reply_sent Remembered a.link)
after_sending card a (Status address) = replied_by card a (reply_sent (Status address) a.link)

unfoldable pub after_answer : Card → Answered → Outcome
after_answer card a = after_sending card a a.sends

-- 1: nothing changes; 2, 10, 3 to 6: the collector is emptied, link and session are kept. What answers is given no count of damaged runs
unfoldable pub after_examining : Card → Result Asked NoAnswer → List ℕ → List ℕ → Outcome
after_examining card (Err (Faulty fault)) image clock = refusal (fault_number fault) (damaged_by fault card)
after_examining card (Err OtherLink) image clock = refusal 5 (left_with card.link card)
after_examining card (Err NotOffered) image clock = refusal 6 (left_with card.link card)
after_examining card (Ok asked) image clock = after_answer card (answered card.link asked.service asked.user image clock)

-- 9 and 8: nothing changes, the collector keeps its run
unfoldable pub gapped : Card → List ℕ → List ℕ → ℕ → Outcome
gapped card image clock room =
    first_of
    ltb room 261 ⇒ refusal 9 card ▸
    not (sound_image image) ⇒ refusal 8 card ▸ []
    else after_examining card (examined card.collector image) image clock

-- the result that says so
unfoldable pub gone_by : Outcome → Gone
gone_by o = record { number = o.number; length = length o.reply; order = o.order; time = o.time; card = o.card }

-- what a gap of this outcome returns, and what it leaves of the buffer: the reply in its first octets, the rest unchanged
abbrev pub Gapped : Outcome → List ℕ → Gone → List ℕ → Type 0
Gapped o buffer gone left = Does (gone_by o) (laid_in buffer o.reply) gone left
