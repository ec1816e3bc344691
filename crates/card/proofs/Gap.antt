-- The ends of a gap: what its outcome is, and under which condition; and what a result is that says so.
-- By the tests of the definition, one after the other. Assumes nothing.
use Rattle.std.specs.Prelude.{Result, Ok, Err}
use Rattle.std.specs.Result.{result_unwrap_or}
use Prim.Native.Nat.{ℕ, ◌≤◌, ◌<◌}
use mathlib.Core.Bool.{true, false, not}
use mathlib.Core.List.{List}
use mathlib.Core.Path.{◌≡◌, refl, sym, ap, subst, ◌∙◌}
use native.Mathlib.Omega.{arith}
use borrow.Author.Tests.{lt-ltb, le-ltb, ltb-true, ltb-false}
use lib.Dec.{ltb}
use lib.ListN.{length}
use Rattle.octets.specs.Over.{laid_in, Does}
use Rattle.octets.proofs.Choice.{either, flipped}
use Rattle.address.specs.declared.LinkAddress.{LinkAddress}
use Rattle.frame.specs.declared.Control.TheVariants as control
use Rattle.frame.specs.declared.Fault.{Fault}
use Rattle.frame.specs.declared.Reply.{Reply}
use Rattle.frame.specs.declared.WriteError.{WriteError}
use Rattle.frame.specs.declared.WriteError.TheVariants.{Short}
use Rattle.frame.specs.Calls.{answer_to, left_of}
use Rattle.frame.proofs.Writing.{written_whole, never_short}
use Rattle.frame.specs.Frame.{fault_number}
use Rattle.frame.specs.Writing.{plain, reply_octets}
use Rattle.image.specs.Image.{sound_image}
use Rattle.link.specs.declared.Sends.{Sends}
use Rattle.link.specs.declared.Sends.TheVariants.{NotReset, Remembered, Status}
use Rattle.link.specs.declared.Answered.{Answered}
use Rattle.link.specs.Answering.{answered, reply_sent}
use Rattle.link.proofs.Answering.{which}
use Rattle.card.specs.declared.Card.{Card}
use Rattle.card.specs.declared.Asked.{Asked}
use Rattle.card.specs.declared.NoAnswer.{NoAnswer}
use Rattle.card.specs.declared.NoAnswer.TheVariants.{Faulty, OtherLink, NotOffered}
use Rattle.card.specs.declared.Gone.{Gone}
use Rattle.card.specs.State.{left_with, damaged_by}
use Rattle.card.specs.Examining.{examined}
use Rattle.card.specs.Gap.{Outcome, refusal, replied_by, after_answer, after_examining, gapped, gone_by, Gapped}

-- a reply written into a buffer that is long enough, and how many octets it has: the buffer is never short
pub as_written : (buffer octets : List ℕ) {left : List ℕ} → 261 ≤ length buffer → (answer : Result ℕ WriteError)
    → Does (answer_to buffer octets) (left_of buffer octets) answer left → {count : ℕ} → count ≡ result_unwrap_or answer 0
    → Does (length octets) (laid_in buffer octets) count left
as_written buffer octets room (Ok n) d e = rw e (written_whole buffer octets room n d)
as_written buffer octets room (Err Short) d e = absurd (never_short buffer octets room d)

module _ (card : Card) (a : Answered) where
  pub answer_unreset : a.sends ≡ NotReset → after_answer card a ≡ refusal 7 (left_with a.link card)
  unfolding after_answer
  answer_unreset e = rw e

  pub answer_remembered : a.sends ≡ Remembered → after_answer card a ≡ replied_by card a a.link.remembered
  unfolding after_answer
  answer_remembered e = rw e

  pub answer_status : (address : LinkAddress) → a.sends ≡ Status address → after_answer card a ≡ replied_by card a (plain control.Status address)
  unfolding after_answer
  answer_status address e = rw e

  -- a reply, unless there was no reset
  pub answer_replied : (a.sends ≡ NotReset → ⊥) → after_answer card a ≡ replied_by card a (reply_sent a.sends a.link)
  answer_replied some = by_sends a.sends refl
    where
      by_sends : (sends : Sends) → a.sends ≡ sends → after_answer card a ≡ replied_by card a (reply_sent a.sends a.link)
      by_sends NotReset e = absurd (some e)
      by_sends Remembered e = answer_remembered e ∙ sym (ap (λ (s : Sends). replied_by card a (reply_sent s a.link)) e)
      by_sends (Status address) e = answer_status address e ∙ sym (ap (λ (s : Sends). replied_by card a (reply_sent s a.link)) e)

  -- so number 0 says that there was one
  pub answer_0 : (after_answer card a).number ≡ 0 → a.sends ≡ NotReset → ⊥
  unfolding refusal
  answer_0 zero e = omega (arith, rw (answer_unreset e) at zero)

module _ (card : Card) (image clock : List ℕ) (room : ℕ) where
  pub gap_short : room < 261 → gapped card image clock room ≡ refusal 9 card
  unfolding gapped
  gap_short h = rw (lt-ltb room 261 h)

  pub gap_unsound : 261 ≤ room → sound_image image ≡ false → gapped card image clock room ≡ refusal 8 card
  unfolding gapped
  gap_unsound h s = rw (le-ltb room 261 h, s)

  pub gap_examined : 261 ≤ room → sound_image image ≡ true
      → gapped card image clock room ≡ after_examining card (examined card.collector image) image clock
  unfolding gapped
  gap_examined h s = rw (le-ltb room 261 h, s)

  -- which answer is sent
  abbrev pub answer_at : Asked → Answered
  answer_at asked = answered card.link asked.service asked.user image clock

  -- a gap at which a service is heard does what the link answers
  pub gap_heard : {asked : Asked} → 261 ≤ room → sound_image image ≡ true → examined card.collector image ≡ Ok asked
      → gapped card image clock room ≡ after_answer card (answer_at asked)
  unfolding after_examining
  gap_heard h s e = rw (gap_examined h s, e)

  -- the ends: the buffer too short, the image not sound, a run that is no sound frame, another link address, a control field that is not
  -- offered, a service before the first reset, a reply
  pub data End : Outcome → Type 0 where
    short : room < 261 → End (refusal 9 card)
    unsound : 261 ≤ room → sound_image image ≡ false → End (refusal 8 card)
    faulty : 261 ≤ room → sound_image image ≡ true → (fault : Fault) → examined card.collector image ≡ Err (Faulty fault)
        → End (refusal (fault_number fault) (damaged_by fault card))
    other_link : 261 ≤ room → sound_image image ≡ true → examined card.collector image ≡ Err OtherLink → End (refusal 5 (left_with card.link card))
    not_offered : 261 ≤ room → sound_image image ≡ true → examined card.collector image ≡ Err NotOffered → End (refusal 6 (left_with card.link card))
    not_reset : 261 ≤ room → sound_image image ≡ true → (asked : Asked) → examined card.collector image ≡ Ok asked → (answer_at asked).sends ≡ NotReset
        → End (refusal 7 (left_with (answer_at asked).link card))
    replied : 261 ≤ room → sound_image image ≡ true → (asked : Asked) → examined card.collector image ≡ Ok asked → ((answer_at asked).sends ≡ NotReset → ⊥)
        → End (replied_by card (answer_at asked) (reply_sent (answer_at asked).sends (answer_at asked).link))

  -- each gap has one of them
  pub gap_end : End (gapped card image clock room)
  unfolding gapped after_examining after_answer which
  gap_end =
      either End (ltb room 261) (λ s. short (ltb-true _ _ s))
      (λ s. either End (not (sound_image image)) (λ u. unsound (ltb-false _ _ s) (flipped _ _ u))
      (λ u. of_examined (ltb-false _ _ s) (flipped _ _ u) (examined card.collector image) refl))
    where
      of_answer : 261 ≤ room → sound_image image ≡ true → (asked : Asked) → examined card.collector image ≡ Ok asked
          → (sends : Sends) → (answer_at asked).sends ≡ sends → End (after_answer card (answer_at asked))
      of_answer h s asked x NotReset e = rw e (not_reset h s asked x e)
      of_answer h s asked x Remembered e = rw e (rw e at (replied h s asked x (λ n. omega (arith, ap which e, ap which n))))
      of_answer h s asked x (Status address) e = rw e (rw e at (replied h s asked x (λ n. omega (arith, ap which e, ap which n))))

      of_examined : 261 ≤ room → sound_image image ≡ true → (x : Result Asked NoAnswer) → examined card.collector image ≡ x
          → End (after_examining card x image clock)
      of_examined h s (Err (Faulty fault)) e = faulty h s fault e
      of_examined h s (Err OtherLink) e = other_link h s e
      of_examined h s (Err NotOffered) e = not_offered h s e
      of_examined h s (Ok asked) e = of_answer h s asked e (answer_at asked).sends refl

  -- so number 0 says that the buffer was long enough and the image sound
  pub gap_0 : (gapped card image clock room).number ≡ 0 → (261 ≤ room) × (sound_image image ≡ true)
  unfolding refusal
  gap_0 = of_end gap_end
    where
      of_end : {o : Outcome} → End o → o.number ≡ 0 → (261 ≤ room) × (sound_image image ≡ true)
      of_end (short h) e = absurd (omega (arith, e))
      of_end (unsound h s) e = absurd (omega (arith, e))
      of_end (faulty h s fault x) e = (h, s)
      of_end (other_link h s x) e = (h, s)
      of_end (not_offered h s x) e = (h, s)
      of_end (not_reset h s asked x n) e = (h, s)
      of_end (replied h s asked x n) e = (h, s)

-- a result that says an outcome, and the buffer
pub gapped_same : (o o' : Outcome) (buffer : List ℕ) {left : List ℕ} {gone : Gone} → o ≡ o' → Gapped o' buffer gone left → Gapped o buffer gone left
gapped_same o o' buffer {left} {gone} e g = subst (λ (p : Outcome). Gapped p buffer gone left) (sym e) g

pub refused_gap : (number : ℕ) (card : Card) (buffer : List ℕ) {gone : Gone} → gone ≡ gone_by (refusal number card) → Gapped (refusal number card) buffer gone buffer
unfolding refusal
refused_gap number card buffer e = record { answers = e; left_so = refl }

pub replied_gap : (card : Card) (a : Answered) (reply : Reply) (buffer : List ℕ) {left : List ℕ} {count : ℕ} {after : Card}
    → Does (length (reply_octets reply)) (laid_in buffer (reply_octets reply)) count left → after ≡ left_with a.link card
    → Gapped (replied_by card a reply) buffer (record { number = 0; length = count; order = a.order; time = a.time; card = after }) left
unfolding gone_by replied_by
replied_gap card a reply buffer d e = record { answers = rw (d.answers, e); left_so = d.left_so }
