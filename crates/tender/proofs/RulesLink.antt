-- Document 01's rules of the link hold of our card: reset, status, before the first reset, FCB equal, FCB new, NACK, 09.
-- A gap that hears a service does what the link answers; and that by the tests of the definitions. Assumes nothing.
use Prim.Native.Nat.{ℕ}
use mathlib.Core.Bool.{Bool, true, false}
use mathlib.Core.List.{List}
use mathlib.Core.Path.{◌≡◌, refl, sym, ap, subst, ◌∙◌}
use native.Mathlib.Omega.{arith}
use lib.ListN.{length, get_or}
use Rattle.octets.specs.Over.{laid_in}
use Rattle.octets.specs.declared.Kept.{Kept}
use Rattle.frame.specs.declared.Reply.{Reply}
use Rattle.frame.specs.declared.Service.{Service}
use Rattle.frame.specs.declared.Service.TheVariants.{UserData, Collection}
use Rattle.frame.specs.Controls.{user_data_law, collects}
use Rattle.frame.specs.Frame.{body_of, start_with, written}
use Rattle.frame.specs.Writing.{reply_frame, reply_octets}
use Rattle.rules.specs.declared.Session.{Session}
use Rattle.deeds.specs.declared.Pending.{Pending}
use Rattle.deeds.specs.declared.Order.{Order}
use Rattle.deeds.specs.declared.Order.TheVariants as order
use Rattle.waiting.proofs.Found.{found_waiting}
use Rattle.waiting.specs.NextReply.{next_of, is_given, message_in}
use Rattle.link.specs.declared.Link.{Link}
use Rattle.link.specs.declared.Sends.TheVariants.{NotReset, Remembered}
use Rattle.link.specs.declared.Answered.{Answered}
use Rattle.link.specs.State.{data_reply, after_reset, after_new}
use Rattle.link.specs.Answering.{answered_by, noted, carried, user_data, given, collection, answered, reply_sent}
use Rattle.link.proofs.Answering.{which, with_new, answered_unreset, answered_last}
use Rattle.card.specs.declared.Card.{Card}
use Rattle.card.specs.State.{left_with}
use Rattle.card.specs.Gap.{refusal, replied_by, after_answer}
use Rattle.card.proofs.Gap.{answer_unreset, answer_replied, gap_heard}
use Rattle.tender.specs.Card.{Loan, Seen, outcome_at, our_gap}
use Rattle.tender.specs.Rules.{Hears, own_address, ack, nack, nothing_to_give, Replies, link_with, noting, Answers, ResetCloses, StatusKeeps, UnresetRefused, EqualRepeats, Afresh, NewNoted, replies_wait, nack_due, carried_at, NewData, next_at, reply_at, NewCollection}

-- a gap that hears a service
module _ {card : Card} {loan : Loan} {service : Service} {user : Kept} (h : Hears card loan service user) where
  abbrev answer : Answered
  answer = answered card.link service user loan.image loan.clock

  -- does what the link answers
  pub heard_gap : outcome_at card loan ≡ after_answer card answer
  heard_gap = gap_heard card loan.image loan.clock (length loan.buffer) h.room h.sound_image_law h.heard

  -- where that is a reply
  replied_so : (a : Answered) → answer ≡ a → (which a.sends ≡ 0 → ⊥) → outcome_at card loan ≡ replied_by card a (reply_sent a.sends a.link)
  unfolding which
  replied_so a e some = heard_gap ∙ rw e (answer_replied card a (λ n. some (ap which n)))

  pub heard_replied : (a : Answered) → answer ≡ a → (which a.sends ≡ 0 → ⊥) → {link : Link} → a.link ≡ link
      → Answers card loan (reply_sent a.sends a.link) a.order link (our_gap card loan)
  unfolding replied_by
  heard_replied a e some l =
      rw (replied_so a e some)
      (record { replies = record { number = refl; counts = refl; stands = refl }; orders = refl; leaves = ap (λ (k : Link). left_with k card) l })

  pub heard_times : (a : Answered) → answer ≡ a → (which a.sends ≡ 0 → ⊥) → (our_gap card loan).answer.time ≡ a.time
  unfolding replied_by
  heard_times a e some = rw (replied_so a e some)

pub reset_closes : ResetCloses our_gap
unfolding answered answered_by after_reset which
reset_closes card loan user h = heard_replied h _ refl (λ e. omega (arith, e)) refl

pub status_keeps : StatusKeeps our_gap
unfolding answered answered_by which
status_keeps card loan user h = heard_replied h _ refl (λ e. omega (arith, e)) refl

pub unreset_refused : UnresetRefused our_gap
unfolding refusal answered_by
unreset_refused card loan service user bit counts h unset =
    let a = answered_by NotReset card.link in
    let e = answered_unreset card.link user loan.image loan.clock counts unset in
    rw (heard_gap h, e, answer_unreset card a refl)
    (record { numbered = refl; no_reply = refl; no_order = refl; buffer_kept = refl; leaves = refl })

pub equal_repeats : EqualRepeats our_gap
unfolding answered_by which
equal_repeats card loan service user bit counts h set equal =
    heard_replied h (answered_by Remembered card.link) (answered_last card.link user loan.image loan.clock counts set equal)
    (λ e. omega (arith, e)) refl

-- of both values of a test, what holds of each
pub by_value : {A : Type 0} (t : Bool) → (t ≡ true → A) → (t ≡ false → A) → A
by_value true f g = f refl
by_value false f g = g refl

module _ {loan : Loan} {seen : Seen} where
  -- a gap has one reply
  one_reply : {reply other : Reply} (i : ℕ) → Replies loan reply seen → Replies loan other seen
      → get_or (laid_in loan.buffer (reply_octets reply)) i 0 ≡ get_or (laid_in loan.buffer (reply_octets other)) i 0
  one_reply i r s = ap (λ (octets : List ℕ). get_or octets i 0) (sym r.stands ∙ s.stands)

  -- NACK is not ACK, by the control octet
  nack_not_ack : Replies loan (nack loan) seen → Replies loan (ack loan) seen → ⊥
  unfolding reply_octets reply_frame written start_with body_of
  nack_not_ack r s = omega (arith, one_reply 1 r s)

  -- 09 is not data, by the first octet
  nothing_not_data : (message : Kept) → Replies loan (nothing_to_give loan) seen → Replies loan (data_reply message (own_address loan)) seen → ⊥
  unfolding reply_octets reply_frame written start_with
  nothing_not_data message r s = omega (arith, one_reply 0 r s)

-- user data with a new FCB
module _ {card : Card} {loan : Loan} {user : Kept} {bit : ℕ} (f : Afresh card loan (UserData bit) user bit) where
  data_answer : answered card.link (UserData bit) user loan.image loan.clock ≡ user_data (own_address loan) bit card.link user loan.image loan.clock
  unfolding answered
  data_answer = with_new bit card.link _ f.is_reset f.new

  pub nacked : nack_due card user ≡ true → Answers card loan (nack loan) order.NoOrder (noting bit (nack loan) card) (our_gap card loan)
  unfolding user_data noted answered_by after_new which
  nacked due = heard_replied f.hears (noted bit (nack loan) card.link) (data_answer ∙ rw due) (λ e. omega (arith, e)) (rw f.is_reset)

  abbrev done : Answered
  done = carried (own_address loan) bit card.link (carried_at card loan user)

  carried_answer : nack_due card user ≡ false → answered card.link (UserData bit) user loan.image loan.clock ≡ done
  unfolding user_data
  carried_answer taken = data_answer ∙ rw taken

  pub acked : nack_due card user ≡ false
      → Answers card loan (ack loan) (carried_at card loan user).order
      (link_with bit (carried_at card loan user).session (ack loan) (carried_at card loan user).pending) (our_gap card loan)
  unfolding carried after_new which
  acked taken = heard_replied f.hears done (carried_answer taken) (λ e. omega (arith, e)) (rw f.is_reset)

  pub timed : nack_due card user ≡ false → (our_gap card loan).answer.time ≡ (carried_at card loan user).time
  unfolding carried which
  timed taken = heard_times f.hears done (carried_answer taken) (λ e. omega (arith, e))

pub new_data : NewData our_gap
new_data card loan user bit f =
    record {
      nack_if = nacked f;
      nack_only_if = λ r. by_value (nack_due card user) (λ t. t) (λ t. absurd (nack_not_ack r (acked f t).replies));
      else_ack = acked f;
      times = timed f;
    }

-- a collection with a new FCB
module _ {card : Card} {loan : Loan} {user : Kept} {bit : ℕ} (f : Afresh card loan (Collection bit) user bit) where
  found : (is_given (next_at card loan)) ≡ replies_wait card
  unfolding next_of
  found = found_waiting card.link.pending.request card.link.pending.clock loan.image card.link.pending.waiting

  collection_answer : answered card.link (Collection bit) user loan.image loan.clock ≡ given (own_address loan) bit card.link (next_at card loan)
  unfolding answered collection
  collection_answer = with_new bit card.link _ f.is_reset f.new

  pub none_given : replies_wait card ≡ false → Answers card loan (nothing_to_give loan) order.NoOrder (noting bit (nothing_to_give loan) card) (our_gap card loan)
  unfolding given noted answered_by after_new which
  none_given e =
      heard_replied f.hears (noted bit (nothing_to_give loan) card.link) (collection_answer ∙ rw (found ∙ e)) (λ z. omega (arith, z)) (rw f.is_reset)

  pub next_given : replies_wait card ≡ true
      → Answers card loan (reply_at card loan) order.NoOrder (link_with bit card.link.session (reply_at card loan) (next_at card loan).pending)
      (our_gap card loan)
  unfolding given answered_by after_new which
  next_given e =
      heard_replied f.hears (answered_by Remembered (after_new bit (reply_at card loan) card.link.session (next_at card loan).pending card.link))
      (collection_answer ∙ rw (found ∙ e)) (λ z. omega (arith, z)) (rw f.is_reset)

pub new_collection : NewCollection our_gap
new_collection card loan user bit f =
    record {
      nothing_if = none_given f;
      nothing_only_if = λ r. by_value (replies_wait card) (λ t. absurd (nothing_not_data (message_in (next_at card loan)) r (next_given f t).replies)) (λ t. t);
      else_next = next_given f;
    }

-- whatever is answered to a new FCB is remembered
answers_remembered : {card : Card} {loan : Loan} {reply : Reply} {o : Order} {bit : ℕ} {session : Session} {pending : Pending}
    → Answers card loan reply o (link_with bit session reply pending) (our_gap card loan)
    → Replies loan (our_gap card loan).state.link.remembered (our_gap card loan).answer
unfolding left_with
answers_remembered {card} {loan} a =
    subst (λ (reply : Reply). Replies loan reply (our_gap card loan).answer) (sym (ap (λ (c : Card). c.link.remembered) a.leaves)) a.replies

pub new_afresh : NewNoted our_gap
new_afresh card loan service user bit user_data_law f =
    by_value (nack_due card user) (λ t. answers_remembered (nacked f t)) (λ t. answers_remembered (acked f t))
new_afresh card loan service user bit collects f =
    by_value (replies_wait card) (λ t. answers_remembered (next_given f t)) (λ t. answers_remembered (none_given f t))
