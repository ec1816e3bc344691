-- Condition 2: the card is the definition's, and every reply is a sound frame of at most 261 octets that gives back what was meant.
-- What is remembered can be written from power-on on (an invariant), and what can be written is read back. Assumes nothing.
use Rattle.std.specs.Prelude.{Ok}
use Prim.Native.Nat.{ℕ, ◌≤◌}
use mathlib.Core.List.{List}
use mathlib.Core.Path.{◌≡◌, refl, ap, ◌∙◌}
use native.Mathlib.Omega.{arith}
use lib.ListN.{length, take, drop, length-take}
use lib.Seq.{take_at}
use Rattle.octets.specs.Over.{laid_in}
use Rattle.octets.specs.declared.Kept.{Kept}
use Rattle.octets.specs.Keeping.{octets_of}
use Rattle.octets.proofs.Choice.{either}
use Rattle.history.proofs.Invariant.{Invariant, always, at_gaps}
use Rattle.frame.specs.declared.Reply.{Reply}
use Rattle.frame.specs.declared.Service.{Service}
use Rattle.frame.specs.Family.{sapr}
use Rattle.frame.specs.Frame.{sound, judge, fault_number}
use Rattle.frame.specs.Writing.{reply_frame, reply_octets}
use Rattle.frame.proofs.Frame.{fault_some}
use Rattle.frame.proofs.RoundTrip.{reply_back, reply_length}
use Rattle.profile.specs.declared.Profile.{Profile}
use Rattle.profile.proofs.Judging.{sent_judged}
use Rattle.collector.specs.Damage.{damages}
use Rattle.link.specs.Answering.{answered}
use Rattle.card.specs.declared.Card.{Card}
use Rattle.card.specs.declared.Asked.{Asked}
use Rattle.card.specs.State.{card_at_power_on, with_character, left_with, damaged_by}
use Rattle.card.specs.Examining.{examined}
use Rattle.card.specs.Gap.{Outcome, refusal, replied_by}
use Rattle.card.proofs.Gap.{End, short, unsound, faulty, other_link, not_offered, not_reset, replied, gap_end}
use Rattle.tender.specs.Card.{Loan, Heard, outcome_at, our_gap, ours, our_card}
use Rattle.tender.specs.Condition2.{Condition2, meant_at, SoundReply, Lent, SoundReplies}
use Rattle.tender.proofs.Writable.{CanWrite, Ready, AnswersReady, heard_short, power_on_ready, answered_ready}

pub condition_2 : (p : Profile) → Condition2 (our_card p)
condition_2 p = record { powers_on = refl; as_defined = λ h. refl; left_as_defined = λ h. refl }

-- with 0 a service was heard, and the reply is what was meant
record Meets (card : Card) (loan : Loan) (o : Outcome) : Type 0 where
  service : Service
  user : Kept
  heard : Heard card loan service user
  reply : o.reply ≡ reply_octets (meant_at card loan service user)
  can : CanWrite (meant_at card loan service user)

-- what a gap leaves, and with 0 what it replies
record Told (card : Card) (loan : Loan) (o : Outcome) : Type 0 where
  leaves : Ready o.card.link
  replies : o.number ≡ 0 → Meets card loan o

module _ (card : Card) (loan : Loan) (lent : Lent loan) (ready : Ready card.link) where
  ready_answer : (asked : Asked) → examined card.collector loan.image ≡ Ok asked → AnswersReady (answered card.link asked.service asked.user loan.image loan.clock)
  ready_answer asked e =
      answered_ready card.link ready asked.user (rw e at (heard_short card.collector loan.image)) loan.image loan.clock lent.octets lent.seven asked.service

  refusal_told : (n : ℕ) (after : Card) → (n ≡ 0 → ⊥) → Ready after.link → Told card loan (refusal n after)
  unfolding refusal
  refusal_told n after other kept = record { leaves = kept; replies = λ e. absurd (other e) }

  end_told : {o : Outcome} → End card loan.image loan.clock (length loan.buffer) o → Told card loan o
  unfolding damaged_by left_with replied_by
  end_told (short h) = refusal_told 9 card (λ e. omega arith) ready
  end_told (unsound h s) = refusal_told 8 card (λ e. omega arith) ready
  end_told (faulty h s fault x) =
      refusal_told (fault_number fault) _ (fault_some fault) (either (λ (c : Card). Ready c.link) (damages fault) (λ _. ready) (λ _. ready))
  end_told (other_link h s x) = refusal_told 5 _ (λ e. omega arith) ready
  end_told (not_offered h s x) = refusal_told 6 _ (λ e. omega arith) ready
  end_told (not_reset h s asked x n) = refusal_told 7 _ (λ e. omega arith) (ready_answer asked x).link
  end_told (replied h s asked x n) =
      record {
        leaves = (ready_answer asked x).link;
        replies = λ e.
            record {
              service = asked.service;
              user = asked.user;
              heard = x;
              reply = refl;
              can = (ready_answer asked x).reply;
            };
      }

  gap_told : Told card loan (outcome_at card loan)
  gap_told = end_told (gap_end card loan.image loan.clock (length loan.buffer))

-- from power-on on
ready_always : (p : Profile) → Invariant (ours p) Lent (λ (card : Card). Ready card.link)
unfolding with_character
ready_always p =
    record {
      symbols = λ card x ready. ready;
      gaps = λ card loan lent ready. (gap_told card loan lent ready).leaves;
      calls = λ card call ready. absurd call;
    }

-- what can be written is read back
module _ (reply : Reply) (can : CanWrite reply) where
  few_users : length (octets_of reply.user) ≤ 252
  unfolding octets_of
  few_users = omega (arith, length-take reply.user.length reply.user.octets, can.users)

  meant_back : judge sapr (reply_octets reply) ≡ sound (reply_frame reply)
  meant_back = reply_back reply can.address few_users

  meant_length : length (reply_octets reply) ≤ 261
  meant_length = reply_length reply can.address few_users

-- the reply stands in the first octets of the buffer
reply_seen : (octets buffer : List ℕ) → take (length octets) (laid_in buffer octets) ≡ octets
reply_seen octets buffer = take_at octets (drop (length octets) buffer) (length octets) refl

sound_at : (p : Profile) (card : Card) (loan : Loan) → Lent loan → Ready card.link → (our_gap card loan).answer.number ≡ 0 → SoundReply p our_gap card loan
sound_at p card loan lent ready e =
    let o = outcome_at card loan in
    let m = (gap_told card loan lent ready).replies e in
    let meant = meant_at card loan m.service m.user in
    let stands : take (length o.reply) (laid_in loan.buffer o.reply) ≡ reply_octets meant = reply_seen o.reply loan.buffer ∙ m.reply in
    record {
      service = m.service;
      user = m.user;
      heard = m.heard;
      at_most_261 = omega (arith, ap (λ (l : List ℕ). length l) m.reply, meant_length meant m.can);
      gives_back = sent_judged p sapr _ ∙ ap (judge sapr) stands ∙ meant_back meant m.can;
    }

pub sound_replies : (p : Profile) → SoundReplies (our_card p)
unfolding card_at_power_on
sound_replies p h fit =
    at_gaps (ours p) (λ card loan known. sound_at p card loan known.0 known.1) card_at_power_on h
    (always (ours p) (ready_always p) card_at_power_on h fit power_on_ready).0
