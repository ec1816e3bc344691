-- Condition 1 holds of our card, and the count of damaged runs is tied to the number.
-- The definition and the paper's list are walked side by side, test by test; each end is one of four. Assumes nothing.
use Rattle.std.specs.Prelude.{Option, Some, None, Result}
use Prim.Native.Nat.{ℕ, ◌≤◌}
use mathlib.Core.Bool.{Bool, true, false, not, ◌&&◌, ◌||◌}
use mathlib.Core.List.{List, []}
use mathlib.Core.Path.{◌≡◌, refl}
use native.Mathlib.Omega.{arith}
use lib.Dec.{ltb, eqb}
use lib.ListN.{length, drop, length-take}
use borrow.Author.Tests.{le-ltb, ltb-false}
use Rattle.octets.specs.Choice.{when◌then◌else◌}
use Rattle.octets.specs.First.{first_of◌else◌}
use Rattle.octets.specs.declared.Kept.{Kept}
use Rattle.octets.proofs.Choice.{not_both, if_both}
use Rattle.frame.specs.declared.Fault.{Fault}
use Rattle.frame.specs.declared.Fault.TheVariants.{Empty, Long, Parity, Malformed, Spoiled}
use Rattle.frame.specs.declared.Form.TheVariants as form
use Rattle.frame.specs.declared.Service.{Service}
use Rattle.frame.specs.Family.{sapr}
use Rattle.frame.specs.Frame.{Frame, fixed, variable, Verdict, sound, fixed_form, variable_form, sum_right, start_of, said, judge, fault_number}
use Rattle.frame.specs.Controls.{offered, asked_by, user_data_law, collects}
use Rattle.fields.specs.Answers.{identity_found}
use Rattle.image.specs.Image.{sound_image}
use Rattle.profile.specs.declared.Profile.{Profile}
use Rattle.profile.specs.Profile.{judge_marked}
use Rattle.collector.specs.Collecting.{emptied, is_overfull, run_of, verdict_of}
use Rattle.collector.specs.Damage.{one_more}
use Rattle.link.specs.declared.Answered.{Answered}
use Rattle.link.specs.Answering.{answered_by, noted, carried}
use Rattle.link.proofs.Answering.{Way, as_reset, as_status, not_reset, repeated, as_nack, carried_out_law, as_given, nothing_given, way}
use Rattle.card.specs.declared.Card.{Card}
use Rattle.card.specs.declared.Asked.{Asked}
use Rattle.card.specs.declared.NoAnswer.{NoAnswer}
use Rattle.card.specs.State.{with_character, left_with, damaged_by}
use Rattle.card.specs.Examining.{is_link, heard, examined_frame, examined_verdict, examined}
use Rattle.card.specs.Gap.{Outcome, refusal, replied_by, after_answer, after_examining, gapped}
use Rattle.tender.specs.Card.{Loan, seen_of, outcome_at, our_card}
use Rattle.tender.specs.Condition1.{link_of, is_not_offered, is_counted, refusals, changes_nothing, is_damage, Refused, Condition1, Counted}

-- the ends of a gap: nothing changes; the run is gone, and counted or not, and link and session are kept; a frame is answered
data Ends (card : Card) : Outcome → ℕ → Type 0 where
  kept : {n : ℕ} → changes_nothing n ≡ true → is_damage n ≡ false → Ends card (refusal n card) n
  damaged : {n : ℕ} → changes_nothing n ≡ false → is_damage n ≡ true
      → Ends card (refusal n (record { collector = emptied; link = card.link; damaged = one_more card.damaged })) n
  gone : {n : ℕ} → changes_nothing n ≡ false → is_damage n ≡ false → Ends card (refusal n (left_with card.link card)) n
  answers : {o : Outcome} → o.number ≡ 0 → o.card.damaged ≡ card.damaged → Ends card o 0

-- a fault ends as its number says
fault_ends : (card : Card) (fault : Fault) → Ends card (refusal (fault_number fault) (damaged_by fault card)) (fault_number fault)
unfolding damaged_by
fault_ends card Empty = kept refl refl
fault_ends card Long = damaged refl refl
fault_ends card Parity = damaged refl refl
fault_ends card Malformed = damaged refl refl
fault_ends card Spoiled = damaged refl refl

-- 7: a service is refused exactly when it counts and there was no reset
answer_ends : (card : Card) (user : Kept) (image clock : List ℕ) {service : Service} {a : Answered} → Way card.link user image clock service a
    → Ends card (after_answer card a) (when is_counted (Some service) && not card.link.reset then 7 else 0)
unfolding after_answer answered_by noted carried replied_by left_with
answer_ends card user image clock as_reset = answers refl refl
answer_ends card user image clock as_status = answers refl refl
answer_ends card user image clock (not_reset user_data_law r) = rw r (gone refl refl)
answer_ends card user image clock (not_reset collects r) = rw r (gone refl refl)
answer_ends card user image clock (repeated user_data_law r e) = rw r (answers refl refl)
answer_ends card user image clock (repeated collects r e) = rw r (answers refl refl)
answer_ends card user image clock (as_nack fresh w) = rw fresh.is_reset (answers refl refl)
answer_ends card user image clock (carried_out_law fresh w) = rw fresh.is_reset (answers refl refl)
answer_ends card user image clock (as_given fresh f) = rw fresh.is_reset (answers refl refl)
answer_ends card user image clock (nothing_given fresh f) = rw fresh.is_reset (answers refl refl)

module _ (card : Card) (loan : Loan) where
  abbrev run : List ℕ
  run = run_of card.collector

  abbrev ExaminedEnds : Result Asked NoAnswer → ℕ → Type 0
  ExaminedEnds x n = Ends card (after_examining card x loan.image loan.clock) n

  -- 6 and 7
  heard_ends : (asked : Option Service) (user : List ℕ)
      → ExaminedEnds (heard asked user) (when is_not_offered asked then 6 else when is_counted asked && not card.link.reset then 7 else 0)
  unfolding after_examining
  heard_ends None user = gone refl refl
  heard_ends (Some service) user = answer_ends card _ loan.image loan.clock (way card.link _ loan.image loan.clock service)

  -- 5
  frame_ends : (f : Frame) → ExaminedEnds (examined_verdict loan.image (sound f))
      (when not (is_link (identity_found loan.image) (link_of f)) then 5 else
      when is_not_offered (asked_by f) then 6 else when is_counted (asked_by f) && not card.link.reset then 7 else 0)
  unfolding examined_frame after_examining
  frame_ends (fixed c a) =
      if_both ExaminedEnds (not (is_link (identity_found loan.image) (record { 0 = a }))) (λ t. gone refl refl) (λ t. heard_ends (offered form.Fixed c) [])
  frame_ends (variable c a user) =
      if_both ExaminedEnds (not (is_link (identity_found loan.image) (record { 0 = a }))) (λ t. gone refl refl) (λ t. heard_ends (offered form.Variable c) user)

  abbrev VerdictEnds : Verdict → ℕ → Type 0
  VerdictEnds v n = ExaminedEnds (examined_verdict loan.image v) n

  -- a run in a collector that is not overfull is not over 261 octets
  run_fits : is_overfull card.collector ≡ false → ltb 261 (length run) ≡ false
  unfolding is_overfull run_of
  run_fits e =
      let most : card.collector.length ≤ 261 = ltb-false _ _ e in
      le-ltb 261 (length run) (rw length-take (omega arith))

  -- 1, 2, 10, 3 and 4, by whether the collector is overfull
  run_ends : (t : Bool) → is_overfull card.collector ≡ t
      → ExaminedEnds (examined card.collector loan.image) (first_of drop 2 (refusals card loan) else 0)
  unfolding examined verdict_of judge_marked judge after_examining
  run_ends true e = rw e (fault_ends card Long)
  run_ends false e =
      rw (e, run_fits e)
      (if_both VerdictEnds (eqb (length run) 0) (λ t. fault_ends card Empty) (λ t.
      if_both VerdictEnds card.collector.marked (λ u. fault_ends card Parity) (λ u.
      rw t (if_both VerdictEnds (not (fixed_form sapr run || variable_form sapr run)) (λ t. fault_ends card Malformed) (λ t.
      if_both VerdictEnds (not (sum_right (start_of sapr run) run)) (λ t. fault_ends card Spoiled) (λ t. frame_ends (said sapr run)))))))

  -- 9 and 8
  gap_ends : Ends card (outcome_at card loan) (first_of refusals card loan else 0)
  unfolding gapped
  gap_ends =
      if_both (Ends card) (ltb (length loan.buffer) 261) (λ t. kept refl refl) (λ t.
      if_both (Ends card) (not (sound_image loan.image)) (λ t. kept refl refl) (λ t.
      run_ends (is_overfull card.collector) refl))

-- a refusal that leaves this card
abbrev Leaves : Card → Loan → Outcome → Type 0
Leaves card loan o = Refused card loan (record { state = o.card; answer = seen_of o loan.buffer })

-- what each end says
module _ {card : Card} where
  ends_number : {o : Outcome} {n : ℕ} → Ends card o n → o.number ≡ n
  unfolding refusal
  ends_number (kept k d) = refl
  ends_number (damaged k d) = refl
  ends_number (gone k d) = refl
  ends_number (answers e d) = e

  ends_counted : {o : Outcome} {n : ℕ} → Ends card o n → o.card.damaged ≡ (when is_damage o.number then one_more card.damaged else card.damaged)
  unfolding refusal left_with
  ends_counted (kept k d) = rw d
  ends_counted (damaged k d) = rw d
  ends_counted (gone k d) = rw d
  ends_counted (answers e d) = rw e d

  refusal_leaves : (loan : Loan) (n : ℕ) (after : Card) → after.link ≡ card.link → (changes_nothing n ≡ true → after ≡ card)
      → (changes_nothing n ≡ false → after.collector ≡ emptied) → Leaves card loan (refusal n after)
  unfolding refusal
  refusal_leaves loan n after link all empty =
      record { buffer_kept = refl; no_reply = refl; no_order = refl; no_time_law = refl; link_kept = link; all_kept = all; run_gone = empty }

  ends_refused : (loan : Loan) {o : Outcome} {n : ℕ} → Ends card o n → (o.number ≡ 0 → ⊥) → Leaves card loan o
  unfolding left_with
  ends_refused loan (kept k d) some = refusal_leaves loan _ card refl (λ t. refl) (λ t. absurd (not_both t k))
  ends_refused loan (damaged k d) some = refusal_leaves loan _ _ refl (λ t. absurd (not_both k t)) (λ t. refl)
  ends_refused loan (gone k d) some = refusal_leaves loan _ _ refl (λ t. absurd (not_both k t)) (λ t. refl)
  ends_refused loan (answers e d) some = absurd (some e)

pub condition_1 : (p : Profile) → Condition1 (our_card p)
unfolding with_character
condition_1 p =
    record {
      character_link_kept = λ card x. refl;
      character_uncounted = λ card x. refl;
      numbers = λ card loan. ends_number (gap_ends card loan);
      refused = λ card loan. ends_refused loan (gap_ends card loan);
    }

pub counted : (p : Profile) → Counted (our_card p)
counted p = record { counts = λ card loan. ends_counted (gap_ends card loan) }
