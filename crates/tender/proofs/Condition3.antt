-- Condition 3 holds of our card, in each profile: noise goes unnoticed; and a sound frame with exactly one octet changed is noise.
-- By the laws of a deaf machine, kept being a collector that some run has left. Assumes nothing.
use Rattle.std.specs.Prelude.{Option, Some, None, Result, Ok, Err}
use Prim.Native.Nat.{ℕ}
use mathlib.Core.Bool.{Bool, true, not, ◌||◌}
use mathlib.Core.List.{List, [], ◌∷◌, ◌++◌}
use mathlib.Core.Path.{◌≡◌, refl, sym, ap, subst, ◌∙◌}
use native.Mathlib.Omega.{arith}
use lib.Dec.{ltb}
use lib.ListN.{length, set, length-set, length-map}
use borrow.Author.Tests.{ne_eqb}
use Rattle.octets.proofs.Choice.{either, if_both}
use Rattle.history.specs.History.{fed}
use Rattle.history.proofs.Invariant.{Invariant}
use Rattle.history.proofs.Noise.{Deaf, unnoticed}
use Rattle.frame.specs.declared.Fault.{Fault}
use Rattle.frame.specs.declared.Form.TheVariants as form
use Rattle.frame.specs.Family.{sapr}
use Rattle.frame.specs.Frame.{fixed, variable, Verdict, refused, sound, fixed_form, variable_form, start_of, sum_right, judge, fault_number}
use Rattle.frame.specs.Controls.{offered}
use Rattle.frame.proofs.Frame.{fault_some}
use Rattle.frame.proofs.RoundTrip.{sapr_proper}
use Rattle.frame.proofs.OneOctet.{one_octet_changed}
use Rattle.profile.specs.declared.Profile.{Profile}
use Rattle.profile.specs.Profile.{CharacterIn, octet_in, octets_in, are_right, judge_marked, judge_in}
use Rattle.profile.proofs.Judging.{sound_in}
use Rattle.profile.proofs.Altered.{map_set}
use Rattle.fields.specs.Answers.{identity_found}
use Rattle.image.specs.Image.{sound_image}
use Rattle.collector.specs.declared.Collector.{Collector}
use Rattle.collector.specs.Collecting.{emptied, collected_in}
use Rattle.collector.specs.Calls.{collected_all_in}
use Rattle.collector.specs.Damage.{damages}
use Rattle.link.specs.declared.Link.{Link}
use Rattle.link.specs.declared.Sends.{Sends}
use Rattle.link.specs.declared.Sends.TheVariants.{NotReset, Remembered, Status}
use Rattle.link.specs.declared.Answered.{Answered}
use Rattle.link.specs.Answering.{answered}
use Rattle.card.specs.declared.Card.{Card}
use Rattle.card.specs.declared.Asked.{Asked}
use Rattle.card.specs.declared.NoAnswer.{NoAnswer}
use Rattle.card.specs.declared.NoAnswer.TheVariants.{Faulty, OtherLink, NotOffered}
use Rattle.card.specs.State.{card_at_power_on, collecting, with_character, left_with, damaged_by}
use Rattle.card.specs.Examining.{is_link, heard, examined_frame, examined_verdict, examined}
use Rattle.card.specs.Gap.{refusal, replied_by, after_sending, after_answer, after_examining, gapped}
use Rattle.card.specs.Gap as gap
use Rattle.card.proofs.Examining.{run_only}
use Rattle.tender.specs.Card.{Loan, seen_of, outcome_at, our_gap, ours, our_card}
use Rattle.tender.specs.Condition3.{Fit, Noise, Alike, Mute, Condition3, OneOctetNoise}
use Rattle.tender.proofs.Gaps.{fit_gap, rested_gap}
use Rattle.frame.specs.declared.Service.{Service}

-- a run that is not empty is sound or damaged
abbrev Damaged : Verdict → Type 0
Damaged (refused fault) = damages fault ≡ true
Damaged (sound f) = Unit {0}

judge_damaged : (run : List ℕ) → (length run ≡ 0 → ⊥) → Damaged (judge sapr run)
unfolding judge
judge_damaged run some =
    rw (ne_eqb (length run) 0 some)
    (either Damaged (ltb 261 (length run)) (λ e. refl) (λ e.
    either Damaged (not (fixed_form sapr run || variable_form sapr run)) (λ e. refl) (λ e.
    either Damaged (not (sum_right (start_of sapr run) run)) (λ e. refl) (λ e. tt))))

marked_damaged : (wrong : Bool) (run : List ℕ) → (length run ≡ 0 → ⊥) → Damaged (judge_marked sapr wrong run)
unfolding judge_marked
marked_damaged wrong run some =
    rw (ne_eqb (length run) 0 some)
    (either Damaged (ltb 261 (length run)) (λ e. refl) (λ e. either Damaged wrong (λ w. refl) (λ w. judge_damaged run some)))

in_damaged : (p : Profile) (run : List (CharacterIn p)) → (length run ≡ 0 → ⊥) → Damaged (judge_in p sapr run)
in_damaged p run some = marked_damaged (not (are_right p run)) (octets_in p run) (λ none. some (sym (length-map run (octet_in p)) ∙ none))

-- what changes nothing is an empty run
abbrev ExaminedEnds : Result Asked NoAnswer → Type 0
ExaminedEnds (Err (Faulty fault)) = damages fault ≡ true
ExaminedEnds (Err OtherLink) = Unit {0}
ExaminedEnds (Err NotOffered) = Unit {0}
ExaminedEnds (Ok asked) = Unit {0}

asked_ends : (a : Option Service) (user : List ℕ) → ExaminedEnds (heard a user)
asked_ends None user = tt
asked_ends (Some service) user = tt

verdict_ends : (image : List ℕ) (v : Verdict) → Damaged v → ExaminedEnds (examined_verdict image v)
unfolding examined_frame
verdict_ends image (refused fault) d = d
verdict_ends image (sound (fixed c a)) d =
    either ExaminedEnds (not (is_link (identity_found image) (record { 0 = a }))) (λ l. tt) (λ l. asked_ends (offered form.Fixed c) [])
verdict_ends image (sound (variable c a user)) d =
    either ExaminedEnds (not (is_link (identity_found image) (record { 0 = a }))) (λ l. tt) (λ l. asked_ends (offered form.Variable c) user)

examined_ends : (p : Profile) (run : List (CharacterIn p)) (image : List ℕ) → (length run ≡ 0 → ⊥) → ExaminedEnds (examined (collected_all_in p emptied run) image)
examined_ends p run image some = rw (run_only p run image) (verdict_ends image (judge_in p sapr run) (in_damaged p run some))

-- a collector that a run has left
pub record Left (p : Profile) (c : Collector) : Type 0 where
  pub run : List (CharacterIn p)
  pub by_run : c ≡ collected_all_in p emptied run

collected_last : (p : Profile) (run : List (CharacterIn p)) (c : Collector) (x : CharacterIn p)
    → collected_in p (collected_all_in p c run) x ≡ collected_all_in p c (run ++ (x ∷ []))
unfolding collected_all_in
collected_last p [] c x = refl
collected_last p (y ∷ run) c x = collected_last p run (collected_in p c y) x

pub left_none : (p : Profile) → Left p emptied
unfolding collected_all_in
left_none p = record { run = []; by_run = refl }

-- what a gap leaves of the collector: nothing, unless the run was empty
abbrev Rests : gap.Outcome → Type 0
Rests o = o.card.collector ≡ emptied

module _ (card : Card) (image clock : List ℕ) where
  answer_rests : (a : Answered) → Rests (after_answer card a)
  unfolding after_answer refusal replied_by left_with
  answer_rests a = by_sends a.sends
    where
      by_sends : (sends : Sends) → Rests (after_sending card a sends)
      by_sends NotReset = refl
      by_sends Remembered = refl
      by_sends (Status address) = refl

  examined_rests : (x : Result Asked NoAnswer) → ExaminedEnds x → Rests (after_examining card x image clock)
  unfolding refusal damaged_by left_with after_examining
  examined_rests (Err (Faulty fault)) d = rw d
  examined_rests (Err OtherLink) d = refl
  examined_rests (Err NotOffered) d = refl
  examined_rests (Ok asked) d = answer_rests (answered card.link asked.service asked.user image clock)

  -- an empty collector stays one
  empty_rests : (x : Result Asked NoAnswer) → card.collector ≡ emptied → Rests (after_examining card x image clock)
  unfolding refusal damaged_by left_with after_examining
  empty_rests (Err (Faulty fault)) none = either (λ (c : Card). c.collector ≡ emptied) (damages fault) (λ _. refl) (λ _. none)
  empty_rests (Err OtherLink) none = refl
  empty_rests (Err NotOffered) none = refl
  empty_rests (Ok asked) none = answer_rests (answered card.link asked.service asked.user image clock)

-- at a fit gap a card that a run has left comes to rest
pub left_rests : (p : Profile) (card : Card) (loan : Loan) {image clock : List ℕ} → Fit image clock loan → Left p card.collector → Rests (outcome_at card loan)
unfolding collected_all_in
left_rests p card loan {image} {clock} f left = rw (fit_gap f card) (by_run left.run left.by_run)
  where
    by_run : (run : List (CharacterIn p)) → card.collector ≡ collected_all_in p emptied run → Rests (after_examining card (examined card.collector image) image clock)
    by_run [] e = empty_rests card image clock (examined card.collector image) e
    by_run (x ∷ run) e =
        examined_rests card image clock (examined card.collector image)
        (rw e (examined_ends p (x ∷ run) image (λ h. omega arith)))

pub left_kept : (p : Profile) (image clock : List ℕ) → Invariant (ours p) (Fit image clock) (λ (card : Card). Left p card.collector)
unfolding with_character
left_kept p image clock =
    record {
      symbols = λ card x left.
          record {
            run = left.run ++ (x ∷ []);
            by_run = ap (λ (c : Collector). collected_in p c x) left.by_run ∙ collected_last p left.run emptied x;
          };
      gaps = λ card loan f left. rw (left_rests p card loan f left) (left_none p);
      calls = λ card call left. absurd call;
    }

-- two outcomes that are equal but for the count
record AlikeOutcomes (o o' : gap.Outcome) : Type 0 where
  numbers : o.number ≡ o'.number
  replies : o.reply ≡ o'.reply
  orders : o.order ≡ o'.order
  times : o.time ≡ o'.time
  cards : Alike o.card o'.card

alike_seen : (o o' : gap.Outcome) (buffer : List ℕ) → AlikeOutcomes o o' → seen_of o buffer ≡ seen_of o' buffer
alike_seen o o' buffer a = rw (a.numbers, a.replies, a.orders, a.times)

alike_refusal : (number : ℕ) (s t : Card) → Alike s t → AlikeOutcomes (refusal number s) (refusal number t)
unfolding refusal
alike_refusal number s t a = record { numbers = refl; replies = refl; orders = refl; times = refl; cards = a }

module _ (s t : Card) (a : Alike s t) where
  alike_left : (number : ℕ) (link : Link) → AlikeOutcomes (refusal number (left_with link s)) (refusal number (left_with link t))
  unfolding left_with
  alike_left number link = alike_refusal number (left_with link s) (left_with link t) (record { collectors = refl; links = refl })

  alike_kept : (number : ℕ) → AlikeOutcomes (refusal number (left_with s.link s)) (refusal number (left_with t.link t))
  alike_kept number =
      subst (λ (l : Link). AlikeOutcomes (refusal number (left_with l s)) (refusal number (left_with t.link t))) (sym a.links) (alike_left number t.link)

  alike_damaged : (fault : Fault) → Alike (damaged_by fault s) (damaged_by fault t)
  unfolding damaged_by
  alike_damaged fault = if_both Alike (damages fault) (λ e. record { collectors = refl; links = a.links }) (λ e. a)

  alike_answer : (x : Answered) → AlikeOutcomes (after_answer s x) (after_answer t x)
  unfolding after_answer replied_by left_with
  alike_answer x = by_sends x.sends
    where
      by_sends : (sends : Sends) → AlikeOutcomes (after_sending s x sends) (after_sending t x sends)
      by_sends NotReset = alike_left 7 x.link
      by_sends Remembered = record { numbers = refl; replies = refl; orders = refl; times = refl; cards = record { collectors = refl; links = refl } }
      by_sends (Status address) = record { numbers = refl; replies = refl; orders = refl; times = refl; cards = record { collectors = refl; links = refl } }

  alike_examined : (x : Result Asked NoAnswer) (image clock : List ℕ) → AlikeOutcomes (after_examining s x image clock) (after_examining t x image clock)
  unfolding after_examining
  alike_examined (Err (Faulty fault)) image clock = alike_refusal (fault_number fault) _ _ (alike_damaged fault)
  alike_examined (Err OtherLink) image clock = alike_kept 5
  alike_examined (Err NotOffered) image clock = alike_kept 6
  alike_examined (Ok asked) image clock =
      rw (ap (λ (l : Link). answered l asked.service asked.user image clock) a.links) (alike_answer (answered t.link asked.service asked.user image clock))

  alike_gap : (loan : Loan) → AlikeOutcomes (outcome_at s loan) (outcome_at t loan)
  unfolding gapped
  alike_gap loan =
      if_both AlikeOutcomes (ltb (length loan.buffer) 261) (λ e. alike_refusal 9 s t a) (λ e.
      if_both AlikeOutcomes (not (sound_image loan.image)) (λ e. alike_refusal 8 s t a) (λ e.
      rw (ap (λ (c : Collector). examined c loan.image) a.collectors)
      (alike_examined (examined t.collector loan.image) loan.image loan.clock)))

-- noise, and the fault by which it is refused
module _ (p : Profile) where
  record Refused (run : List (CharacterIn p)) : Type 0 where
    fault : Fault
    says : judge_in p sapr run ≡ refused fault
    damaged : damages fault ≡ true

  noise_refused : (run : List (CharacterIn p)) → Noise p run → Refused run
  noise_refused run x = by_verdict (judge_in p sapr run) refl (in_damaged p run x.some)
    where
      by_verdict : (v : Verdict) → judge_in p sapr run ≡ v → Damaged v → Refused run
      by_verdict (refused fault) e d = record { fault = fault; says = e; damaged = d }
      by_verdict (sound f) e d = absurd (x.not_sound f e)

  module _ (card : Card) (run : List (CharacterIn p)) (loan : Loan) {image clock : List ℕ} (rest : card.collector ≡ emptied) where
    -- what a gap after noise answers and leaves
    noise_gap : (r : Refused run) → Fit image clock loan
        → outcome_at (fed (ours p) card run) loan ≡ refusal (fault_number r.fault) (damaged_by r.fault (collecting (collected_all_in p emptied run) card))
    unfolding after_examining
    noise_gap r f = rested_gap f p card run rest (refused r.fault) r.says

    noise_mute : Noise p run → Fit image clock loan → Mute (our_gap (fed (ours p) card run) loan).answer
    unfolding refusal
    noise_mute x f =
        let r = noise_refused run x in
        rw (noise_gap r f) (record { not_0 = fault_some r.fault; no_reply = refl; no_order = refl; no_time_law = refl })

    noise_alike : Noise p run → Fit image clock loan → Alike card (our_gap (fed (ours p) card run) loan).state
    unfolding refusal damaged_by
    noise_alike x f =
        let r = noise_refused run x in
        rw (noise_gap r f, r.damaged) (record { collectors = rest; links = refl })

  deaf : (image clock : List ℕ)
      → Deaf (ours p) (Fit image clock) (Noise p) (λ (card : Card). Left p card.collector) Alike (λ (card : Card). card.collector ≡ emptied) Mute
  unfolding with_character
  deaf image clock =
      record {
        kept = left_kept p image clock;
        alike_trans = λ s t u a b. record { collectors = a.collectors ∙ b.collectors; links = a.links ∙ b.links };
        symbol_alike = λ s t x a. record { collectors = ap (λ (c : Collector). collected_in p c x) a.collectors; links = a.links };
        gap_alike = λ s t loan f a. record { states = (alike_gap s t a loan).cards; answers = alike_seen _ _ loan.buffer (alike_gap s t a loan) };
        call_alike = λ s t call a. absurd call;
        gap_rests = λ card loan f left. left_rests p card loan f left;
        call_rests = λ card call rest. absurd call;
        noise_mute = λ card run loan rest x f. noise_mute card run loan rest x f;
        noise_alike = λ card run loan rest x f. noise_alike card run loan rest x f;
      }

  -- what the laws give: the noised history on our card is the quiet one on our card, which is the definition
  pub condition_3 : Condition3 (our_card p)
  unfolding card_at_power_on
  condition_3 image clock h h' n =
      let u = unnoticed (deaf image clock) n card_at_power_on (record { collectors = refl; links = refl }) (left_none p) refl in
      record { unanswered = u.unanswered; same = u.same; alike = u.alike }

  -- a sound frame with exactly one octet changed is such a run
  pub one_octet_noise : OneOctetNoise p
  one_octet_noise run f place new octets e within small other =
      record {
        some = λ none. omega (arith, within, none, length-set run place new);
        not_sound = λ f' e'.
            one_octet_changed sapr sapr_proper (octets_in p run) octets place (octet_in p new) small (rw (length-map run (octet_in p)) within) f f'
            (sound_in p sapr run f e).1 other (rw (map_set (octet_in p) run place new) at (sound_in p sapr (set run place new) f' e').1);
      }
