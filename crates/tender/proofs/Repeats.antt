-- An answered data or collection frame received again as the next run gets the same reply, gives no order, changes nothing.
-- Answered, it leaves its FCB as the last and its reply as the remembered one, and that answers it again. Assumes nothing.
use Rattle.std.specs.Prelude.{Option, Some, Result, Ok}
use Prim.Native.Nat.{ℕ}
use mathlib.Core.Bool.{Bool, false, true, not}
use mathlib.Core.List.{List, [], ◌∷◌}
use mathlib.Core.Path.{◌≡◌, refl, sym, ap, ◌∙◌}
use native.Mathlib.Omega.{arith}
use lib.ListN.{length, drop}
use lib.Seq.{take_at, drop_at}
use Rattle.octets.specs.declared.Kept.{Kept}
use Rattle.octets.specs.Keeping.{kept_of}
use Rattle.octets.proofs.Choice.{either}
use Rattle.history.specs.History.{Symbol, Gap, Call, after, fed, AllFit}
use Rattle.frame.specs.declared.Service.{Service}
use Rattle.frame.specs.Family.{sapr}
use Rattle.frame.specs.Frame.{Frame, fixed, variable, sound}
use Rattle.frame.specs.Controls.{asked_by}
use Rattle.frame.specs.Writing.{reply_octets}
use Rattle.profile.specs.declared.Profile.{Profile}
use Rattle.profile.specs.Profile.{CharacterIn, judge_in}
use Rattle.fields.specs.Answers.{identity_found}
use Rattle.collector.specs.Collecting.{emptied}
use Rattle.collector.specs.Calls.{collected_all_in}
use Rattle.link.specs.declared.Sends.{Sends}
use Rattle.link.specs.declared.Sends.TheVariants.{NotReset, Remembered}
use Rattle.link.specs.declared.Answered.{Answered}
use Rattle.link.specs.Answering.{answered_by, answered, reply_sent}
use Rattle.link.proofs.Answering.{which, answered_noted, answered_last}
use Rattle.card.specs.declared.Card.{Card}
use Rattle.card.specs.declared.Asked.{Asked}
use Rattle.card.specs.declared.NoAnswer.{NoAnswer}
use Rattle.card.specs.State.{card_at_power_on, collecting, left_with}
use Rattle.card.specs.Examining.{is_link, heard, examined_frame, examined_verdict}
use Rattle.card.specs.Gap.{refusal, replied_by, after_answer, after_examining}
use Rattle.card.specs.Gap as gap
use Rattle.card.proofs.Gap.{answer_0, answer_replied}
use Rattle.tender.specs.Card.{Loan, reply_in, History, end_of, received, seen_of, outcome_at, our_gap, ours, our_card}
use Rattle.tender.specs.Condition3.{Fit, Counting, Again, ends_fresh, Repeats}
use Rattle.tender.proofs.Gaps.{rested_gap}
use Rattle.tender.proofs.Condition3.{Left, left_none, left_rests, left_kept}

-- the user octets of a frame
abbrev user_in : Frame → Kept
user_in (fixed c a) = kept_of []
user_in (variable c a user) = kept_of user

-- a frame that asks for a service is heard so where it is answered: it is for this card
module _ (card : Card) (image clock : List ℕ) (asked : Service) where
  abbrev TakenAs : Kept → Result Asked NoAnswer → Type 0
  TakenAs user x = (after_examining card x image clock).number ≡ 0 → x ≡ Ok (record { service = asked; user = user })

  taken : (f : Frame) → asked_by f ≡ Some asked → TakenAs (user_in f) (examined_verdict image (sound f))
  unfolding examined_frame after_examining refusal
  taken (fixed c a) asks =
      either (TakenAs (kept_of [])) (not (is_link (identity_found image) (record { 0 = a }))) (λ l e. absurd (omega (arith, e)))
      (λ l e. ap (λ (x : Option Service). heard x []) asks)
  taken (variable c a user) asks =
      either (TakenAs (kept_of user)) (not (is_link (identity_found image) (record { 0 = a }))) (λ l e. absurd (omega (arith, e)))
      (λ l e. ap (λ (x : Option Service). heard x user) asks)

-- from the empty collector, a sound frame for this card
module _ (p : Profile) {image clock : List ℕ} (run : List (CharacterIn p)) (frame : Frame) (says : judge_in p sapr run ≡ sound frame) (asked : Service)
    (taken_as : examined_verdict image (sound frame) ≡ Ok (record { service = asked; user = user_in frame })) where
  sound_gap : (card : Card) (loan : Loan) → Fit image clock loan → card.collector ≡ emptied
      → outcome_at (fed (ours p) card run) loan ≡ after_answer (collecting (collected_all_in p emptied run) card) (answered card.link asked (user_in frame) image clock)
  unfolding after_examining
  sound_gap card loan f rest =
      rested_gap f p card run rest (sound frame) says
      ∙ ap (λ (x : Result Asked NoAnswer). after_examining (collecting (collected_all_in p emptied run) card) x image clock) taken_as

  -- answered with a: the reply is a's, the link is as a leaves it, and all else of the card is as it was
  answered_gap : (card : Card) (loan : Loan) → Fit image clock loan → card.collector ≡ emptied
      → (a : Answered) → answered card.link asked (user_in frame) image clock ≡ a → (a.sends ≡ NotReset → ⊥)
      → outcome_at (fed (ours p) card run) loan ≡ replied_by card a (reply_sent a.sends a.link)
  unfolding replied_by left_with
  answered_gap card loan f rest a e some =
      sound_gap card loan f rest ∙ rw e (answer_replied (collecting (collected_all_in p emptied run) card) a some)

-- the reply stands in the first octets
reply_in_law : (o : gap.Outcome) (buffer : List ℕ) → reply_in (seen_of o buffer) ≡ o.reply
reply_in_law o buffer = take_at o.reply (drop (length o.reply) buffer) (length o.reply) refl

-- from any card with an empty collector
pub repeats_from : (p : Profile) (image clock : List ℕ) (card : Card) (run : List (CharacterIn p)) (loan loan' : Loan) → card.collector ≡ emptied → Counting p run
    → Fit image clock loan → Fit image clock loan' → (received (ours p) card run loan).answer.number ≡ 0
    → Again (received (ours p) card run loan) (received (ours p) (received (ours p) card run loan).state run loan') loan'.buffer
unfolding replied_by left_with answered_by which
repeats_from p image clock card run loan loan' rest counting f f' zero =
    let frame = counting.frame in
    let asked = counting.service in
    let user = user_in frame in
    let full = collecting (collected_all_in p emptied run) card in
    let t = taken full image clock asked frame counting.asks (rw (rested_gap f p card run rest (sound frame) counting.is_sound) at zero) in
    let a = answered card.link asked user image clock in
    let some = answer_0 full a (rw (sound_gap p run frame counting.is_sound asked t card loan f rest) at zero) in
    let n = answered_noted card.link user image clock counting.counts some in
    let first = answered_gap p run frame counting.is_sound asked t card loan f rest a refl some in
    let left : Card = left_with a.link card in
    let repeated = answered_last a.link user image clock counting.counts n.is_reset n.last in
    let again = answered_gap p run frame counting.is_sound asked t left loan' f' refl (answered_by Remembered a.link) repeated (λ e. omega (arith, ap which e)) in
    let same : reply_sent a.sends a.link ≡ a.link.remembered = ap (λ (s : Sends). reply_sent s a.link) n.remembers in
    let o = outcome_at (fed (ours p) card run) loan in
    let second = ap (λ (x : Card). outcome_at (fed (ours p) x run) loan') (ap (λ (x : gap.Outcome). x.card) first) ∙ again in
    let twice = outcome_at (fed (ours p) o.card run) loan' in
    let reply : twice.reply ≡ o.reply =
    ap (λ (x : gap.Outcome). x.reply) second ∙ ap reply_octets (sym same) ∙ sym (ap (λ (x : gap.Outcome). x.reply) first) in
    record {
      answered = zero;
      answered_again = ap (λ (x : gap.Outcome). x.number) second;
      same_length = ap (λ (l : List ℕ). length l) reply;
      same_reply = reply_in_law twice loan'.buffer ∙ reply ∙ sym (reply_in_law o loan.buffer);
      rest_kept = drop_at twice.reply (drop (length twice.reply) loan'.buffer) (length twice.reply) refl;
      no_order = ap (λ (x : gap.Outcome). x.order) second;
      no_time_law = ap (λ (x : gap.Outcome). x.time) second;
      nothing_changes = ap (λ (x : gap.Outcome). x.card) second ∙ sym (ap (λ (x : gap.Outcome). x.card) first);
    }

-- directly after a gap, or at the start, the collector is empty
abbrev EmptyIf : Bool → Card → Type 0
EmptyIf true card = card.collector ≡ emptied
EmptyIf false card = Unit {0}

pub fresh_empty : (p : Profile) (image clock : List ℕ) (fresh : Bool) (card : Card) (h : History p) → AllFit (Fit image clock) h → Left p card.collector
    → EmptyIf fresh card → ends_fresh fresh h ≡ true → (after (ours p) card h).collector ≡ emptied
unfolding after
fresh_empty p image clock fresh card [] fit left rest ends = rw ends at rest
fresh_empty p image clock fresh card (Symbol x ∷ h) fit left rest ends =
    fresh_empty p image clock false ((ours p).symbol card x) h fit ((left_kept p image clock).symbols card x left) tt ends
fresh_empty p image clock fresh card (Gap loan ∷ h) fit left rest ends =
    fresh_empty p image clock true (our_gap card loan).state h fit.1 ((left_kept p image clock).gaps card loan fit.0 left)
    (left_rests p card loan fit.0 left) ends
fresh_empty p image clock fresh card (Call none ∷ h) fit left rest ends = absurd none

pub repeats : (p : Profile) → Repeats (our_card p)
unfolding card_at_power_on
repeats p image clock h run loan loan' fit ends counting f f' zero =
    repeats_from p image clock (end_of (our_card p) h) run loan loan' (fresh_empty p image clock true card_at_power_on h fit (left_none p) refl ends) counting f f' zero
