-- Condition 3's hypotheses can be met, in both profiles: over document 01's smallest image, a reset with each kind of noise put in around it, and a
-- frame received again. By computation, and by the laws that say of each kind that it is noise. Assumes nothing.
use Prim.Native.Nat.{ℕ, zero, suc, ◌<◌}
use mathlib.Core.Bool.{Bool, true, false, false≢true}
use mathlib.Core.List.{List, [], ◌∷◌}
use mathlib.Core.Path.{◌≡◌, refl, sym, ap, ◌∙◌}
use native.Mathlib.Omega.{arith}
use lib.ListN.{length, get_or, set, replicate, length-replicate, length-map}
use Rattle.octets.proofs.Numbers.{Octets}
use Rattle.history.specs.History.{answers, after, fed, closed_run, AllFit}
use Rattle.history.specs.Noise.{Noised}
use Rattle.history.proofs.Noise.{Deaf}
use Rattle.history.specs.Noise as N
use Rattle.frame.specs.declared.Fault.{Fault}
use Rattle.frame.specs.declared.Fault.TheVariants.{Long, Malformed, Spoiled}
use Rattle.frame.specs.declared.Service.TheVariants.{Collection}
use Rattle.frame.specs.Family.{sapr}
use Rattle.frame.specs.Controls.{offered, collects}
use Rattle.frame.specs.Frame.{Frame, fixed, Verdict, refused, sound, judge}
use Rattle.frame.proofs.Frame.{judge_empty, judge_long}
use Rattle.profile.specs.declared.Profile.{Profile}
use Rattle.profile.specs.declared.Profile.TheVariants.{Ten}
use Rattle.profile.specs.Profile.{sent_in, run_sent}
use Rattle.profile.proofs.Judging.{sent_octet, run_sent_octets, sent_judged}
use Rattle.collector.specs.declared.Collector.{Collector}
use Rattle.collector.specs.Damage.{damages}
use Rattle.card.specs.declared.Card.{Card}
use Rattle.tender.specs.Card.{reply_in, History, answers_of, end_of, received, our_gap, ours, our_card}
use Rattle.tender.specs.Condition3.{Fit, Noise, Alike, Mute, Undisturbed, Counting, Again}
use Rattle.tender.specs.Cases.{smallest, lent, reset}
use Rattle.tender.proofs.Condition3.{condition_3, one_octet_noise}
use Rattle.tender.proofs.Repeats.{repeats}
use Rattle.tender.proofs.Smallest.{fit}
use Rattle.tender.proofs.Sent.{sent, ours_takes, sent_answers, sent_end}
use Rattle.tender.proofs.Examples.{closed_runs, last_number, asking, long, malformed, spoiled, changed, quiet, noisy, ack, unanswered, odd, ready, nothing_to_give}
use Rattle.tender.proofs.Worked.{everything}

-- a run that is damaged is noise, as it is sent
pub refused_noise : (p : Profile) (run : List ℕ) (fault : Fault) → judge sapr run ≡ refused fault → damages fault ≡ true → Noise p (run_sent p run)
refused_noise p run fault e d =
    record {
      some = λ none. false≢true (ap damaged (sym (judge_empty sapr run (sym (length-map run (sent_in p)) ∙ none)) ∙ e) ∙ d);
      not_sound = λ f e'. false≢true (ap damaged (sym e' ∙ sent_judged p sapr run ∙ e) ∙ d);
    }
  where
    damaged : Verdict → Bool
    damaged (refused why) = damages why
    damaged (sound f) = false

reset_sound : judge sapr reset ≡ sound (fixed 0x40 1)
unfolding everything
reset_sound = refl

reset_octets : Octets reset
reset_octets zero = omega arith
reset_octets (suc zero) = omega arith
reset_octets (suc (suc zero)) = omega arith
reset_octets (suc (suc (suc zero))) = omega arith
reset_octets (suc (suc (suc (suc zero)))) = omega arith
reset_octets (suc (suc (suc (suc (suc zero))))) = omega arith
reset_octets (suc (suc (suc (suc (suc (suc i)))))) = omega arith

module _ (p : Profile) where
  long_noise : Noise p (run_sent p long)
  long_noise = refused_noise p long Long (judge_long sapr (replicate 262 0x10) (omega (arith, length-replicate {A = ℕ} 262 0x10))) refl

  malformed_noise : Noise p (run_sent p malformed)
  unfolding everything
  malformed_noise = refused_noise p malformed Malformed refl refl

  spoiled_noise : Noise p (run_sent p spoiled)
  unfolding everything
  spoiled_noise = refused_noise p spoiled Spoiled refl refl

  -- one octet changed, as it is sent
  sent_changed : (run : List ℕ) (f : Frame) (place new : ℕ) → Octets run → judge sapr run ≡ sound f → place < length run → new < 256
      → (new ≡ get_or run place 0 → ⊥) → Noise p (set (run_sent p run) place (sent_in p new))
  sent_changed run f place new octets e within small other =
      one_octet_noise p (run_sent p run) f place (sent_in p new) (rw (run_sent_octets p run) octets) (sent_judged p sapr run ∙ e)
      (rw (length-map run (sent_in p)) within) (rw (sent_octet p new) small) (rw (sent_octet p new, run_sent_octets p run) other)

  changed_noise : Noise p (run_sent p changed)
  changed_noise = sent_changed reset (fixed 0x40 1) 1 0x41 reset_octets reset_sound (omega arith) (omega arith) (λ e. omega arith)

  -- a run that is in both histories
  abbrev pub in_both : (run : List ℕ) {fresh : Bool} {h h' : History p} → Noised (Fit smallest lent.clock) (Noise p) true h h'
      → Noised (Fit smallest lent.clock) (Noise p) fresh (closed_run (run_sent p run) lent h) (closed_run (run_sent p run) lent h')
  in_both [] n = N.gap fit n
  in_both (octet ∷ run) n = N.symbol (in_both run n)

  pub put_in : Noised (Fit smallest lent.clock) (Noise p) true (sent p quiet) (sent p noisy)
  put_in =
      N.noise (run_sent p long) lent long_noise fit
      (N.noise (run_sent p malformed) lent malformed_noise fit
      (in_both reset (N.noise (run_sent p spoiled) lent spoiled_noise fit (N.noise (run_sent p changed) lent changed_noise fit N.end))))

  -- what condition 3 says of it
  pub unheard : Undisturbed (our_card p) put_in
  unheard = condition_3 p smallest lent.clock (sent p quiet) (sent p noisy) put_in

-- so, of all that the noisy history gets, the ACK is what is left
quiet_answers : answers_of (our_card Ten) quiet ≡ ack ∷ []
unfolding everything
quiet_answers = refl

pub ack_left : (p : Profile) → N.remaining (put_in p) (answers_of (our_card p) (sent p noisy)) ≡ ack ∷ []
ack_left p = (unheard p).same ∙ sent_answers our_card p (ours_takes p) quiet ∙ quiet_answers

-- as it is when the noisy history is worked out: each run of noise gets its number, and counts as damaged
ten_answers : answers_of (our_card Ten) noisy ≡ unanswered 2 ∷ unanswered 3 ∷ ack ∷ unanswered 4 ∷ unanswered 4 ∷ []
unfolding everything
ten_answers = refl

ten_count : (end_of (our_card Ten) noisy).damaged ≡ 4
unfolding everything
ten_count = refl

ten_quiet_count : (end_of (our_card Ten) quiet).damaged ≡ 0
unfolding everything
ten_quiet_count = refl

pub noisy_answers : (p : Profile) → answers_of (our_card p) (sent p noisy) ≡ unanswered 2 ∷ unanswered 3 ∷ ack ∷ unanswered 4 ∷ unanswered 4 ∷ []
noisy_answers p = sent_answers our_card p (ours_takes p) noisy ∙ ten_answers

pub quiet_count : (p : Profile) → (end_of (our_card p) (sent p quiet)).damaged ≡ 0
quiet_count p = ap (λ (card : Card). card.damaged) (sent_end our_card p (ours_takes p) quiet) ∙ ten_quiet_count

pub noisy_count : (p : Profile) → (end_of (our_card p) (sent p noisy)).damaged ≡ 4
noisy_count p = ap (λ (card : Card). card.damaged) (sent_end our_card p (ours_takes p) noisy) ∙ ten_count

-- and a frame received again gets the same, 09
asking_sound : judge sapr asking ≡ sound (fixed 0x7B 1)
unfolding everything
asking_sound = refl

ten_asked : last_number (answers_of (our_card Ten) (closed_runs (reset ∷ asking ∷ []))) ≡ 0
unfolding everything
ten_asked = refl

pub ready_reply : reply_in (received (ours Ten) ready asking lent).answer ≡ nothing_to_give
unfolding everything
ready_reply = refl

module _ (p : Profile) where
  pub counting : Counting p (run_sent p asking)
  unfolding offered
  counting =
      record { frame = fixed 0x7B 1; service = Collection 1; bit = 1; is_sound = sent_judged p sapr asking ∙ asking_sound; asks = refl; counts = collects }

  pub quiet_fit : AllFit (Fit smallest lent.clock) (sent p quiet)
  quiet_fit = (fit, tt)

  -- the collection as it is sent, from the reset on
  pub ready_answers : (received (ours p) (end_of (our_card p) (sent p quiet)) (run_sent p asking) lent).answer.number ≡ 0
  unfolding answers after fed
  ready_answers = ap last_number (sent_answers our_card p (ours_takes p) (closed_runs (reset ∷ asking ∷ []))) ∙ ten_asked

  pub asked_again : (let first = received (ours p) (end_of (our_card p) (sent p quiet)) (run_sent p asking) lent in
      Again first (received (ours p) first.state (run_sent p asking) lent) lent.buffer)
  asked_again = repeats p smallest lent.clock (sent p quiet) (run_sent p asking) lent lent quiet_fit refl counting fit fit ready_answers

-- asked of every state, the laws do not hold of our card, whatever rest is: a gap with no run leaves the odd one as it came, noise does not
odd_kept : (our_gap odd lent).state ≡ odd
unfolding everything
odd_kept = refl

odd_noise : get_or (received (ours Ten) odd malformed lent).state.collector.octets 0 0 ≡ 0
unfolding everything
odd_noise = refl

pub every_state : (Rest : Card → Type 0) → Deaf (ours Ten) (Fit smallest lent.clock) (Noise Ten) (λ (card : Card). Unit {0}) Alike Rest Mute → ⊥
every_state Rest d =
    let rest : Rest odd = rw odd_kept at (d.gap_rests odd lent fit tt) in
    let same = ap (λ (c : Collector). get_or c.octets 0 0) (d.noise_alike odd malformed lent rest (malformed_noise Ten) fit).collectors in
    omega (arith, odd_noise, same)
