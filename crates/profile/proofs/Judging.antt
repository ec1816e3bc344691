-- A run of characters judged, in both profiles at once: where all parity bits are right, the octets decide; octets as they are sent have theirs right; and so
-- has a sound frame. By the list of numbers. Assumes nothing.
use Prim.Native.Nat.{ℕ, ◌≤◌, ◌<◌}
use mathlib.Core.Bool.{Bool, true, false, not}
use mathlib.Core.List.{List, [], ◌∷◌}
use mathlib.Core.Path.{◌≡◌, refl, sym, ap}
use native.Mathlib.Omega.{arith}
use borrow.Author.Tests.{eqb-true, ltb-true, ne_eqb, le-ltb}
use lib.Dec.{eqb, ltb}
use lib.ListN.{length}
use Rattle.octets.specs.Conditions.{holds}
use Rattle.octets.proofs.Choice.{either, flipped}
use Rattle.frame.specs.declared.Fault.TheVariants.{Parity}
use Rattle.frame.specs.Family.{Family}
use Rattle.frame.specs.Frame.{Frame, Verdict, refused, sound, judge}
use Rattle.frame.proofs.Frame.{never, judge_empty, judge_long}
use Rattle.profile.specs.declared.Profile.{Profile}
use Rattle.profile.specs.declared.Profile.TheVariants.{Ten, Eleven}
use Rattle.profile.specs.Character.{rightly}
use Rattle.profile.specs.Profile.{CharacterIn, octet_in, right_in, sent_in, octets_in, are_right, run_sent, judge_marked, judge_in}
use Rattle.profile.proofs.Parity.{rightly_even}

-- an octet as it is sent
pub sent_octet : (p : Profile) (octet : ℕ) → octet_in p (sent_in p octet) ≡ octet
unfolding rightly
sent_octet Ten octet = refl
sent_octet Eleven octet = refl

pub sent_right : (p : Profile) (octet : ℕ) → right_in p (sent_in p octet) ≡ true
sent_right Ten octet = refl
sent_right Eleven octet = rightly_even octet

module _ (k : Family) (run : List ℕ) where
  -- without a mark the octets decide: they have the same length
  pub unmarked_judged : judge_marked k false run ≡ judge k run
  unfolding judge_marked
  unmarked_judged =
      either (λ (v : Verdict). v ≡ judge k run) (eqb (length run) 0) (λ t. sym (judge_empty k run (eqb-true (length run) 0 t)))
      (λ t. either (λ (v : Verdict). v ≡ judge k run) (ltb 261 (length run)) (λ u. sym (judge_long k run (ltb-true 261 (length run) u))) (λ u. refl))

  -- with one a run that is not empty and not too long is 10
  pub marked_judged : 0 < length run → length run ≤ 261 → judge_marked k true run ≡ refused Parity
  unfolding judge_marked
  marked_judged some short = rw (ne_eqb (length run) 0 (λ e. omega arith), le-ltb 261 (length run) short)

  -- what a sound frame is
  abbrev Fine : Bool → Frame → Verdict → Type 0
  Fine wrong f v = v ≡ sound f → (wrong ≡ false) × (judge k run ≡ sound f)

  pub sound_unmarked : (wrong : Bool) (f : Frame) → judge_marked k wrong run ≡ sound f → (wrong ≡ false) × (judge k run ≡ sound f)
  unfolding judge_marked
  sound_unmarked wrong f =
      either (Fine wrong f) (eqb (length run) 0) (λ t e. absurd (never e))
      (λ t. either (Fine wrong f) (ltb 261 (length run)) (λ u e. absurd (never e))
      (λ u. either (Fine wrong f) wrong (λ w e. absurd (never e)) (λ w e. (w, e))))

module _ (p : Profile) where
  pub run_sent_octets : (octets : List ℕ) → octets_in p (run_sent p octets) ≡ octets
  run_sent_octets [] = refl
  run_sent_octets (octet ∷ octets) = rw (sent_octet p octet) (ap (λ (l : List ℕ). octet ∷ l) (run_sent_octets octets))

  pub run_sent_right : (octets : List ℕ) → are_right p (run_sent p octets) ≡ true
  unfolding holds
  run_sent_right [] = refl
  run_sent_right (octet ∷ octets) = rw (sent_right p octet) (run_sent_right octets)

  module _ (k : Family) where
    pub sent_judged : (octets : List ℕ) → judge_in p k (run_sent p octets) ≡ judge k octets
    sent_judged octets = rw (run_sent_right octets, run_sent_octets octets) (unmarked_judged k octets)

    pub sound_in : (run : List (CharacterIn p)) (f : Frame) → judge_in p k run ≡ sound f → (are_right p run ≡ true) × (judge k (octets_in p run) ≡ sound f)
    sound_in run f e =
        let s = sound_unmarked k (octets_in p run) (not (are_right p run)) f e in
        (flipped (are_right p run) false s.0, s.1)
