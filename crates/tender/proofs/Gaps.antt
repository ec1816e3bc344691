-- What our card has collected when a run's characters are in, and what a fit gap then finds: the run alone decides.
-- By what `card` says of characters put in one after the other, and by the gap's tests. Assumes nothing.
use Prim.Native.Nat.{ℕ}
use mathlib.Core.List.{List}
use mathlib.Core.Path.{◌≡◌, sym, ap, ◌∙◌}
use lib.ListN.{length}
use Rattle.history.specs.History.{fed}
use Rattle.frame.specs.Family.{sapr}
use Rattle.frame.specs.Frame.{Verdict}
use Rattle.profile.specs.declared.Profile.{Profile}
use Rattle.profile.specs.Profile.{CharacterIn, judge_in}
use Rattle.collector.specs.declared.Collector.{Collector}
use Rattle.collector.specs.Collecting.{emptied}
use Rattle.collector.specs.Calls.{collected_all_in}
use Rattle.card.specs.Examining.{examined, examined_verdict}
use Rattle.card.proofs.Examining.{run_only}
use Rattle.card.specs.declared.Card.{Card}
use Rattle.card.specs.State.{collecting}
use Rattle.card.specs.Gap.{after_examining}
use Rattle.card.proofs.State.{characters_collected}
use Rattle.card.proofs.Gap.{gap_examined}
use Rattle.tender.specs.Card.{Loan, ours, outcome_at}
use Rattle.tender.specs.Condition3.{Fit}
use Rattle.tender.proofs.Tied.{characters_are_ours}

module _ (p : Profile) where
  pub fed_card : (run : List (CharacterIn p)) (card : Card) → fed (ours p) card run ≡ collecting (collected_all_in p card.collector run) card
  fed_card run card = sym (characters_are_ours p run card) ∙ characters_collected p run card

  pub fed_rested : (run : List (CharacterIn p)) (card : Card) → card.collector ≡ emptied → fed (ours p) card run ≡ collecting (collected_all_in p emptied run) card
  fed_rested run card r = fed_card run card ∙ ap (λ (c : Collector). collecting (collected_all_in p c run) card) r

-- a gap that is lent what is fit examines
module _ {image clock : List ℕ} {loan : Loan} (f : Fit image clock loan) where
  pub fit_gap : (card : Card) → outcome_at card loan ≡ after_examining card (examined card.collector image) image clock
  fit_gap card = rw (f.one_image, f.one_clock) (gap_examined card image clock (length loan.buffer) f.full_size f.sound_image_law)

  -- from the empty collector, what the run is judged
  pub rested_gap : (p : Profile) (card : Card) (run : List (CharacterIn p)) → card.collector ≡ emptied → (v : Verdict) → judge_in p sapr run ≡ v
      → outcome_at (fed (ours p) card run) loan ≡ after_examining (collecting (collected_all_in p emptied run) card) (examined_verdict image v) image clock
  rested_gap p card run r v e = rw (fed_rested p run card r, fit_gap (collecting (collected_all_in p emptied run) card), run_only p run image, e)
