-- A history of octets as it is sent, in either profile: each octet with its right parity bit. A card that takes what is sent as the ten-bit card takes the octets
-- answers alike and is left alike; so what is worked out in octets holds in both profiles. By the two machines in step. Assumes nothing.
use Prim.Native.Nat.{ℕ}
use mathlib.Core.List.{[], ◌∷◌}
use mathlib.Core.Path.{◌≡◌, refl, ap}
use Rattle.history.specs.History.{Symbol, Gap, Call}
use Rattle.history.proofs.Sides.{Alongside, InStep, in_step, in_pairs_same}
use Rattle.history.proofs.Sides as side
use Rattle.profile.specs.declared.Profile.{Profile}
use Rattle.profile.specs.declared.Profile.TheVariants.{Ten}
use Rattle.profile.specs.Profile.{CharacterIn, sent_in}
use Rattle.card.specs.declared.Card.{Card}
use Rattle.card.proofs.State.{sent_taken}
use Rattle.tender.specs.Card.{Loan, Seen, GapCall, History, answers_of, end_of, our_card}
use Rattle.tender.specs.Wrong.{WrongCard, with_gap}

abbrev pub sent : (p : Profile) → History Ten → History p
sent p [] = []
sent p (Symbol octet ∷ h) = Symbol (sent_in p octet) ∷ sent p h
sent p (Gap loan ∷ h) = Gap loan ∷ sent p h
sent p (Call none ∷ h) = absurd none

-- what is sent is taken as the ten-bit card takes the octets
pub record Takes (c : WrongCard) (p : Profile) : Type 0 where
  pub starts : (c p).power_on ≡ (c Ten).power_on
  pub octets : (card : Card) (octet : ℕ) → (c p).calls.symbol card (sent_in p octet) ≡ (c Ten).calls.symbol card octet
  pub gaps : (card : Card) (loan : Loan) → (c p).calls.gap card loan ≡ (c Ten).calls.gap card loan

-- so does every card that differs from ours in its gaps alone, and ours
pub gap_takes : (gap : GapCall) (p : Profile) → Takes (with_gap gap) p
gap_takes gap p = record { starts = refl; octets = sent_taken p; gaps = λ card loan. refl }

pub ours_takes : (p : Profile) → Takes our_card p
ours_takes p = record { starts = refl; octets = sent_taken p; gaps = λ card loan. refl }

module _ (c : WrongCard) (p : Profile) (t : Takes c p) where
  abbrev Sends : CharacterIn p → ℕ → Type 0
  Sends x octet = x ≡ sent_in p octet

  beside : (h : History Ten) → Alongside Sends (λ (l l' : Loan). l ≡ l') (λ (e e' : ⊥). e ≡ e') (sent p h) h
  beside [] = side.end
  beside (Symbol octet ∷ h) = side.symbol refl (beside h)
  beside (Gap loan ∷ h) = side.gap refl (beside h)
  beside (Call none ∷ h) = absurd none

  steps : InStep (c p).calls (c Ten).calls Sends (λ (l l' : Loan). l ≡ l') (λ (e e' : ⊥). e ≡ e') (λ (s s' : Card). s ≡ s') (λ (o o' : Seen). o ≡ o')
  steps =
      record {
        symbols = λ s s' x octet is same. rw (is, same) (t.octets s' octet);
        gaps = λ s s' loan loan' is same.
            rw (is, same) (record { states = ap (λ x. x.state) (t.gaps s' loan'); answers = ap (λ x. x.answer) (t.gaps s' loan') });
        calls = λ s s' call call' is same. absurd call;
      }

  pub sent_answers : (h : History Ten) → answers_of (c p) (sent p h) ≡ answers_of (c Ten) h
  sent_answers h = in_pairs_same _ _ (in_step steps (beside h) (c p).power_on (c Ten).power_on t.starts).0

  pub sent_end : (h : History Ten) → end_of (c p) (sent p h) ≡ end_of (c Ten) h
  sent_end h = (in_step steps (beside h) (c p).power_on (c Ten).power_on t.starts).1
