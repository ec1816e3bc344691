-- The contracts of the crate `card` are tied to ours: whatever a contract allows, ours does. A contract is what the check reads off the source:
-- a relation of lifetimes, arguments, the result and what is left at exit. Definitions cannot name it, so each statement here is over any
-- contract with such arguments and such a result; `proofs/Tied` says it of the five public ones. Assumes nothing.
use Rattle.std.specs.Prelude.{ℕ, List, ◌≡◌}
use Rattle.std.specs.Borrow.{Bor, MutBor}
use Rattle.history.specs.History.{Stepped, fed}
use Rattle.profile.specs.declared.Profile.{Profile}
use Rattle.profile.specs.declared.Profile.TheVariants.{Ten}
use Rattle.profile.specs.Profile.{CharacterIn}
use Rattle.card.specs.declared.Card.{Card}
use Rattle.card.specs.declared.Gone.{Gone}
use Rattle.card.specs.State.{card_at_power_on}
use Rattle.tender.specs.Card.{Seen, our_gap, ours}

-- what a gap's result and the buffer at exit come to: the card that is left, and what is seen
abbrev pub outcome_by : Gone → List ℕ → Stepped Card Seen
outcome_by gone left =
    record {
      state = gone.card;
      answer = record { number = gone.number; count = gone.length; order = gone.order; time = gone.time; buffer = left };
    }

module _ {ℓ γ} {K : Type ℓ} {S : K → Type γ} where
  abbrev pub PowerOnTied : ((κs : K) → Unit {0} → Card → S κs → Type 0) → Type (ℓ ⊔ γ)
  PowerOnTied Post = (κs : K) (r : Card) (s : S κs) → Post κs tt r s → r ≡ card_at_power_on

  -- `Card::octet` with ten bits, `Card::character` with eleven
  abbrev pub CharacterTied : (p : Profile) → ((κs : K) → Card × (CharacterIn p × Unit {0}) → Card → S κs → Type 0) → Type (ℓ ⊔ γ)
  CharacterTied p Post = (κs : K) (card : Card) (x : CharacterIn p) (r : Card) (s : S κs) → Post κs (card, (x, tt)) r s → r ≡ (ours p).symbol card x

  -- octets put in at once are octets put in one by one
  abbrev pub OctetsTied : ((κs : K) → Card × (Bor (List ℕ) × Unit {0}) → Card → S κs → Type 0) → Type (ℓ ⊔ γ)
  OctetsTied Post =
      (κs : K) (card : Card) (octets : Bor (List ℕ)) (r : Card) (s : S κs) → Post κs (card, (octets, tt)) r s → r ≡ fed (ours Ten) card octets.now

  -- `left` reads off the buffer at exit
  abbrev pub GapTied : ((κs : K) → S κs → List ℕ) → ((κs : K) → Card × (Bor (List ℕ) × (List ℕ × (MutBor (List ℕ) × Unit {0}))) → Gone → S κs → Type 0)
      → Type (ℓ ⊔ γ)
  GapTied left Post =
      (κs : K) (card : Card) (image : Bor (List ℕ)) (clock : List ℕ) (buffer : MutBor (List ℕ)) (gone : Gone) (s : S κs)
      → Post κs (card, (image, (clock, (buffer, tt)))) gone s
      → outcome_by gone (left κs s) ≡ our_gap card (record { image = image.now; clock = clock; buffer = buffer.now })
