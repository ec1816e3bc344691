-- What the contracts of the crate `card` allow is what ours does, result, buffer and card left: every theorem about ours is about the code.
-- By the contracts' equations. Assumes nothing.
use Prim.Native.Nat.{ℕ}
use mathlib.Core.List.{List, [], ◌∷◌}
use mathlib.Core.Path.{◌≡◌, refl, ◌∙◌}
use Rattle.history.specs.History.{fed}
use Rattle.profile.specs.declared.Profile.{Profile}
use Rattle.profile.specs.declared.Profile.TheVariants.{Ten, Eleven}
use Rattle.profile.specs.Profile.{CharacterIn}
use Rattle.card.specs.declared.Card.{Card}
use Rattle.card.specs.declared.Gone.{Gone}
use Rattle.card.specs.State.{with_character, with_characters}
use Rattle.card.specs.Gap.{gone_by, Gapped}
use Rattle.card.proofs.Card.gap.Reads as card_gap
use Rattle.card.proofs.Card.power_on.Reads as card_power_on
use Rattle.card.proofs.Card.octet.Reads as card_octet
use Rattle.card.proofs.Card.octets.Reads as card_octets
use Rattle.card.proofs.Card.character.Reads as card_character
use Rattle.tender.specs.Card.{Loan, outcome_at, our_gap, ours}
use Rattle.tender.specs.Tied.{outcome_by, PowerOnTied, CharacterTied, OctetsTied, GapTied}

pub power_on_tied : PowerOnTied card_power_on.Post
power_on_tied κs r s allowed = allowed

pub octet_tied : CharacterTied Ten card_octet.Post
octet_tied κs card octet r s allowed = allowed

pub character_tied : CharacterTied Eleven card_character.Post
character_tied κs card x r s allowed = allowed

pub characters_are_ours : (p : Profile) (run : List (CharacterIn p)) (card : Card) → with_characters p card run ≡ fed (ours p) card run
unfolding with_characters fed
characters_are_ours p [] card = refl
characters_are_ours p (x ∷ run) card = characters_are_ours p run (with_character p card x)

pub octets_tied : OctetsTied card_octets.Post
octets_tied κs card octets r s allowed = allowed ∙ characters_are_ours Ten octets.now card

gap_is_ours : (card : Card) (loan : Loan) (gone : Gone) (left : List ℕ) → Gapped (outcome_at card loan) loan.buffer gone left
    → outcome_by gone left ≡ our_gap card loan
unfolding gone_by
gap_is_ours card loan gone left g = rw (g.answers, g.left_so)

-- the buffer is the fourth argument: `s` has them as they are at exit
pub gap_tied : GapTied (λ κs s. s.1.1.1.0.now) card_gap.Post
gap_tied κs card image clock buffer gone s allowed =
    gap_is_ours card (record { image = image.now; clock = clock; buffer = buffer.now }) gone s.1.1.1.0.now allowed
