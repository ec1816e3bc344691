-- Every public contract of this crate leaves one outcome.
-- By its one equation, or by those of what it does. Assumes nothing.
use Rattle.octets.proofs.Outcome.{OneResult, OneOutcome, one_outcome, does_one}
use Rattle.card.proofs.Card.gap.Reads as card_gap
use Rattle.card.proofs.Card.power_on.Reads as card_power_on
use Rattle.card.proofs.Card.octet.Reads as card_octet
use Rattle.card.proofs.Card.octets.Reads as card_octets
use Rattle.card.proofs.Card.character.Reads as card_character
use Rattle.card.proofs.NoAnswerFromFault.from.Reads as no_answer_from

card_power_on_one : OneResult card_power_on.Post
card_power_on_one κs a r r' s s' = one_outcome

card_octet_one : OneResult card_octet.Post
card_octet_one κs a r r' s s' = one_outcome

card_octets_one : OneResult card_octets.Post
card_octets_one κs a r r' s s' = one_outcome

card_character_one : OneResult card_character.Post
card_character_one κs a r r' s s' = one_outcome

card_gap_one : OneOutcome (λ κs s. s.1.1.1.0.now) card_gap.Post
card_gap_one κs a r r' s s' = does_one

no_answer_from_one : OneResult no_answer_from.Post
no_answer_from_one κs a r r' s s' = one_outcome
