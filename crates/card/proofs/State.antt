-- Characters put into a card, one after the other, keep its link and its count and are all collected.
-- An octet as it is sent is taken as the octet is with ten bits. By recursion on the characters. Assumes nothing.
use Prim.Native.Nat.{ℕ}
use mathlib.Core.List.{List, [], ◌∷◌}
use mathlib.Core.Path.{◌≡◌, refl, sym, ap, ◌∙◌}
use Rattle.profile.specs.declared.Profile.{Profile}
use Rattle.profile.specs.Profile.{CharacterIn, sent_in, run_sent}
use Rattle.profile.proofs.Judging.{sent_octet, sent_right}
use Rattle.collector.specs.declared.Collector.{Collector}
use Rattle.collector.specs.Collecting.{collected}
use Rattle.collector.specs.Calls.{collected_all_in}
use Rattle.collector.proofs.Collecting.{right_collected}
use Rattle.card.specs.declared.Card.{Card}
use Rattle.card.specs.State.{collecting, with_character, with_characters, with_octet, with_octets}

pub characters_collected : (p : Profile) (run : List (CharacterIn p)) (card : Card) → with_characters p card run ≡ collecting (collected_all_in p card.collector run) card
unfolding with_character with_characters collected_all_in
characters_collected p [] card = refl
characters_collected p (x ∷ rest) card = characters_collected p rest (with_character p card x)

-- one that is sent, with its right parity bit
pub sent_taken : (p : Profile) (card : Card) (octet : ℕ) → with_character p card (sent_in p octet) ≡ with_octet card octet
unfolding with_character
sent_taken p card octet =
    ap (λ (c : Collector). collecting c card)
    (sym (right_collected p card.collector (sent_in p octet) (sent_right p octet)) ∙ ap (collected card.collector) (sent_octet p octet))

pub sent_all : (p : Profile) (octets : List ℕ) (card : Card) → with_characters p card (run_sent p octets) ≡ with_octets card octets
unfolding with_characters
sent_all p [] card = refl
sent_all p (octet ∷ octets) card = ap (λ (c : Card). with_characters p c (run_sent p octets)) (sent_taken p card octet) ∙ sent_all p octets (with_octet card octet)
