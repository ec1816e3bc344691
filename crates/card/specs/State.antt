-- The card's state: one function for each part that changes. This is the one file in which the record is spelled.
-- Assumes nothing.
use Rattle.std.specs.Prelude.{ℕ, List, [], ◌∷◌}
use Rattle.octets.specs.Choice.{when◌then◌else◌}
use Rattle.frame.specs.declared.Fault.{Fault}
use Rattle.profile.specs.declared.Profile.{Profile}
use Rattle.profile.specs.declared.Profile.TheVariants.{Ten}
use Rattle.profile.specs.Profile.{CharacterIn}
use Rattle.collector.specs.declared.Collector.{Collector}
use Rattle.collector.specs.Collecting.{emptied, collected_in}
use Rattle.collector.specs.Damage.{damages, one_more}
use Rattle.link.specs.declared.Link.{Link}
use Rattle.link.specs.State.{power_on}
use Rattle.card.specs.declared.Card.{Card}

-- at power-on: link not reset, no session, nothing waiting, collector empty, count 0
unfoldable pub card_at_power_on : Card
card_at_power_on = record { collector = emptied; link = power_on; damaged = 0 }

-- a card with another collector
abbrev pub collecting : Collector → Card → Card
collecting collector card = record { collector = collector; link = card.link; damaged = card.damaged }

-- a character is put into the collector
unfoldable pub with_character : (p : Profile) → Card → CharacterIn p → Card
with_character p card x = collecting (collected_in p card.collector x) card

-- characters are put in, one after the other
unfoldable pub with_characters : (p : Profile) → Card → List (CharacterIn p) → Card
with_characters p card [] = card
with_characters p card (x ∷ rest) = with_characters p (with_character p card x) rest

-- with ten bits they are octets
abbrev pub with_octet : Card → ℕ → Card
with_octet card octet = with_character Ten card octet

abbrev pub with_octets : Card → List ℕ → Card
with_octets card octets = with_characters Ten card octets

-- the run is gone: the collector is as fresh; the link is as it is then
unfoldable pub left_with : Link → Card → Card
left_with link card = record { collector = emptied; link = link; damaged = card.damaged }

-- a run that is no sound frame: a damaged one is gone and counted; an empty one changes nothing
unfoldable pub damaged_by : Fault → Card → Card
damaged_by fault card = when damages fault then record { collector = emptied; link = card.link; damaged = one_more card.damaged } else card
