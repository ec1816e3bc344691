-- What this crate's own calls answer: octets put in at once, and an octet or a character put into a collector that is lent. The card's definition does
-- without it. Assumes nothing.
use Rattle.std.specs.Prelude.{ℕ, List, [], ◌∷◌, ◌≡◌}
use Rattle.profile.specs.declared.Profile.{Profile}
use Rattle.profile.specs.declared.Profile.TheVariants.{Ten}
use Rattle.profile.specs.Profile.{CharacterIn}
use Rattle.collector.specs.declared.Collector.{Collector}
use Rattle.collector.specs.Collecting.{collected_in}

-- character after character; octet after octet
unfoldable pub collected_all_in : (p : Profile) → Collector → List (CharacterIn p) → Collector
collected_all_in p c [] = c
collected_all_in p c (x ∷ xs) = collected_all_in p (collected_in p c x) xs

abbrev pub collected_all : Collector → List ℕ → Collector
collected_all c octets = collected_all_in Ten c octets

-- `PutIn p before x left`: what putting a character into a collector that is lent leaves
pub record PutIn (p : Profile) (before : Collector) (x : CharacterIn p) (left : Collector) : Type 0 where
  pub leaves : left ≡ collected_in p before x
