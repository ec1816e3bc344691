-- The two profiles of the line: a character is an octet and, with eleven bits, its parity bit. Which run of characters is a sound frame, in each.
-- Assumes nothing.
use Rattle.std.specs.Prelude.{ℕ, Bool, true, not, List, [], map, ltb, eqb, length}
use Rattle.octets.specs.Conditions.{holds}
use Rattle.octets.specs.First.{◌⇒◌▸◌, first_of◌else◌}
use Rattle.frame.specs.declared.Fault.TheVariants.{Empty, Long, Parity}
use Rattle.frame.specs.Family.{Family}
use Rattle.frame.specs.Frame.{Verdict, refused, judge}
use Rattle.profile.specs.declared.Character.{Character}
use Rattle.profile.specs.declared.Profile.{Profile}
use Rattle.profile.specs.declared.Profile.TheVariants.{Ten, Eleven}
use Rattle.profile.specs.Character.{even_parity, rightly}

-- what the line delivers: with ten bits an octet, with eleven an octet and the parity bit that came with it
abbrev pub CharacterIn : Profile → Type 0
CharacterIn Ten = ℕ
CharacterIn Eleven = Character

abbrev pub octet_in : (p : Profile) → CharacterIn p → ℕ
octet_in Ten octet = octet
octet_in Eleven c = c.octet

-- whether its parity bit is right: with ten bits it has none, so none is wrong
abbrev pub right_in : (p : Profile) → CharacterIn p → Bool
right_in Ten octet = true
right_in Eleven c = even_parity c

-- an octet as the line's hardware sends it, with its right parity bit
abbrev pub sent_in : (p : Profile) → ℕ → CharacterIn p
sent_in Ten octet = octet
sent_in Eleven octet = rightly octet

-- what a run is, by its octets and by whether a parity bit was wrong: 1 empty, 2 over 261 octets, 10 a parity bit wrong; 3 and 4 are what the octets decide
unfoldable pub judge_marked : Family → Bool → List ℕ → Verdict
judge_marked k wrong run =
    first_of
    eqb (length run) 0 ⇒ refused Empty ▸
    ltb 261 (length run) ⇒ refused Long ▸
    wrong ⇒ refused Parity ▸ []
    else judge k run

-- the same of all characters of a run, and what the run is
module _ (p : Profile) where
  abbrev pub octets_in : List (CharacterIn p) → List ℕ
  octets_in run = map (octet_in p) run

  abbrev pub are_right : List (CharacterIn p) → Bool
  are_right run = holds (map (right_in p) run)

  abbrev pub run_sent : List ℕ → List (CharacterIn p)
  run_sent octets = map (sent_in p) octets

  abbrev pub judge_in : Family → List (CharacterIn p) → Verdict
  judge_in k run = judge_marked k (not (are_right run)) (octets_in run)
