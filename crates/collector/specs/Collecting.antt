-- The collector. Document 01, "The card's job": an octet is put into the collector (262 or more mark it overfull). #104: a character with a wrong parity bit
-- marks the run; its octet counts.
-- Assumes nothing.
use Rattle.std.specs.Prelude.{ℕ, ◌+◌, Bool, false, not, ◌||◌, List, ltb, take, set, replicate}
use Rattle.octets.specs.Choice.{when◌then◌else◌}
use Rattle.frame.specs.declared.Fault.TheVariants.{Long}
use Rattle.frame.specs.Family.{Family}
use Rattle.frame.specs.Frame.{Verdict, refused}
use Rattle.profile.specs.declared.Profile.{Profile}
use Rattle.profile.specs.declared.Profile.TheVariants.{Ten}
use Rattle.profile.specs.Profile.{CharacterIn, octet_in, right_in, judge_marked}
use Rattle.collector.specs.declared.Collector.{Collector}

-- empty, and overfull: one fixed value, whatever came before
unfoldable pub emptied : Collector
emptied = record { octets = replicate 261 0; length = 0; marked = false }

unfoldable pub overfull : Collector
overfull = record { octets = replicate 261 0; length = 262; marked = false }

unfoldable pub is_overfull : Collector → Bool
is_overfull c = ltb 261 c.length

-- a character is put in: its octet, and a mark where its parity bit is wrong
unfoldable pub collected_in : (p : Profile) → Collector → CharacterIn p → Collector
collected_in p c x =
    when ltb c.length 261
    then record { octets = set c.octets c.length (octet_in p x); length = c.length + 1; marked = not (right_in p x) || c.marked }
    else overfull

-- with ten bits it is an octet
abbrev pub collected : Collector → ℕ → Collector
collected c octet = collected_in Ten c octet

-- the octets since the last gap, of a collector that is not overfull
unfoldable pub run_of : Collector → List ℕ
run_of c = take c.length c.octets

-- what the run in a collector is, in a family of frames
unfoldable pub verdict_of : Family → Collector → Verdict
verdict_of k c = when is_overfull c then refused Long else judge_marked k c.marked (run_of c)
