-- Every public contract of this crate leaves one outcome.
-- By its one equation. Assumes nothing.
use mathlib.Core.Path.{◌≡◌, refl}
use Rattle.octets.proofs.Outcome.{OneResult, OneOutcome, one_outcome}
use Rattle.profile.specs.declared.Profile.{Profile}
use Rattle.profile.specs.Profile.{CharacterIn}
use Rattle.collector.specs.declared.Collector.{Collector}
use Rattle.collector.specs.Calls.{PutIn}
use Rattle.collector.proofs.Collector.new.Reads as collector_new
use Rattle.collector.proofs.Collector.with.Reads as collector_with
use Rattle.collector.proofs.Collector.with_character.Reads as with_character
use Rattle.collector.proofs.Collector.with_all.Reads as collector_with_all
use Rattle.collector.proofs.collect.Reads as collect
use Rattle.collector.proofs.collect_character.Reads as collect_character
use Rattle.collector.proofs.is_damaged.Reads as is_damaged
use Rattle.collector.proofs.one_more.Reads as one_more

collector_new_one : OneResult collector_new.Post
collector_new_one κs a r r' s s' = one_outcome

collector_with_one : OneResult collector_with.Post
collector_with_one κs a r r' s s' = one_outcome

with_character_one : OneResult with_character.Post
with_character_one κs a r r' s s' = one_outcome

-- of the relation that the contracts of `collect` and `collect_character` name; and of both contracts, with what is left in the collector that is lent
collect_one : {p : Profile} {before left left' : Collector} {x : CharacterIn p} → PutIn p before x left → PutIn p before x left' → left ≡ left'
collect_one p p' = one_outcome p.leaves p'.leaves

collect_contract_one : OneOutcome (λ κs s. s.0.now) collect.Post
collect_contract_one κs a r r' s s' p p' = (refl, collect_one p p')

collect_character_one : OneOutcome (λ κs s. s.0.now) collect_character.Post
collect_character_one κs a r r' s s' p p' = (refl, collect_one p p')

collector_with_all_one : OneResult collector_with_all.Post
collector_with_all_one κs a r r' s s' = one_outcome

is_damaged_one : OneResult is_damaged.Post
is_damaged_one κs a r r' s s' = one_outcome

one_more_one : OneResult one_more.Post
one_more_one κs a r r' s s' = one_outcome
