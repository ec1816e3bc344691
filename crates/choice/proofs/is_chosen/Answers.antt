-- `choice::is_chosen` answers whether the record at a place is chosen, by its key.
-- By the query's cases; the key asked for as one kind says the same. Assumes nothing.
use mathlib.Core.Path.{◌∙◌}
use native.Mathlib.Omega.{arith}
use Rattle.choice.specs.working.Keys.{key_chosen}
use Rattle.choice.proofs.Chosen.{as_kind}
use Rattle.choice.proofs.is_chosen.Goals as goal

pub returns-in-Reading : goal.returns-in-Reading
unfolding key_chosen
returns-in-Reading c = rw c.in-Reading.is (c.in_span.ensures ∙ as_kind 4 (omega arith) _ _ _ _ c.reading_key.ensures)

pub returns-in-Event : goal.returns-in-Event
unfolding key_chosen
returns-in-Event c = rw c.in-Event.is (c.in_span-in-Event.ensures ∙ as_kind 5 (omega arith) _ _ _ _ c.event_key.ensures)
