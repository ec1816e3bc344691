-- `events` answers the message of up to 27 events after those given already.
-- The header, which says how many they are, stands before the gathered. Assumes nothing.
use native.Mathlib.Omega.{arith}
use lib.ListN.{drop}
use Rattle.choice.specs.declared.Query.TheVariants.{Event}
use Rattle.choice.specs.Choice.{choice}
use Rattle.data.specs.Portions.{next_events}
use Rattle.data.proofs.Portions.{few_events, no_events, some_events}
use Rattle.data.proofs.events.Goals as goal

pub returns-then-next-eq0 : goal.returns-then-next-eq0
unfolding next_events
returns-then-next-eq0 c = no_events _ _ c.gathered-next.ensures c.if-next-eq0.true

pub overflow_cast-next : goal.overflow_cast-next
overflow_cast-next c =
    let a = c.args in
    omega (arith, few_events (drop a.before (choice (Event a.span) a.image.now)) c.gathered-next.ensures)

pub returns : goal.returns
unfolding next_events
returns c = some_events _ _ c.gathered-next.ensures c.if-next-eq0.false c.headed-header.ensures (rw c.as_slice.ensures at c.with.ensures)
