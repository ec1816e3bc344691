-- No more is given than the image has room for, so the count of what is given fits its width.
-- There are at most as many records as octets. Assumes nothing.
use Prim.Native.Nat.{ℕ, ◌+◌, ◌^◌, ◌≤◌, ◌<◌}
use mathlib.Core.List.{List, [], ◌∷◌}
use mathlib.Core.Path.{◌≡◌}
use native.Mathlib.Omega.{arith}
use lib.Dec.{eqb}
use lib.ListN.{length, drop, length-take, length-drop}
use Rattle.octets.proofs.Choice.{either}
use Rattle.choice.specs.declared.Span.{Span}
use Rattle.choice.specs.declared.Query.{Query}
use Rattle.choice.specs.declared.Query.TheVariants.{Reading, Event}
use Rattle.choice.specs.Choice.{choice}
use Rattle.choice.proofs.Chosen.{choice_few}
use Rattle.octets.specs.declared.Kept.{Kept}
use Rattle.message.specs.declared.ObjectRange.{ObjectRange}
use Rattle.message.specs.Requests.{objects_offered}
use Rattle.rules.specs.Decide.{span_of}
use Rattle.data.specs.declared.Portion.{Portion}
use Rattle.data.specs.Portions.{portion, reading_portion, events_portion, next_reading, next_events}
use Rattle.waiting.specs.NextReply.{reading_type, asked, data_from}

-- of those that are left
reading_left : (type : ℕ) (span : Span) (objects : ObjectRange) (rs : List (List ℕ)) → (reading_portion type span objects rs).many ≤ length rs
unfolding reading_portion portion
reading_left type span objects [] = omega arith
reading_left type span objects (r ∷ rs) = omega arith

next_left : (type : ℕ) (span : Span) (objects : ObjectRange) (image : List ℕ) (before : ℕ)
    → (next_reading type span objects image before).many ≤ length (drop before (choice (Reading span) image))
unfolding next_reading portion
next_left type span objects image before =
    let left = drop before (choice (Reading span) image) in
    either (λ (g : Portion). g.many ≤ length left) (objects_offered objects) (λ _. reading_left type span objects left) (λ _. omega arith)

events_left : (span : Span) (rs : List (List ℕ)) → (events_portion span rs).many ≤ length rs
unfolding events_portion portion
events_left span [] = omega arith
events_left span (r ∷ rs) = omega (arith, length-take 27 (r ∷ rs))

count_fits : (query : Query) (image : List ℕ) (before many : ℕ) → before < 2 ^ 64 → length image < 2 ^ 64
    → many ≤ length (drop before (choice query image)) → before + many < 2 ^ 64
count_fits query image before many small room few = omega (arith, choice_few query image, length-drop before (choice query image))

pub given_fits : (request : Kept) (image : List ℕ) (before : ℕ) {some : Portion} → before < 2 ^ 64 → length image < 2 ^ 64
    → some ≡ data_from request image before → before + some.many < 2 ^ 64
unfolding data_from next_events
given_fits request image before small room e =
    let r = asked request in
    rw e
    (either (λ (g : Portion). before + g.many < 2 ^ 64) (eqb r.header.type_id 102)
    (λ _. count_fits (Event (span_of r)) image before _ small room (events_left (span_of r) (drop before (choice (Event (span_of r)) image))))
    (λ _. count_fits (Reading (span_of r)) image before _ small room
    (next_left (reading_type r.header.type_id) (span_of r) r.objects image before)))
