-- What waits is kept short, and so is each message that is given of it: a request of at most 252 octets and a clock of seven give messages
-- of at most 252 octets. One lemma for each function that gives a message or lets one wait. Assumes nothing.
use Rattle.std.specs.Prelude.{Option, Some, None}
use Prim.Native.Nat.{ℕ, ◌≤◌}
use mathlib.Core.Bool.{Bool, false}
use mathlib.Core.List.{List, [], ◌∷◌}
use mathlib.Core.Path.{◌≡◌, refl}
use native.Mathlib.Omega.{arith}
use lib.Dec.{eqb}
use lib.ListN.{length, take, drop, length-take}
use Rattle.octets.proofs.Choice.{either}
use Rattle.fields.specs.Answers.{identity_found, dates_found}
use Rattle.choice.specs.declared.Span.{Span}
use Rattle.choice.specs.declared.Query.TheVariants.{Reading, Event}
use Rattle.choice.specs.Choice.{choice}
use Rattle.octets.specs.declared.Kept.{Kept}
use Rattle.octets.specs.Keeping.{kept_of}
use Rattle.message.specs.Mirror.{mirror_of}
use Rattle.message.specs.Table.{table, row_in}
use Rattle.message.specs.declared.Deed.{Deed}
use Rattle.message.specs.declared.Deed.TheVariants.{Refused, ShutOut, Opens, Closes, Gives71, Gives72, Gives131, GivesData, SetsClock, SetsDates}
use Rattle.message.specs.declared.ObjectRange.{ObjectRange}
use Rattle.message.specs.declared.Request.{Request}
use Rattle.message.specs.Requests.{objects_offered, objects_many}
use Rattle.message.proofs.Requests.{offered_so, many_most}
use Rattle.rules.specs.Decide.{span_of, decide}
use Rattle.rules.specs.declared.Rule.{Rule}
use Rattle.rules.specs.declared.Session.{Session}
use Rattle.data.specs.declared.Portion.{Portion}
use Rattle.data.specs.Portions.{portion, reading_portion, events_portion, next_reading, next_events}
use Rattle.data.proofs.Messages.{identity_length, clock_length, dates_length, reading_length, events_length}
use Rattle.deeds.specs.declared.Waiting.{Waiting}
use Rattle.deeds.specs.declared.Waiting.TheVariants.{NoReply, Mirror, Denied, Begin, More, Type71, Type72, Type131}
use Rattle.deeds.specs.declared.Pending.{Pending}
use Rattle.deeds.specs.Deeds.{deed_of, done_by, carried_out, nothing_pending}
use Rattle.waiting.specs.declared.Next.{Next}
use Rattle.waiting.specs.NextReply.{firstly, lastly, nothing_found, reading_type, data_pending, mirror_with, identity_from}
use Rattle.waiting.specs.NextReply.{asked, dates_from, clock_from, data_from, after_data, begin_with, next_by, next_of, message_in}
use Rattle.fields.specs.declared.Identity.{Identity}
use Rattle.fields.specs.declared.Dates.{Dates}

-- a message that a frame has room for
abbrev pub Short : Kept → Type 0
Short message = message.length ≤ 252

-- what waits: a short request and a clock of seven octets
pub record Holds (pending : Pending) : Type 0 where
  pub request : Short pending.request
  pub clock : length pending.clock ≡ 7

-- a message that is given, and what waits behind it
pub record GivenShort (next : Next) : Type 0 where
  pub message : Short (message_in next)
  pub pending : Holds next.pending

of_octets : (octets : List ℕ) → length octets ≤ 252 → Short (kept_of octets)
unfolding kept_of
of_octets octets few = few

pub nothing_kept : Holds nothing_pending
unfolding nothing_pending kept_of
nothing_kept = record { request = omega arith; clock = refl }

-- data: one reading, or up to 27 events
reading_short : (type : ℕ) (span : Span) (objects : ObjectRange) → objects_many objects ≤ 6 → (rs : List (List ℕ))
    → Short (reading_portion type span objects rs).message
unfolding reading_portion portion
reading_short type span objects few [] = of_octets [] (omega arith)
reading_short type span objects few (r ∷ rs) = of_octets _ (omega (arith, few, reading_length type span.point span.record_address objects r))

reading_next : (type : ℕ) (span : Span) (objects : ObjectRange) (image : List ℕ) (before : ℕ) → Short (next_reading type span objects image before).message
unfolding next_reading portion
reading_next type span objects image before =
    either (λ (some : Portion). Short some.message) (objects_offered objects)
    (λ taken. reading_short type span objects (many_most objects (offered_so objects taken)) (drop before (choice (Reading span) image)))
    (λ _. of_octets [] (omega arith))

events_short : (span : Span) (rs : List (List ℕ)) → Short (events_portion span rs).message
unfolding events_portion portion
events_short span [] = of_octets [] (omega arith)
events_short span (r ∷ rs) =
    let now = take 27 (r ∷ rs) in
    of_octets _ (omega (arith, events_length span.point span.record_address now, length-take 27 (r ∷ rs)))

module _ (request : Kept) (short : Short request) where
  data_short : (image : List ℕ) (before : ℕ) → Short (data_from request image before).message
  unfolding data_from next_events
  data_short image before =
      let r = asked request in
      either (λ (some : Portion). Short some.message) (eqb r.header.type_id 102)
      (λ _. events_short (span_of r) (drop before (choice (Event (span_of r)) image)))
      (λ _. reading_next (reading_type r.header.type_id) (span_of r) r.objects image before)

  mirror_short : (pn : Bool) (cause : ℕ) → GivenShort (mirror_with request pn cause)
  unfolding mirror_with lastly firstly mirror_of
  mirror_short pn cause = record { message = short; pending = nothing_kept }

  lastly_short : (octets : List ℕ) → length octets ≤ 252 → GivenShort (lastly (kept_of octets))
  unfolding lastly firstly
  lastly_short octets few = record { message = of_octets octets few; pending = nothing_kept }

  nothing_short : GivenShort nothing_found
  unfolding nothing_found
  nothing_short = record { message = of_octets [] (omega arith); pending = nothing_kept }

  identity_short : (found : Option Identity) → GivenShort (identity_from request found)
  identity_short (Some h) = lastly_short _ (omega (arith, identity_length (asked request).header.point h))
  identity_short None = mirror_short false 14

  dates_short : (found : Option Dates) → GivenShort (dates_from request found)
  dates_short (Some d) = lastly_short _ (omega (arith, dates_length (asked request).header.point d))
  dates_short None = mirror_short false 14

  module _ (clock : List ℕ) (seven : length clock ≡ 7) where
    clock_short : GivenShort (clock_from request clock)
    unfolding clock_from
    clock_short = lastly_short _ (omega (arith, clock_length (asked request).header.point clock))

    data_kept_law : (before : ℕ) → Holds (data_pending request clock before)
    unfolding data_pending
    data_kept_law before = record { request = short; clock = seven }

    begin_short : GivenShort (begin_with request clock)
    unfolding begin_with firstly mirror_of
    begin_short = record { message = short; pending = data_kept_law 0 }

    after_data_short : (before : ℕ) (some : Portion) → Short some.message → GivenShort (after_data request clock before some)
    unfolding after_data firstly
    after_data_short before some few =
        either GivenShort (eqb some.many 0) (λ _. mirror_short false 10) (λ _. record { message = few; pending = data_kept_law _ })

    next_by_law : (waiting : Waiting) (image : List ℕ) → GivenShort (next_by request waiting clock image)
    next_by_law NoReply image = nothing_short
    next_by_law (Mirror cause) image = mirror_short false cause
    next_by_law Denied image = mirror_short _ 7
    next_by_law Begin image = begin_short
    next_by_law (More n) image = after_data_short n (data_from request image n) (data_short image n)
    next_by_law Type71 image = identity_short (identity_found image)
    next_by_law Type72 image = clock_short
    next_by_law Type131 image = dates_short (dates_found image)

-- the next waiting reply
pub next_short : (pending : Pending) (image : List ℕ) → Holds pending → GivenShort (next_of pending image)
unfolding next_of
next_short pending image kept = next_by_law pending.request kept.request pending.clock kept.clock pending.waiting image

-- a message carried out: the clock is taken, or seven zeros
clock_kept : (rule : Rule) (session : Session) (clock : List ℕ) (r : Request) (deed : Deed) → length clock ≡ 7
    → length (done_by rule session clock r deed).clock ≡ 7
clock_kept rule session clock r Refused seven = refl
clock_kept rule session clock r ShutOut seven = refl
clock_kept rule session clock r Opens seven = refl
clock_kept rule session clock r Closes seven = refl
clock_kept rule session clock r Gives71 seven = refl
clock_kept rule session clock r Gives72 seven = seven
clock_kept rule session clock r Gives131 seven = refl
clock_kept rule session clock r GivesData seven = refl
clock_kept rule session clock r SetsClock seven = refl
clock_kept rule session clock r SetsDates seven = refl

pub carried_kept : (session : Session) (image clock : List ℕ) (request : Kept) → length clock ≡ 7 → Short request
    → Holds (carried_out session image clock request).pending
unfolding carried_out
carried_kept session image clock request seven short =
    let r = asked request in
    let rule = decide session image clock r in
    record { request = short; clock = clock_kept rule session clock r (deed_of rule (row_in table r.header.type_id)) seven }
