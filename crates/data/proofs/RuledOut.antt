-- What the public contracts of this crate do not allow: two wrong outcomes or more of each.
-- By computation, at an octet of the message or at its length. Assumes nothing.
use Prim.Native.Nat.{ℕ, ◌+◌, ◌*◌, ◌/◌, ◌%◌, ◌≤◌, ◌<◌}
use mathlib.Core.Bool.{true, false}
use mathlib.Core.List.{List, [], ◌∷◌, ◌++◌, reverse}
use mathlib.Core.Path.{◌≡◌, refl, sym, ap, ◌∙◌}
use native.Mathlib.Omega.{arith}
use contract.Lifetimes.{Lfts}
use denote.Ref.{Bor}
use lib.ListN.{length, get_or, take, drop, length-take}
use Rattle.octets.specs.Numbers.{low_octets}
use Rattle.octets.specs.Over.{over}
use Rattle.octets.proofs.Choice.{either}
use Rattle.octets.proofs.Keeping.{octets_back}
use Rattle.octets.proofs.Outcome.{RuledOut}
use Rattle.address.specs.declared.PointAddress.{PointAddress}
use Rattle.fields.specs.declared.Identity.{Identity}
use Rattle.fields.specs.declared.Dates.{Dates}
use Rattle.fields.specs.Parts.{reading_label, event_label}
use Rattle.choice.specs.declared.Span.{Span}
use Rattle.choice.specs.declared.Query.TheVariants.{Reading, Event}
use Rattle.choice.specs.Choice.{choice}
use Rattle.octets.specs.declared.Kept.{Kept}
use Rattle.message.specs.declared.ObjectRange.{ObjectRange}
use Rattle.message.specs.Headers.{header_octets}
use Rattle.message.specs.Requests.{objects_offered, objects_many}
use Rattle.octets.specs.Keeping.{octets_of, kept_of}
use Rattle.data.specs.declared.Portion.{Portion}
use Rattle.label.specs.Label.{label_a_octets, label_b_octets}
use Rattle.data.specs.Calls.{object_part}
use Rattle.data.specs.Messages.{reply_header, identity_reply, clock_reply, dates_reply, object_octets, reading_reply, event_octets, events_octets, events_reply}
use Rattle.data.specs.Portions.{portion, reading_portion, events_portion, next_reading, next_events}
use Rattle.data.proofs.Messages.{reading_length, object_there, label_there}
use Rattle.data.proofs.identity.Reads as identity
use Rattle.data.proofs.clock.Reads as clock
use Rattle.data.proofs.dates.Reads as dates
use Rattle.data.proofs.reading.Reads as reading
use Rattle.data.proofs.events.Reads as events

-- to unfold this is to unfold what the octets of a message stand on
a_message : Unit {0}
unfolding reply_header header_octets low_octets kept_of over
a_message = tt

-- the octet of a message at an index
abbrev octet : ℕ → Kept → ℕ
octet i m = get_or m.octets i 0

module _ (κs : Lfts 0) (p : PointAddress) where
  -- the product high octet first, whatever the meter is, if its lowest and highest octets differ
  identity_product : (head : Identity) → (head.product % 256 ≡ head.product / 256 / 256 / 256 % 256 → ⊥)
      → RuledOut (identity.Post κs) (p, (head, tt)) (kept_of (reply_header 71 1 p 0 ++ (head.date ∷ head.maker ∷ reverse (low_octets 4 head.product))))
  unfolding identity_reply a_message
  identity_product head differ s e = differ (sym (ap (octet 8) e))

  -- the date for the maker, if they differ
  identity_maker : (head : Identity) → (head.date ≡ head.maker → ⊥)
      → RuledOut (identity.Post κs) (p, (head, tt)) (kept_of (reply_header 71 1 p 0 ++ (head.date ∷ head.date ∷ low_octets 4 head.product)))
  unfolding identity_reply a_message
  identity_maker head differ s e = differ (ap (octet 7) e)

  -- a type 71 with N 0
  identity_count : (head : Identity) (body : List ℕ) → RuledOut (identity.Post κs) (p, (head, tt)) (kept_of (reply_header 71 0 p 0 ++ body))
  unfolding identity_reply a_message
  identity_count head body s e = omega (arith, ap (octet 1) e)

  -- a type 72 with N 0, whatever the clock
  clock_count : (octets : List ℕ) → RuledOut (clock.Post κs) (p, (octets, tt)) (kept_of (reply_header 72 0 p 0 ++ octets))
  unfolding clock_reply a_message
  clock_count octets s e = omega (arith, ap (octet 1) e)

  -- the clock under type 71, whatever it is
  clock_type : (octets : List ℕ) → RuledOut (clock.Post κs) (p, (octets, tt)) (kept_of (reply_header 71 1 p 0 ++ octets))
  unfolding clock_reply a_message
  clock_type octets s e = omega (arith, ap (octet 0) e)

  -- the header of a type 72 without the clock's octets
  clock_bare : (first : ℕ) (rest : List ℕ) → RuledOut (clock.Post κs) (p, (first ∷ rest, tt)) (kept_of (reply_header 72 1 p 0))
  unfolding clock_reply a_message
  clock_bare first rest s e = omega (arith, ap (λ (m : Kept). m.length) e)

  -- the two switch dates swapped, if their days differ
  dates_swapped : (two : Dates) → (two.first.day ≡ two.second.day → ⊥)
      → RuledOut (dates.Post κs) (p, (two, tt)) (kept_of (reply_header 131 1 p 0 ++ (label_a_octets two.second ++ label_a_octets two.first)))
  unfolding dates_reply label_a_octets a_message
  dates_swapped two differ s e = differ (sym (ap (octet 8) e))

  -- the first switch date twice, if their days differ
  dates_twice : (two : Dates) → (two.first.day ≡ two.second.day → ⊥)
      → RuledOut (dates.Post κs) (p, (two, tt)) (kept_of (reply_header 131 1 p 0 ++ (label_a_octets two.first ++ label_a_octets two.first)))
  unfolding dates_reply label_a_octets a_message
  dates_twice two differ s e = differ (ap (octet 13) e)

-- r is the chosen reading that comes next, and the objects that are asked for are offered
module _ (κs : Lfts 1) (image : Bor (List ℕ)) (span : Span) (objects : ObjectRange) (type before : ℕ) (r : List ℕ) (rs : List (List ℕ)) (wrong : Portion)
    (next : drop before (choice (Reading span) image.now) ≡ r ∷ rs) (offered : objects_offered objects ≡ true) where
  -- the octets that are meant
  its_reply : List ℕ
  its_reply = reading_reply type span.point span.record_address objects r

  meant : wrong ≡ next_reading type span objects image.now before → octets_of wrong.message ≡ its_reply
  unfolding next_reading reading_portion portion its_reply
  meant e = ap (λ (g : Portion). octets_of g.message) (rw (offered, next) at e) ∙ octets_back its_reply

  -- a message that differs from the one due in any part
  reading_other : {A : Type 0} (part : List ℕ → A) → (part (octets_of wrong.message) ≡ part its_reply → ⊥)
      → RuledOut (reading.Post κs) (image, (span, (objects, (type, (before, tt))))) wrong
  reading_other part differ s e = differ (ap part (meant e))

  -- no reading given where one is left
  reading_none : wrong.many ≡ 0 → RuledOut (reading.Post κs) (image, (span, (objects, (type, (before, tt))))) wrong
  unfolding next_reading reading_portion portion
  reading_none none s e = omega (arith, none, ap (λ (g : Portion). g.many) (rw (offered, next) at e))

  -- a reading under another type than the one asked for
  reading_type_law : (get_or (octets_of wrong.message) 0 0 ≡ type → ⊥) → RuledOut (reading.Post κs) (image, (span, (objects, (type, (before, tt))))) wrong
  unfolding its_reply reading_reply a_message
  reading_type_law = reading_other (λ (m : List ℕ). get_or m 0 0)

  -- an N that is not that of the objects, as 6 for 1 to 2
  reading_count : (get_or (octets_of wrong.message) 1 0 ≡ objects_many objects → ⊥)
      → RuledOut (reading.Post κs) (image, (span, (objects, (type, (before, tt))))) wrong
  unfolding its_reply reading_reply a_message
  reading_count = reading_other (λ (m : List ℕ). get_or m 1 0)

  -- more or fewer octets than the objects and the label have, as 47 for 1 to 2
  reading_long : (length (octets_of wrong.message) ≡ 11 + 6 * objects_many objects → ⊥)
      → RuledOut (reading.Post κs) (image, (span, (objects, (type, (before, tt))))) wrong
  unfolding its_reply
  reading_long differ = reading_other length (λ e. differ (e ∙ reading_length type span.point span.record_address objects r))

  -- at any place another object than the one due there, by number, value or quality: one early, one late, the image's octet order, another's quality
  reading_object : (i : ℕ) → i < objects_many objects → (object_part i (octets_of wrong.message) ≡ object_octets (objects.first + i) r → ⊥)
      → RuledOut (reading.Post κs) (image, (span, (objects, (type, (before, tt))))) wrong
  unfolding its_reply
  reading_object i h differ = reading_other (object_part i) (λ e. differ (e ∙ object_there type span.point span.record_address objects r i h))

  -- directly behind the objects something else than the reading's label, as where it stands behind six always
  reading_label_law : (drop (6 + 6 * objects_many objects) (octets_of wrong.message) ≡ label_a_octets (reading_label r) → ⊥)
      → RuledOut (reading.Post κs) (image, (span, (objects, (type, (before, tt))))) wrong
  unfolding its_reply
  reading_label_law differ =
      reading_other (drop (6 + 6 * objects_many objects)) (λ e. differ (e ∙ label_there type span.point span.record_address objects r))

-- how many events are given
portion_many : (span : Span) (rs : List (List ℕ)) → (events_portion span rs).many ≡ length (take 27 rs)
unfolding events_portion portion
portion_many span [] = refl
portion_many span (r ∷ rs) = refl

module _ (κs : Lfts 1) (image : Bor (List ℕ)) (span : Span) (before : ℕ) (wrong : Portion) where
  -- anything given where none is left, whatever the objects: a reading, or octets without one
  reading_again : (objects : ObjectRange) (type : ℕ) → drop before (choice (Reading span) image.now) ≡ [] → (wrong ≡ portion [] 0 → ⊥)
      → RuledOut (reading.Post κs) (image, (span, (objects, (type, (before, tt))))) wrong
  unfolding next_reading reading_portion
  reading_again objects type none some s e =
      some (rw none at e ∙ either (λ (g : Portion). g ≡ portion [] 0) (objects_offered objects) (λ _. refl) (λ _. refl))

  -- anything given of objects that are not offered
  reading_refused : (objects : ObjectRange) (type : ℕ) → objects_offered objects ≡ false → (wrong ≡ portion [] 0 → ⊥)
      → RuledOut (reading.Post κs) (image, (span, (objects, (type, (before, tt))))) wrong
  unfolding next_reading
  reading_refused objects type none some s e = some (rw none at e)

  -- 26 events in a message where 27 or more are left
  events_fewer : 27 ≤ length (drop before (choice (Event span) image.now)) → wrong.many ≡ 26
      → RuledOut (events.Post κs) (image, (span, (before, tt))) wrong
  unfolding next_events
  events_fewer left many s e =
      let all : List (List ℕ) = drop before (choice (Event span) image.now) in
      omega (arith, ap (λ (g : Portion). g.many) e, portion_many span all, length-take 27 all)

  -- more than 27 events in a message
  events_more : 27 < wrong.many → RuledOut (events.Post κs) (image, (span, (before, tt))) wrong
  unfolding next_events
  events_more many s e =
      let all : List (List ℕ) = drop before (choice (Event span) image.now) in
      omega (arith, ap (λ (g : Portion). g.many) e, portion_many span all, length-take 27 all)

  -- a header without events where none is left
  events_bare : drop before (choice (Event span) image.now) ≡ [] → wrong.message.length ≡ 6
      → RuledOut (events.Post κs) (image, (span, (before, tt))) wrong
  unfolding next_events events_portion portion kept_of
  events_bare none header s e = omega (arith, ap (λ (g : Portion). g.message.length) (rw none at e))

  -- N one more than the events that are given
  events_count : (r : List ℕ) (rs : List (List ℕ)) → drop before (choice (Event span) image.now) ≡ r ∷ rs
      → octet 1 wrong.message ≡ wrong.many + 1 → RuledOut (events.Post κs) (image, (span, (before, tt))) wrong
  unfolding next_events events_portion portion events_reply a_message
  events_count r rs next more s e =
      omega (arith, ap (λ (g : Portion). g.many) (rw next at e), ap (λ (g : Portion). octet 1 g.message) (rw next at e))

  -- the two octets of seconds and milliseconds swapped in the first event, if they differ
  events_swapped : (r : List ℕ) (rs : List (List ℕ)) → drop before (choice (Event span) image.now) ≡ r ∷ rs
      → octet 8 wrong.message ≡ (event_label r).high → ((event_label r).low ≡ (event_label r).high → ⊥)
      → RuledOut (events.Post κs) (image, (span, (before, tt))) wrong
  unfolding next_events events_portion portion events_reply events_octets event_octets label_b_octets a_message
  events_swapped r rs next high differ s e = differ (sym (ap (λ (g : Portion). octet 8 g.message) (rw next at e)) ∙ high)
