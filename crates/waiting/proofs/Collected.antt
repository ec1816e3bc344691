-- What the centre collects with one image: k chosen events leave in (k + 26) / 27 messages, all but the last full, k chosen readings in k messages,
-- in image order, and then mirror 10. By one lemma over the size of a group, a group a turn. Assumes nothing.
use Prim.Native.Nat.{ℕ, zero, suc, ◌+◌, ◌/◌, ◌≤◌, ◌<◌}
use mathlib.Core.Bool.{true}
use mathlib.Core.List.{List, [], ◌∷◌, ◌++◌, map, flatten}
use mathlib.Core.Path.{◌≡◌, refl, sym, ap, ◌∙◌}
use native.Mathlib.Omega.{arith}
use borrow.Author.Tests.{eq-eqb, ne_eqb}
use lib.ListN.{length, get_or, take, drop, length-drop}
use lib.Seq.{drop-drop}
use Rattle.choice.specs.declared.Span.{Span}
use Rattle.choice.specs.declared.Query.TheVariants.{Reading, Event}
use Rattle.choice.specs.Choice.{choice}
use Rattle.octets.specs.declared.Kept.{Kept}
use Rattle.message.specs.declared.ObjectRange.{ObjectRange}
use Rattle.message.specs.Mirror.{mirror_of}
use Rattle.message.specs.Requests.{objects_offered}
use Rattle.rules.specs.Decide.{span_of}
use Rattle.data.specs.declared.Portion.{Portion}
use Rattle.data.specs.Portions.{portion, reading_portion, events_portion, next_reading, next_events}
use Rattle.deeds.specs.declared.Waiting.TheVariants.{Begin}
use Rattle.deeds.specs.declared.Pending.{Pending}
use Rattle.deeds.specs.Deeds.{nothing_pending}
use Rattle.waiting.specs.NextReply.{asked, firstly, lastly, nothing_found, reading_type, data_pending, mirror_with, data_from, after_data, begin_with, next_of}
use Rattle.waiting.specs.Collected.{messages_collected, groups_of, in_groups, events_message, reading_message}
use Rattle.waiting.proofs.Groups.{groups_number, groups_full, groups_order, groups_of_one, ones_number, drop_taken}

-- behind the last reply nothing is given
pub nothing_more : (turns : ℕ) (image : List ℕ) → messages_collected turns nothing_pending image ≡ []
unfolding messages_collected next_of nothing_pending nothing_found
nothing_more zero image = refl
nothing_more (suc turns) image = refl

-- what is given of the records that are left: a group, if there is any
abbrev group_given : ℕ → (List (List ℕ) → Kept) → List (List ℕ) → Portion
group_given size f [] = portion [] 0
group_given size f (r ∷ rs) = record { message = f (take size (r ∷ rs)); many = length (take size (r ∷ rs)) }

-- events are given 27 by 27, readings one by one
events_given : (span : Span) (rs : List (List ℕ)) → events_portion span rs ≡ group_given 27 (events_message span) rs
unfolding events_portion portion events_message
events_given span [] = refl
events_given span (r ∷ rs) = refl

abbrev first_message : ℕ → Span → ObjectRange → List (List ℕ) → Kept
first_message type span objects rs = reading_message type span objects (get_or rs 0 [])

readings_given : (type : ℕ) (span : Span) (objects : ObjectRange) (rs : List (List ℕ))
    → reading_portion type span objects rs ≡ group_given 1 (first_message type span objects) rs
unfolding reading_portion portion reading_message
readings_given type span objects [] = refl
readings_given type span objects (r ∷ rs) = refl

-- The theorem: a request that waits with mirror 7 and data behind it, and one image lent with every collection.
module _ (pending : Pending) (image : List ℕ) where
  abbrev request : Kept
  request = pending.request

  abbrev type : ℕ
  type = (asked request).header.type_id

  abbrev span : Span
  span = span_of (asked request)

  abbrev objects : ObjectRange
  objects = (asked request).objects

  abbrev events : List (List ℕ)
  events = choice (Event span) image

  abbrev readings : List (List ℕ)
  readings = choice (Reading span) image

  -- whatever is given group by group
  module _ (less : ℕ) (f : List (List ℕ) → Kept) (rs : List (List ℕ))
      (gives : (before : ℕ) → data_from request image before ≡ group_given (suc less) f (drop before rs)) where
    -- a group a turn, then mirror 10
    data_collected : (most before turns : ℕ) (left : List (List ℕ)) → drop before rs ≡ left → length left ≤ most
        → length (groups_of most (suc less) left) < turns
        → messages_collected turns (data_pending request pending.clock before) image ≡ map f (groups_of most (suc less) left) ++ (mirror_of request 0 10 ∷ [])
    unfolding messages_collected next_of data_pending after_data groups_of firstly lastly mirror_with portion
    data_collected most before zero left e fits few = absurd (omega (arith, few))
    data_collected zero before (suc turns) [] e fits few = rw (gives before, e, nothing_more turns image)
    data_collected zero before (suc turns) (r ∷ left) e fits few = absurd (omega (arith, fits))
    data_collected (suc most) before (suc turns) [] e fits few = rw (gives before, e, nothing_more turns image)
    data_collected (suc most) before (suc turns) (r ∷ left) e fits few =
        let many : ℕ = length (take (suc less) (r ∷ left)) in
        let next : drop (before + many) rs ≡ drop less left =
        sym (drop-drop many before rs) ∙ ap (drop many) e ∙ drop_taken (suc less) (r ∷ left) in
        rw (gives before, e, ne_eqb many 0 (λ none. absurd (omega (arith, none))))
        (ap (f (take (suc less) (r ∷ left)) ∷◌)
        (data_collected most (before + many) turns (drop less left) next (omega (arith, fits, length-drop less left)) (omega (arith, few))))

    -- and mirror 7 before them
    begun_collected : pending.waiting ≡ Begin → (turns : ℕ) → 2 + length (in_groups (suc less) rs) ≤ turns
        → messages_collected turns pending image ≡ mirror_of request 0 7 ∷ (map f (in_groups (suc less) rs) ++ (mirror_of request 0 10 ∷ []))
    unfolding messages_collected next_of begin_with firstly in_groups
    begun_collected begin zero enough = absurd (omega (arith, enough))
    begun_collected begin (suc turns) enough =
        rw begin (ap (mirror_of request 0 7 ∷◌) (data_collected (length rs) 0 turns rs refl (omega arith) (omega (arith, enough))))

  -- 102: mirror 7, the chosen events in groups of 27, mirror 10
  pub events_collected : pending.waiting ≡ Begin → type ≡ 102 → (turns : ℕ) → 2 + (length events + 26) / 27 ≤ turns
      → messages_collected turns pending image ≡ mirror_of request 0 7 ∷ (map (events_message span) (in_groups 27 events) ++ (mirror_of request 0 10 ∷ []))
  unfolding data_from next_events
  events_collected begin e turns enough =
      begun_collected 26 (events_message span) events (λ before. rw (eq-eqb type 102 e) (events_given span (drop before events))) begin turns
      (rw (groups_number events) enough)

  -- of these groups there are as few as 27 allows, all but the last are full, and together they are the events in image order
  pub events_number : length (in_groups 27 events) ≡ (length events + 26) / 27
  events_number = groups_number events

  pub events_full : (i : ℕ) → i + 1 < length (in_groups 27 events) → length (get_or (in_groups 27 events) i []) ≡ 27
  events_full = groups_full events

  pub events_order : flatten (in_groups 27 events) ≡ events
  events_order = groups_order events

  -- 122, 123: mirror 7, a message with the objects that are asked for of each chosen reading in image order, mirror 10
  pub readings_collected : pending.waiting ≡ Begin → (type ≡ 102 → ⊥) → objects_offered objects ≡ true → (turns : ℕ) → 2 + length readings ≤ turns
      → messages_collected turns pending image
      ≡ mirror_of request 0 7 ∷ (map (reading_message (reading_type type) span objects) readings ++ (mirror_of request 0 10 ∷ []))
  unfolding data_from next_reading
  readings_collected begin n offered turns enough =
      let f : List (List ℕ) → Kept = first_message (reading_type type) span objects in
      rw (← groups_of_one readings f)
      (begun_collected 0 f readings
      (λ before. rw (ne_eqb type 102 n, offered) (readings_given (reading_type type) span objects (drop before readings))) begin turns
      (omega (arith, ones_number readings, enough)))
