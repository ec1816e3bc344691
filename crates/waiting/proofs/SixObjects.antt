-- For objects 1 to 6 the reply is the one of the time when no others could be asked for: "one reading each, 47 octets, N 6: header, six times (object number,
-- value, quality), label" (document 01). That layout is a definition of its own here, object by object, and so is what was given next.
-- By computation. Assumes nothing.
use Prim.Native.Nat.{ℕ, ◌/◌, ◌%◌}
use mathlib.Core.List.{List, [], ◌∷◌, ◌++◌}
use mathlib.Core.Path.{◌≡◌, refl}
use borrow.Author.Tests.{ne_eqb}
use lib.ListN.{length, drop}
use Rattle.octets.specs.Conditions.{holds}
use Rattle.octets.specs.Numbers.{low_octets}
use Rattle.octets.specs.Values.{unsigned}
use Rattle.octets.specs.declared.Kept.{Kept}
use Rattle.address.specs.declared.PointAddress.{PointAddress}
use Rattle.label.specs.Label.{label_a_octets}
use Rattle.fields.specs.Parts.{reading_label, value_of, quality_of}
use Rattle.choice.specs.declared.Span.{Span}
use Rattle.choice.specs.declared.Query.TheVariants.{Reading}
use Rattle.choice.specs.Choice.{choice}
use Rattle.message.specs.declared.ObjectRange.{ObjectRange}
use Rattle.message.specs.Headers.{header_octets}
use Rattle.message.specs.Requests.{objects_offered, objects_many}
use Rattle.rules.specs.Decide.{span_of}
use Rattle.data.specs.declared.Portion.{Portion}
use Rattle.data.specs.Messages.{reply_header, object_octets, objects_octets, reading_reply}
use Rattle.data.specs.Portions.{portion, reading_portion, next_reading}
use Rattle.waiting.specs.NextReply.{asked, reading_type, data_from}

-- an object, and the six of them behind a header with N 6
abbrev one_object : ℕ → List ℕ → List ℕ
one_object n r = n ∷ (low_octets 4 (unsigned (value_of n r)) ++ (quality_of n r ∷ []))

abbrev six_objects : ℕ → PointAddress → ℕ → List ℕ → List ℕ
six_objects type point address r =
    (type ∷ 6 ∷ 5 ∷ point.0 % 256 ∷ point.0 / 256 % 256 ∷ address ∷ [])
    ++ (one_object 1 r ++ (one_object 2 r ++ (one_object 3 r ++ (one_object 4 r ++ (one_object 5 r ++ (one_object 6 r ++ label_a_octets (reading_label r)))))))

pub six_objects_law : (type : ℕ) (point : PointAddress) (address : ℕ) (r : List ℕ)
    → reading_reply type point address (record { first = 1; last = 6 }) r ≡ six_objects type point address r
unfolding reading_reply objects_many reply_header header_octets objects_octets object_octets low_octets
six_objects_law type point address r = refl

pub six_length : (type : ℕ) (point : PointAddress) (address : ℕ) (r : List ℕ) → length (six_objects type point address r) ≡ 47
unfolding low_octets label_a_octets
six_length type point address r = refl

-- what was given next
abbrev six_next : ℕ → Span → List (List ℕ) → Portion
six_next type span [] = portion [] 0
six_next type span (r ∷ rs) = portion (six_objects type span.point span.record_address r) 1

given_so : (type : ℕ) (span : Span) (rs : List (List ℕ)) → reading_portion type span (record { first = 1; last = 6 }) rs ≡ six_next type span rs
unfolding reading_portion
given_so type span [] = refl
given_so type span (r ∷ rs) = rw (six_objects_law type span.point span.record_address r)

next_so : (type : ℕ) (span : Span) (objects : ObjectRange) (image : List ℕ) (before : ℕ) → objects ≡ record { first = 1; last = 6 }
    → next_reading type span objects image before ≡ six_next type span (drop before (choice (Reading span) image))
unfolding next_reading objects_offered holds
next_so type span objects image before six = rw six (given_so type span (drop before (choice (Reading span) image)))

-- The theorem: a request that is kept and asks for objects 1 to 6.
pub as_before : (request : Kept) (image : List ℕ) (before : ℕ) → ((asked request).header.type_id ≡ 102 → ⊥)
    → (asked request).objects ≡ record { first = 1; last = 6 }
    → data_from request image before
    ≡ six_next (reading_type (asked request).header.type_id) (span_of (asked request)) (drop before (choice (Reading (span_of (asked request))) image))
unfolding data_from
as_before request image before other six =
    rw (ne_eqb (asked request).header.type_id 102 other)
    (next_so (reading_type (asked request).header.type_id) (span_of (asked request)) (asked request).objects image before six)
