-- Document 02, #101, "Readings by object range", sentence by sentence, as statements about the definition: which objects a reply carries, when 17 is given, and that
-- the objects have no part in choosing a reading. They shut out a definition that sends six objects always or writes N 6 always; one that starts at
-- object 1 whatever is asked for, in number or in value; one that sends an object twice or leaves one out; one that puts the label behind six always; one that
-- takes the objects from elsewhere than the request that is kept; and one that chooses other readings, or refuses other requests, for other objects. Assumes nothing.
use Rattle.std.specs.Prelude.{ℕ, ◌+◌, ◌-◌, ◌*◌, ◌≤◌, ◌<◌, true, false, List, [], ◌∷◌, ◌++◌, map, ◌≡◌, length, get_or, take, drop, replicate}
use Rattle.octets.specs.First.{first_of◌else◌}
use Rattle.octets.specs.Numbers.{low_first}
use Rattle.octets.specs.Values.{signed}
use Rattle.octets.specs.declared.Kept.{Kept}
use Rattle.octets.specs.Keeping.{octets_of, kept_of}
use Rattle.label.specs.Label.{label_a_octets}
use Rattle.message.specs.declared.Header.{Header}
use Rattle.message.specs.declared.ObjectRange.{ObjectRange}
use Rattle.message.specs.declared.Request.{Request}
use Rattle.message.specs.Calls.{Offered}
use Rattle.message.specs.Headers.{header_octets}
use Rattle.message.specs.Requests.{asks_readings, request_of}
use Rattle.fields.specs.Parts.{reading_label, value_of, quality_of}
use Rattle.choice.specs.declared.Span.{Span}
use Rattle.choice.specs.declared.Query.TheVariants.{Reading}
use Rattle.choice.specs.Choice.{choice}
use Rattle.rules.specs.declared.Session.{Session}
use Rattle.rules.specs.declared.Session.TheVariants.{Open}
use Rattle.rules.specs.declared.Rule.TheVariants.{Objects}
use Rattle.rules.specs.Rules.{cause_by, pn_by}
use Rattle.rules.specs.Decide.{span_of, rules, decide}
use Rattle.data.specs.Calls.{object_part}
use Rattle.data.specs.Portions.{next_reading}
use Rattle.why.specs.Stated.{ObjectsOut}
use Rattle.tender.specs.Cases.{smallest, our_point}
use Rattle.waiting.specs.NextReply.{reading_type, data_from}
use Rattle.tender.specs.Rules.{request_in, span_in, collected_after}

-- "N = last − first + 1", in numbers of its own, as `Offered` says "any first and last with 1 ≤ first ≤ last ≤ 6"
abbrev pub many_in : ObjectRange → ℕ
many_in objects = objects.last - objects.first + 1

-- the number of the i-th object of a message
abbrev pub number_of : ℕ → List ℕ → ℕ
number_of i message = get_or (object_part i message) 0 0

-- object n with value n and quality n of the reading
pub record ObjectOf (n : ℕ) (r part : List ℕ) : Type 0 where
  pub number : get_or part 0 0 ≡ n
  pub value : signed (low_first (take 4 (drop 1 part))) ≡ value_of n r
  pub quality : get_or part 5 0 ≡ quality_of n r

-- object n stands in a message of so many
pub record Stands (n many : ℕ) (r message : List ℕ) : Type 0 where
  pub place : ℕ
  pub there : place < many
  pub its_own : ObjectOf n r (object_part place message)

-- "The reply then carries just those objects, N = last − first + 1, and has 11 + 6N octets": none left out, no other, none twice; before them the header, with
-- cause 5, point and record address of the span, and behind them the label
pub record Carries (type : ℕ) (span : Span) (objects : ObjectRange) (r message : List ℕ) : Type 0 where
  pub headed : take 6 message
      ≡ header_octets (record { type_id = type; structure = many_in objects; cause = 5; point = span.point; record_address = span.record_address })
  pub long : length message ≡ 11 + 6 * many_in objects
  pub at_most : length message ≤ 47
  pub none_left_out : (n : ℕ) → objects.first ≤ n → n ≤ objects.last → Stands n (many_in objects) r message
  pub no_other : (i : ℕ) → i < many_in objects → (objects.first ≤ number_of i message) × (number_of i message ≤ objects.last)
  pub none_twice : (i j : ℕ) → i < many_in objects → j < many_in objects → number_of i message ≡ number_of j message → i ≡ j
  pub labelled : drop (6 + 6 * many_in objects) message ≡ label_a_octets (reading_label r)

-- whatever image of octets, sound or not, whatever span and objects: where so many of the chosen readings are given, the next one is given with these objects
abbrev pub ObjectsCarried : Type 0
ObjectsCarried =
    (image : List ℕ) → ((i : ℕ) → get_or image i 0 < 256) → (span : Span) (objects : ObjectRange) → Offered objects → (type before : ℕ)
    → before < length (choice (Reading span) image)
    → ((next_reading type span objects image before).many ≡ 1)
    × Carries type span objects (get_or (choice (Reading span) image) before []) (octets_of (next_reading type span objects image before).message)

-- first and last are octets 6 and 7 of the request that is kept, with each collection anew, whatever image is lent
abbrev pub OfTheKept : Type 0
OfTheKept =
    (request : Kept) (image : List ℕ) (before : ℕ) → asks_readings (request_in request).header.type_id ≡ true
    → data_from request image before
    ≡ next_reading (reading_type (request_in request).header.type_id) (span_in request)
    (record { first = get_or (octets_of request) 6 0; last = get_or (octets_of request) 7 0 }) image before

-- "17 now exactly when first is 0, last is over 6 or first is after last; its place is unchanged": for a 122 or a 123 with such objects only, and for each, unless a rule of all messages applies before; so no
-- label is looked at and no reading is looked for. The rule that is given then has this cause, with P/N 0
pub record Seventeen : Type 0 where
  pub its_cause : cause_by Objects ≡ 17
  pub its_pn : pn_by Objects ≡ false
  pub only_so : (session : Session) (image clock : List ℕ) (r : Request) → cause_by (decide session image clock r) ≡ 17
      → (asks_readings r.header.type_id ≡ true) × ObjectsOut r.objects.first r.objects.last
  pub so : (session : Session) (image clock : List ℕ) (r : Request) → asks_readings r.header.type_id ≡ true → ObjectsOut r.objects.first r.objects.last
      → decide session image clock r ≡ (first_of rules session image r else Objects)

-- the octets of a request for readings: header, objects, labels
abbrev pub asking : Header → ObjectRange → List ℕ → List ℕ
asking header objects labels = header_octets header ++ (objects.first ∷ objects.last ∷ labels)

-- two requests that differ in their objects only: the same records are chosen, and where both are offered the same rule applies and as many are given
pub record ChosenWhatever : Type 0 where
  pub same_choice : (header : Header) (a b : ObjectRange) (labels image : List ℕ) → asks_readings header.type_id ≡ true
      → choice (Reading (span_of (request_of (asking header a labels)))) image ≡ choice (Reading (span_of (request_of (asking header b labels)))) image
  pub same_rule : (header : Header) (a b : ObjectRange) (labels : List ℕ) → asks_readings header.type_id ≡ true → Offered a → Offered b
      → (session : Session) (image clock : List ℕ)
      → decide session image clock (request_of (asking header a labels)) ≡ decide session image clock (request_of (asking header b labels))
  pub same_number : (type : ℕ) (span : Span) (a b : ObjectRange) (image : List ℕ) (before : ℕ) → Offered a → Offered b
      → (next_reading type span a image before).many ≡ (next_reading type span b image before).many

-- The request's cases, as one list: a range that is answered, with N and the octets between header and label, or one that is refused
pub data RangeCase : Type 0 where
  answered : (first last many : ℕ) → List ℕ → RangeCase
  refused : (first last : ℕ) → RangeCase

abbrev pub range_cases : List RangeCase
range_cases =
    answered 1 2 2 (0x01 ∷ 0x14 ∷ 0x13 ∷ 0x12 ∷ 0x11 ∷ 0x15 ∷ 0x02 ∷ 0x24 ∷ 0x23 ∷ 0x22 ∷ 0x21 ∷ 0x25 ∷ [])
    ∷ answered 6 6 1 (0x06 ∷ 0x64 ∷ 0x63 ∷ 0x62 ∷ 0x61 ∷ 0x65 ∷ [])
    ∷ answered 3 3 1 (0x03 ∷ 0x34 ∷ 0x33 ∷ 0x32 ∷ 0x31 ∷ 0x35 ∷ [])
    ∷ answered 1 6 6
    (0x01 ∷ 0x14 ∷ 0x13 ∷ 0x12 ∷ 0x11 ∷ 0x15 ∷ 0x02 ∷ 0x24 ∷ 0x23 ∷ 0x22 ∷ 0x21 ∷ 0x25 ∷ 0x03 ∷ 0x34 ∷ 0x33 ∷ 0x32 ∷ 0x31 ∷ 0x35
    ∷ 0x04 ∷ 0x44 ∷ 0x43 ∷ 0x42 ∷ 0x41 ∷ 0x45 ∷ 0x05 ∷ 0x54 ∷ 0x53 ∷ 0x52 ∷ 0x51 ∷ 0x55 ∷ 0x06 ∷ 0x64 ∷ 0x63 ∷ 0x62 ∷ 0x61 ∷ 0x65 ∷ [])
    ∷ refused 0 6
    ∷ refused 3 2
    ∷ refused 1 7
    ∷ refused 7 7
    ∷ refused 255 1
    ∷ []

-- a reading of point 1 by its record address: 1 January 2001 00:15, object n with the value n1 n2 n3 n4 and the quality n5, in hex
abbrev pub a_reading : ℕ → List ℕ
a_reading address =
    0x00 ∷ 0x27 ∷ 0x04 ∷ 0x00 ∷ 0x01 ∷ address ∷ 0x0F ∷ 0x00 ∷ 0x21 ∷ 0x01 ∷ 0x01
    ∷ 0x11 ∷ 0x12 ∷ 0x13 ∷ 0x14 ∷ 0x15 ∷ 0x21 ∷ 0x22 ∷ 0x23 ∷ 0x24 ∷ 0x25 ∷ 0x31 ∷ 0x32 ∷ 0x33 ∷ 0x34 ∷ 0x35
    ∷ 0x41 ∷ 0x42 ∷ 0x43 ∷ 0x44 ∷ 0x45 ∷ 0x51 ∷ 0x52 ∷ 0x53 ∷ 0x54 ∷ 0x55 ∷ 0x61 ∷ 0x62 ∷ 0x63 ∷ 0x64 ∷ 0x65 ∷ []

-- the smallest image, and one of record 11 and one of record 21
abbrev pub two_readings : List ℕ
two_readings = smallest ++ (a_reading 11 ++ a_reading 21)

-- a request for all readings, or its mirror, by its cause; and the reply
abbrev pub all_readings : ℕ → ℕ → ℕ → ℕ → ℕ → Kept
all_readings type address first last cause =
    kept_of
    (type ∷ 0x01 ∷ cause ∷ 0x01 ∷ 0x00 ∷ address ∷ first ∷ last
    ∷ 0x00 ∷ 0x00 ∷ 0x01 ∷ 0x01 ∷ 0x00 ∷ 0x3B ∷ 0x17 ∷ 0x1F ∷ 0x0C ∷ 0x63 ∷ [])

abbrev pub reading_with : ℕ → ℕ → ℕ → List ℕ → Kept
reading_with type address many carried =
    kept_of ((type ∷ many ∷ 0x05 ∷ 0x01 ∷ 0x00 ∷ address ∷ []) ++ (carried ++ (0x0F ∷ 0x00 ∷ 0x21 ∷ 0x01 ∷ 0x01 ∷ [])))

-- what the centre collects in the session of point 1 when it asks for a range, by the definition, and what the request says
abbrev pub given_for : ℕ → ℕ → ℕ → ℕ → List Kept
given_for type address first last = collected_after (Open our_point) two_readings (replicate 7 0) (all_readings type address first last 6) 4

abbrev pub range_given : ℕ → ℕ → RangeCase → List Kept
range_given type address (answered first last many carried) = given_for type address first last
range_given type address (refused first last) = given_for type address first last

abbrev pub range_written : ℕ → ℕ → ℕ → RangeCase → List Kept
range_written type address reply (answered first last many carried) =
    all_readings type address first last 7 ∷ reading_with reply address many carried ∷ all_readings type address first last 10 ∷ []
range_written type address reply (refused first last) = all_readings type address first last 17 ∷ []

-- 122 asks for type 8 of record 21, 123 for type 11 of record 11
abbrev pub RangesWritten : Type 0
RangesWritten = (map (range_given 122 21) range_cases ≡ map (range_written 122 21 8) range_cases) × (map (range_given 123 11) range_cases ≡ map (range_written 123 11 11) range_cases)
