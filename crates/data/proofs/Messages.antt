-- The data messages octet by octet: how long each is, and what stands where in those of readings and of events.
-- By recursion on the objects and on the events, each of one width. Assumes nothing.
use Prim.Native.Nat.{ℕ, zero, suc, ◌+◌, ◌-◌, ◌*◌, ◌^◌, ◌<◌}
use mathlib.Core.List.{List, [], ◌∷◌, ◌++◌, append_assoc}
use mathlib.Core.Path.{◌≡◌, refl, ap, ◌∙◌}
use native.Mathlib.Nat.{mul-suc}
use native.Mathlib.Omega.{arith}
use lib.ListN.{length, get_or, take, drop, length-append}
use lib.Seq.{take_at, drop_at, drop-append-add}
use Rattle.octets.specs.Numbers.{low_first, low_octets}
use Rattle.octets.specs.Values.{signed, unsigned}
use Rattle.octets.proofs.Numbers.{Octets, low_length, low_number}
use Rattle.octets.proofs.Values.{unsigned_signed}
use Rattle.address.specs.declared.PointAddress.{PointAddress}
use Rattle.label.specs.declared.LabelA.{LabelA}
use Rattle.fields.specs.declared.Identity.{Identity}
use Rattle.fields.specs.declared.Dates.{Dates}
use Rattle.fields.specs.Parts.{number_at, reading_label, value_of, quality_of}
use Rattle.fields.proofs.Parts.{number_small}
use Rattle.message.specs.declared.ObjectRange.{ObjectRange}
use Rattle.message.specs.Headers.{header_octets}
use Rattle.message.specs.Requests.{objects_many}
use Rattle.label.specs.Label.{label_a_octets, label_b_octets}
use Rattle.data.specs.Calls.{object_part}
use Rattle.data.specs.Messages.{reply_header, identity_reply, clock_reply, dates_reply, object_octets, objects_octets, reading_reply, event_octets, events_octets, events_reply}

-- each message is its header and what stands behind, from octet 6 on
module _ (type count : ℕ) (point : PointAddress) (address : ℕ) where
  pub header_length : length (reply_header type count point address) ≡ 6
  unfolding reply_header header_octets low_octets
  header_length = refl

  message_length : (octets : List ℕ) → length (reply_header type count point address ++ octets) ≡ 6 + length octets
  message_length octets = rw (length-append, header_length)

  behind_header : (octets : List ℕ) (n : ℕ) → drop (6 + n) (reply_header type count point address ++ octets) ≡ drop n octets
  behind_header octets n = rw header_length at (drop-append-add (reply_header type count point address) octets n)

pub identity_length : (point : PointAddress) (head : Identity) → length (identity_reply point head) ≡ 12
unfolding identity_reply low_octets
identity_length point head = message_length 71 1 point 0 _

pub clock_length : (point : PointAddress) (clock : List ℕ) → length (clock_reply point clock) ≡ 6 + length clock
unfolding clock_reply
clock_length point clock = message_length 72 1 point 0 clock

pub label_length : (label : LabelA) → length (label_a_octets label) ≡ 5
unfolding label_a_octets
label_length label = refl

pub dates_length : (point : PointAddress) (dates : Dates) → length (dates_reply point dates) ≡ 16
unfolding dates_reply label_a_octets
dates_length point dates = message_length 131 1 point 0 _

-- of parts of one width, one after the other, those behind the first
behind_first_law : (width : ℕ) (part rest : List ℕ) (i : ℕ) → length part ≡ width → drop (width * suc i) (part ++ rest) ≡ drop (width * i) rest
behind_first_law width part rest i e =
    let further : width * suc i ≡ length part + width * i = omega (arith, mul-suc width i) in
    rw further (drop-append-add part rest (width * i))

-- the objects of a reading, six octets each
pub object_length : (object : ℕ) (r : List ℕ) → length (object_octets object r) ≡ 6
unfolding object_octets low_octets
object_length object r = refl

pub objects_length : (object many : ℕ) (r : List ℕ) → length (objects_octets object many r) ≡ 6 * many
unfolding objects_octets
objects_length object zero r = refl
objects_length object (suc many) r =
    length-append (object_octets object r) (objects_octets (suc object) many r)
    ∙ omega (arith, object_length object r, objects_length (suc object) many r)

objects_at : (object many i : ℕ) (r back : List ℕ) → i < many
    → take 6 (drop (6 * i) (objects_octets object many r ++ back)) ≡ object_octets (object + i) r
unfolding objects_octets
objects_at object zero i r back h = absurd (omega arith)
objects_at object (suc many) zero r back h =
    let here : object + 0 ≡ object = omega arith in
    rw (append_assoc, here) (take_at (object_octets object r) _ 6 (object_length object r))
objects_at object (suc many) (suc i) r back h =
    let further : object + suc i ≡ suc object + i = omega arith in
    rw (append_assoc, further, behind_first_law 6 (object_octets object r) (objects_octets (suc object) many r ++ back) i (object_length object r))
    (objects_at (suc object) many i r back (omega arith))

-- the bits of an object's value, and its value from them
value_bits : (n : ℕ) (r : List ℕ) → Octets r → (unsigned (value_of n r) < 256 ^ 4) × (signed (unsigned (value_of n r)) ≡ value_of n r)
unfolding value_of
value_bits n r o =
    let small = number_small 4 (11 + (n - 1) * 5) r o in
    rw (unsigned_signed (number_at 4 r (11 + (n - 1) * 5)) small) (small, refl)

-- an object's octets: number, value low octet first, quality
module _ (n : ℕ) (r : List ℕ) where
  pub object_number : get_or (object_octets n r) 0 0 ≡ n
  unfolding object_octets
  object_number = refl

  pub object_quality : get_or (object_octets n r) 5 0 ≡ quality_of n r
  unfolding object_octets low_octets
  object_quality = refl

  pub object_value : Octets r → signed (low_first (take 4 (drop 1 (object_octets n r)))) ≡ value_of n r
  unfolding object_octets
  object_value o =
      rw (take_at (low_octets 4 (unsigned (value_of n r))) (quality_of n r ∷ []) 4 (low_length 4 _))
      (ap signed (low_number 4 (unsigned (value_of n r)) (value_bits n r o).0) ∙ (value_bits n r o).1)

-- a reading's message: so many objects from the first on, and the label behind them
module _ (type : ℕ) (point : PointAddress) (address : ℕ) (objects : ObjectRange) (r : List ℕ) where
  pub reading_length : length (reading_reply type point address objects r) ≡ 11 + 6 * objects_many objects
  unfolding reading_reply label_a_octets
  reading_length =
      let many = objects_many objects in
      message_length type many point address _
      ∙ omega (arith, length-append (objects_octets objects.first many r) (label_a_octets (reading_label r)), objects_length objects.first many r)

  pub object_there : (i : ℕ) → i < objects_many objects → object_part i (reading_reply type point address objects r) ≡ object_octets (objects.first + i) r
  unfolding reading_reply
  object_there i h =
      rw behind_header
      (objects_at objects.first (objects_many objects) i r (label_a_octets (reading_label r)) h)

  pub label_there : drop (6 + 6 * objects_many objects) (reading_reply type point address objects r) ≡ label_a_octets (reading_label r)
  unfolding reading_reply
  label_there =
      let many = objects_many objects in
      behind_header type many point address _ (6 * many)
      ∙ drop_at (objects_octets objects.first many r) (label_a_octets (reading_label r)) (6 * many) (objects_length objects.first many r)

-- the events, nine octets each
pub event_length : (r : List ℕ) → length (event_octets r) ≡ 9
unfolding event_octets label_b_octets label_a_octets
event_length r = refl

pub events_octets_length : (rs : List (List ℕ)) → length (events_octets rs) ≡ 9 * length rs
unfolding events_octets
events_octets_length [] = refl
events_octets_length (r ∷ rs) =
    length-append (event_octets r) (events_octets rs)
    ∙ omega (arith, event_length r, events_octets_length rs)

events_at : (rs : List (List ℕ)) (i : ℕ) → i < length rs → take 9 (drop (9 * i) (events_octets rs)) ≡ event_octets (get_or rs i [])
unfolding events_octets
events_at [] i h = absurd (omega arith)
events_at (r ∷ rs) zero h = take_at (event_octets r) (events_octets rs) 9 (event_length r)
events_at (r ∷ rs) (suc i) h =
    rw (behind_first_law 9 (event_octets r) (events_octets rs) i (event_length r)) (events_at rs i (omega arith))

-- the octets of event i in a message
abbrev pub event_part : ℕ → List ℕ → List ℕ
event_part i message = take 9 (drop (6 + 9 * i) message)

module _ (point : PointAddress) (address : ℕ) (rs : List (List ℕ)) where
  pub events_length : length (events_reply point address rs) ≡ 6 + 9 * length rs
  unfolding events_reply
  events_length = message_length 1 (length rs) point address _ ∙ rw events_octets_length

  pub event_there : (i : ℕ) → i < length rs → event_part i (events_reply point address rs) ≡ event_octets (get_or rs i [])
  unfolding events_reply
  event_there i h = rw behind_header (events_at rs i h)
