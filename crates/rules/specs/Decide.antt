-- The first rule that applies to a message. Document 01, "First that applies", one line a rule, in its order; 17 as document 02, #101, has it.
-- Assumes nothing.
use Rattle.std.specs.Prelude.{is_some, ℕ, Bool, true, false, not, ◌&&◌, ◌||◌, List, [], eqb, length, Option, Some, None}
use Rattle.octets.specs.First.{When, ◌⇒◌▸◌, first_of◌else◌}
use Rattle.address.specs.declared.PointAddress.{PointAddress}
use Rattle.address.specs.Address.{same_point}
use Rattle.label.specs.Label.{instant, valid_a, valid_b, before_a, label_b_at}
use Rattle.message.specs.declared.Request.{Request}
use Rattle.message.specs.declared.Addresses.{Addresses}
use Rattle.message.specs.declared.Addresses.TheVariants.{Only, Events}
use Rattle.message.specs.declared.Row.{Row}
use Rattle.message.specs.Headers.{t_of, pn_of, cause_of}
use Rattle.message.specs.Requests.{objects_offered, asks_readings}
use Rattle.message.specs.Table.{table, row_in}
use Rattle.fields.specs.Answers.{point_found, dates_found}
use Rattle.image.specs.Image.{event_record}
use Rattle.choice.specs.declared.Span.{Span}
use Rattle.choice.specs.declared.Query.{Query}
use Rattle.choice.specs.declared.Query.TheVariants.{Reading, Event}
use Rattle.choice.specs.Choice.{choice}
use Rattle.rules.specs.declared.Session.{Session}
use Rattle.rules.specs.declared.Session.TheVariants.{Closed, Open}
use Rattle.rules.specs.declared.Rule.{Rule}
use Rattle.rules.specs.declared.Rule.TheVariants.{Marked, UnknownType, NoSession, UnknownPoint, OtherSession, Shape, Address, Objects, ReadingLabel, ReadingRange, NoReading, EventLabel, EventRange, NoEvent, ClockUnset, NoDates, TimeLabel, WrongPassword, Accepted}
use Rattle.fields.specs.declared.Point.{Point}
use Rattle.fields.specs.declared.Dates.{Dates}

-- T or P/N set
abbrev pub marked : ℕ → Bool
marked cause = not (eqb (t_of cause) 0) || not (eqb (pn_of cause) 0)

-- type in the table
abbrev pub listed : Option Row → Bool
listed row = is_some row

-- no session
abbrev pub is_closed : Session → Bool
is_closed Closed = true
is_closed (Open p) = false

-- point in the image
abbrev pub known : Option Point → Bool
known found = is_some found

-- session of another point
abbrev pub is_other : Session → PointAddress → Bool
is_other Closed point = false
is_other (Open p) point = not (same_point p point)

-- structure octet, octets and cause as listed
abbrev pub shaped_as : Row → Request → Bool
shaped_as w r = eqb r.header.structure w.count && (eqb r.octets w.octets && eqb (cause_of r.header.cause) w.cause)

abbrev pub shaped : Option Row → Request → Bool
shaped (Some w) r = shaped_as w r
shaped None r = false

-- record address as listed
abbrev pub addressed_as : Addresses → ℕ → Bool
addressed_as (Only a) address = eqb address a
addressed_as Events address = event_record address

abbrev pub addressed : Option Row → ℕ → Bool
addressed (Some w) address = addressed_as w.addresses address
addressed None address = false

-- both labels valid; first after last
unfoldable pub labels_valid : Request → Bool
labels_valid r = valid_a r.first && valid_a r.last

unfoldable pub first_after_last : Request → Bool
first_after_last r = before_a r.last r.first

-- chosen are records of that point and record address, from the first label to the last
unfoldable pub span_of : Request → Span
span_of r = record { point = r.header.point; record_address = r.header.record_address; first = instant r.first; last = instant r.last }

unfoldable pub none_in : Query → List ℕ → Bool
none_in query image = eqb (length (choice query image)) 0

-- with switch dates
abbrev pub dated : Option Dates → Bool
dated found = is_some found

-- the right password of a point
abbrev pub opens : Option Point → ℕ → Bool
opens (Some p) password = eqb p.password password
opens None password = false

-- first that applies
abbrev pub rules : Session → List ℕ → Request → List (When Rule)
rules session image r =
    let h = r.header in
    let row = row_in table h.type_id in
    marked h.cause ⇒ Marked ▸
    not (listed row) ⇒ UnknownType ▸
    is_closed session && not (eqb h.type_id 183) ⇒ NoSession ▸
    not (known (point_found h.point image)) ⇒ UnknownPoint ▸
    is_other session h.point && not (eqb h.type_id 183) ⇒ OtherSession ▸
    not (shaped row r) ⇒ Shape ▸
    not (addressed row h.record_address) ⇒ Address ▸
    []

-- then by type
abbrev pub type_rules : List ℕ → List ℕ → Request → List (When Rule)
type_rules image clock r =
    let type = r.header.type_id in
    asks_readings type && not (objects_offered r.objects) ⇒ Objects ▸
    asks_readings type && not (labels_valid r) ⇒ ReadingLabel ▸
    asks_readings type && first_after_last r ⇒ ReadingRange ▸
    asks_readings type && none_in (Reading (span_of r)) image ⇒ NoReading ▸
    eqb type 102 && not (labels_valid r) ⇒ EventLabel ▸
    eqb type 102 && first_after_last r ⇒ EventRange ▸
    eqb type 102 && none_in (Event (span_of r)) image ⇒ NoEvent ▸
    eqb type 103 && not (valid_b (label_b_at clock 0)) ⇒ ClockUnset ▸
    (eqb type 185 || eqb type 186) && not (dated (dates_found image)) ⇒ NoDates ▸
    eqb type 181 && not (valid_b r.time) ⇒ TimeLabel ▸
    eqb type 186 && not (labels_valid r) ⇒ TimeLabel ▸
    eqb type 183 && not (opens (point_found r.header.point image) r.password) ⇒ WrongPassword ▸
    []

unfoldable pub by_type : List ℕ → List ℕ → Request → Rule
by_type image clock r = first_of type_rules image clock r else Accepted

unfoldable pub decide : Session → List ℕ → List ℕ → Request → Rule
decide session image clock r = first_of rules session image r else by_type image clock r
