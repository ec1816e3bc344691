-- Document 01's rules for a message, "First that applies", each as the paper words it and by itself: what it says of a session, an image, a clock and a message's octets,
-- whatever the other rules say. Nothing here is taken from the definition by which the card finds the first rule (`rules/specs/Decide`). `P ⊎ Q` says: P or Q; `P → ⊥`: not P.
-- Octets that a message does not have count as 0. Assumes nothing.
use Rattle.std.specs.Prelude.{ℕ, ◌+◌, ◌≤◌, ◌<◌, true, false, List, [], ◌∷◌, ◌⊎◌, ◌≡◌, length, get_or, Ok}
use Rattle.octets.specs.Bits.{bits◌to◌of◌}
use Rattle.octets.specs.Numbers.{low_first}
use Rattle.label.specs.Label.{instant, valid_a, valid_b, before_a, label_a_at, label_b_at}
use Rattle.records.specs.Said.{how_many}
use Rattle.fields.specs.Parts.{is_kind, is_point}
use Rattle.fields.specs.Answers.{records_of}
use Rattle.image.specs.Image.{sound_image}
use Rattle.choice.specs.declared.Span.{Span}
use Rattle.choice.specs.declared.Query.TheVariants.{Reading, Event}
use Rattle.choice.specs.Choice.{choice}
use Rattle.message.specs.declared.Addresses.{Addresses}
use Rattle.message.specs.declared.Addresses.TheVariants.{Only, Events}
use Rattle.message.specs.declared.Row.{Row}
use Rattle.message.specs.Table.{table}
use Rattle.rules.specs.declared.Session.{Session}
use Rattle.rules.specs.declared.Session.TheVariants.{Closed, Open}
use Rattle.rules.specs.declared.Rule.{Rule}
use Rattle.rules.specs.declared.Rule.TheVariants.{Marked, UnknownType, NoSession, UnknownPoint, OtherSession, Shape, Address, Objects, ReadingLabel, ReadingRange, NoReading, EventLabel, EventRange, NoEvent, ClockUnset, NoDates, TimeLabel, WrongPassword, Accepted}
use Rattle.why.specs.Naming.{place_of}
use Rattle.why.specs.InImage.{is_opened_by}
use Rattle.why.specs.Asking.{why_of}

-- something of a list is as P says
abbrev pub Some : {A : Type 0} → (A → Type 0) → List A → Type 0
Some P [] = ⊥
Some P (x ∷ xs) = P x ⊎ Some P xs

-- "Header: type, structure octet (SQ 0, count N), cause (bit 8 T, bit 7 P/N, six bits cause), metering point low octet first, record address."
abbrev pub type_in : List ℕ → ℕ
type_in m = get_or m 0 0

abbrev pub structure_in : List ℕ → ℕ
structure_in m = get_or m 1 0

abbrev pub cause_in : List ℕ → ℕ
cause_in m = get_or m 2 0

abbrev pub point_in : List ℕ → ℕ
point_in m = low_first (get_or m 3 0 ∷ get_or m 4 0 ∷ [])

abbrev pub record_in : List ℕ → ℕ
record_in m = get_or m 5 0

-- a row of the table: its type, its structure octet, octets and cause, its record addresses
abbrev pub TypeAs : List ℕ → Row → Type 0
TypeAs m w = type_in m ≡ w.type_id

abbrev pub ShapeAs : List ℕ → Row → Type 0
ShapeAs m w = (structure_in m ≡ w.count) × ((length m ≡ w.octets) × (bits 1 to 6 of cause_in m ≡ w.cause))

abbrev pub RecordAs : List ℕ → Addresses → Type 0
RecordAs m (Only a) = record_in m ≡ a
RecordAs m Events = ((52 ≤ record_in m) × (record_in m ≤ 55)) ⊎ ((record_in m ≡ 128) ⊎ (record_in m ≡ 129))

-- Octets counted from 0, 122 and 123 have first and last object in octets 6 and 7, and first and last label behind them; 102 and 186 have two labels directly behind the header
abbrev pub AsksReadings : List ℕ → Type 0
AsksReadings m = (type_in m ≡ 122) ⊎ (type_in m ≡ 123)

-- "first is 0, last is over 6 or first is after last" (document 02, #101)
abbrev pub ObjectsOut : ℕ → ℕ → Type 0
ObjectsOut first last = (first ≡ 0) ⊎ ((6 < last) ⊎ (last < first))

-- of two labels from an octet on: one not valid; the first after the last, where a label that is not valid has the instant 0; what they choose, with point and record
-- address
abbrev pub LabelNotValid : List ℕ → ℕ → Type 0
LabelNotValid m at = (valid_a (label_a_at m at) ≡ false) ⊎ (valid_a (label_a_at m (at + 5)) ≡ false)

abbrev pub FirstAfterLast : List ℕ → ℕ → Type 0
FirstAfterLast m at = before_a (label_a_at m (at + 5)) (label_a_at m at) ≡ true

abbrev pub span_in : List ℕ → ℕ → Span
span_in m at =
    record {
      point = record { 0 = point_in m };
      record_address = record_in m;
      first = instant (label_a_at m at);
      last = instant (label_a_at m (at + 5));
    }

-- the full 32 bits
abbrev pub password_in : List ℕ → ℕ
password_in m = low_first (get_or m 6 0 ∷ get_or m 7 0 ∷ get_or m 8 0 ∷ get_or m 9 0 ∷ [])

-- the rules, in the paper's order; that a message is accepted is none of them
module _ (session : Session) (image clock m : List ℕ) where
  abbrev pub Holds : Rule → Type 0
  -- "T or P/N set, 14"
  Holds Marked = (bits 8 to 8 of cause_in m ≡ 1) ⊎ (bits 7 to 7 of cause_in m ≡ 1)
  -- "type not in the table, 14"
  Holds UnknownType = Some (TypeAs m) table → ⊥
  -- "no session and type not 183, 14"
  Holds NoSession = (session ≡ Closed) × (type_in m ≡ 183 → ⊥)
  -- "point not in the image, 16"
  Holds UnknownPoint = how_many (is_point (point_in m)) (records_of image) ≡ 0
  -- "session of another point and type not 183, 14"
  Holds OtherSession = ((session ≡ Closed → ⊥) × (session ≡ Open (record { 0 = point_in m }) → ⊥)) × (type_in m ≡ 183 → ⊥)
  -- "structure octet, octets or cause not as listed, 14": no row lists the type with these
  Holds Shape = Some (λ (w : Row). TypeAs m w × ShapeAs m w) table → ⊥
  -- "record address, 15": no row lists the type with it
  Holds Address = Some (λ (w : Row). TypeAs m w × RecordAs m w.addresses) table → ⊥
  -- "122, 123: .. 17"; "A label not valid, first after last, or no reading chosen, 18"
  Holds Objects = AsksReadings m × ObjectsOut (get_or m 6 0) (get_or m 7 0)
  Holds ReadingLabel = AsksReadings m × LabelNotValid m 8
  Holds ReadingRange = AsksReadings m × FirstAfterLast m 8
  Holds NoReading = AsksReadings m × (choice (Reading (span_in m 8)) image ≡ [])
  -- "102: a label not valid or first after last, 18; no event chosen, 13"
  Holds EventLabel = (type_in m ≡ 102) × LabelNotValid m 6
  Holds EventRange = (type_in m ≡ 102) × FirstAfterLast m 6
  Holds NoEvent = (type_in m ≡ 102) × (choice (Event (span_in m 6)) image ≡ [])
  -- "103: clock not valid, 13"
  Holds ClockUnset = (type_in m ≡ 103) × (valid_b (label_b_at clock 0) ≡ false)
  -- "185, 186 without switch dates in the image: 14"
  Holds NoDates = ((type_in m ≡ 185) ⊎ (type_in m ≡ 186)) × (how_many (is_kind 3) (records_of image) ≡ 0)
  -- "Then 181, 186 with a label not valid: cause 7, P/N 1"
  Holds TimeLabel = ((type_in m ≡ 181) × (valid_b (label_b_at m 6) ≡ false)) ⊎ ((type_in m ≡ 186) × LabelNotValid m 6)
  -- "183: .. a wrong one gives P/N 1"
  Holds WrongPassword = (type_in m ≡ 183) × (how_many (is_opened_by (point_in m) (password_in m)) (records_of image) ≡ 0)
  Holds Accepted = ⊥

  -- "The named rule must hold, no earlier one may"; of an accepted message none holds
  pub record FirstToHold (rule : Rule) : Type 0 where
    pub it_holds : (rule ≡ Accepted → ⊥) → Holds rule
    pub no_earlier : (earlier : Rule) → place_of earlier < place_of rule → Holds earlier → ⊥

-- so it is of every rule that is named; and where neither refusal applies, the first to hold is named
abbrev pub NamedHolds : Type 0
NamedHolds = (session : Session) (image clock m : List ℕ) (rule : Rule) → why_of session image clock m ≡ Ok rule → FirstToHold session image clock m rule

abbrev pub FirstIsNamed : Type 0
FirstIsNamed =
    (session : Session) (image clock m : List ℕ) (rule : Rule) → sound_image image ≡ true → 6 ≤ length m → length m ≤ 252
    → FirstToHold session image clock m rule → why_of session image clock m ≡ Ok rule
