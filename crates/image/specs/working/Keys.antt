-- The rules of an image as they are worked out, over keys and over the points behind the first record, in one walk over the records.
-- Nothing here has to be believed: that these are the rules of `Image` is proved. Assumes nothing.
use Rattle.std.specs.Prelude.{ℕ, refl, ◌+◌, ◌≤◌, Bool, true, false, not, ◌&&◌, ◌≡◌, ltb, leb, eqb, ℤ, length, get_or, Option, Some, None, is_some}
use mathlib.Core.List.{List, [], ◌∷◌, flatten}
use Rattle.octets.specs.Choice.{when◌then◌else◌}
use Rattle.label.specs.Label.{valid_a, valid_b, instant, before_a, before_b}
use Rattle.records.specs.Records.{length_of, kind_of, records_from, kind_at}
use Rattle.records.specs.Said.{every, linked}
use Rattle.label.specs.declared.LabelB.{LabelB}
use Rattle.fields.specs.declared.Key.{Key}
use Rattle.fields.specs.Parts.{point_of}
use Rattle.fields.specs.working.Key.{at_minute, key_of, key_at}
use Rattle.fields.specs.Answers.{records_of, points_of, point_in}
use Rattle.image.specs.declared.Walk.{Walk}
use Rattle.image.specs.Image.{reading_record, event_record, right, in_order}
use Rattle.fields.specs.declared.Dates.{Dates}

unfoldable pub valid_dates : Option Dates → Bool
valid_dates (Some d) = valid_a d.first && valid_a d.second
valid_dates None = false

-- by point and record address, and where these are the same by what the labels say
unfoldable pub by_key : Key → Key → Bool → Bool
by_key k l labels =
    when not (eqb k.point.0 l.point.0) then ltb k.point.0 l.point.0 else
    when not (eqb k.record_address l.record_address) then ltb k.record_address l.record_address else
    labels

unfoldable pub key_before : Key → Key → Bool
key_before k l = by_key k l (before_b k.label l.label)

unfoldable pub keys_in_order : Key → Key → Bool
keys_in_order k l =
    when not (eqb k.kind l.kind) then ltb k.kind l.kind else
    when eqb k.kind 2 then ltb k.point.0 l.point.0 else
    when eqb k.kind 4 then key_before k l else
    when eqb k.kind 5 then not (key_before l k) else
    false

-- whether the point of a reading or an event is among some points
unfoldable pub known_in : List (List ℕ) → List ℕ → Bool
known_in points r = when leb 4 (kind_of r) then is_some (point_in (point_of r) 1 points) else true

-- the size, version 1, a first record of kind 1, and 1 to 8 points behind it
unfoldable pub fronted : List ℕ → Bool
fronted image =
    let points = length (points_of image) in
    leb (length image) 65535 && (eqb (get_or image 0 0) 1 && (eqb (kind_at image 1) 1 && (leb 1 points && leb points 8)))

-- each record right, neighbours in order, the points that are named known, and records to the exact end
unfoldable pub orderly : List ℕ → Bool
orderly image =
    let rs = records_of image in
    every right rs && (linked in_order rs && (every (known_in (points_of image)) rs && eqb (1 + length (flatten rs)) (length image)))

-- a record behind a key: right by itself, in order, its point known
unfoldable pub fits : List (List ℕ) → Key → List ℕ → Bool
fits points k r = right r && (keys_in_order k (key_of r) && known_in points r)

-- each fits behind the one before it, the first behind a key
unfoldable pub chain : List (List ℕ) → Key → List (List ℕ) → Bool
chain points k [] = true
chain points k (r ∷ rs) = fits points k r && chain points (key_of r) rs

-- what is left of the walk's test from a place on, behind a key
unfoldable pub left : List ℕ → ℕ → Key → Bool
left s at k =
    let rs = records_from s at in
    chain (points_of s) k rs && eqb (at + length (flatten rs)) (length s)

-- a reading or an event by its key: right by itself, its point known, and that it fits behind another key
unfoldable pub key_right : Key → Bool
key_right k =
    when eqb k.kind 4 then reading_record k.record_address && valid_a k.label.a else
    event_record k.record_address && valid_b k.label

unfoldable pub key_known : List (List ℕ) → Key → Bool
key_known points k = when leb 4 k.kind then is_some (point_in k.point.0 1 points) else true

unfoldable pub key_fits : List (List ℕ) → Key → Key → Bool
key_fits points k l = key_right l && (keys_in_order k l && key_known points l)

-- the label of a reading's key stands at the start of its minute
abbrev pub AtStart : Key → Type 0
AtStart k = k.kind ≡ 4 → k.label ≡ at_minute k.label.a

-- a key that has passed: a run of its kind may go on behind it
pub record Passed (s : List ℕ) (k : Key) : Type 0 where
  pub some_kind : k.kind ≤ 5
  pub known : key_known (points_of s) k ≡ true
  pub at_start_law : AtStart k

-- a key behind another of one kind, of which the instant has been kept
pub record Behind (kind : ℕ) (s : List ℕ) (last : Key) (minute : ℤ) (k : Key) : Type 0 where
  pub last_kind : last.kind ≡ kind
  pub next_kind : k.kind ≡ kind
  pub last_passed : Passed s last
  pub next_start : AtStart k
  pub kept : minute ≡ instant last.label.a

-- the kinds that stand in runs
pub data Runs : ℕ → Type 0 where
  of_readings : Runs 4
  of_events : Runs 5

-- how many octets a record of each takes
pub reading_takes : 41 ≡ 2 + length_of 4
unfolding length_of
reading_takes = refl

pub event_takes : 15 ≡ 2 + length_of 5
unfolding length_of
event_takes = refl

-- of a record of such a kind: its address, its label by itself, and its label behind the last one's; readings rise, events may be equal
abbrev pub kind_address : ℕ → ℕ → Bool
kind_address kind n = when eqb kind 4 then reading_record n else event_record n

abbrev pub kind_valid : ℕ → LabelB → Bool
kind_valid kind l = when eqb kind 4 then valid_a l.a else valid_b l

abbrev pub kind_follows : ℕ → LabelB → LabelB → Bool
kind_follows kind last l = when eqb kind 4 then before_a last.a l.a else not (before_b l last)

-- its key at a place, where one stands there
abbrev pub run_key : ℕ → List ℕ → ℕ → Option Key
run_key kind s at = when eqb (kind_at s at) kind then Some (key_at s at) else None

-- its instant, where something holds
abbrev pub instant_where : Bool → Key → Option ℤ
instant_where test k = when test then Some (instant k.label.a) else None

-- a walk that has come further: what it left decides what was left
pub record Onward (s : List ℕ) (from walk : Walk) : Type 0 where
  pub further : from.at ≤ walk.at
  pub decides : left s walk.at walk.last ≡ left s from.at from.last
