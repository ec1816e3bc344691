-- Where the walk over an image's records stands, and what its steps answer. Nothing here has to be believed: that it comes to the first fault is
-- proved. Assumes nothing.
use Rattle.std.specs.Prelude.{ℕ, ◌+◌, ◌≤◌, ◌<◌, Bool, true, not, ◌&&◌, ◌≡◌, leb, eqb, length, drop, Option, Some, None}
use Rattle.std.specs.Option.{option_or}
use mathlib.Core.List.{List, [], ◌∷◌, ◌++◌, flatten}
use Rattle.octets.specs.Choice.{when◌then◌else◌}
use Rattle.octets.specs.First.{When, ◌⇒◌▸◌, first_of◌else◌}
use Rattle.label.specs.Label.{valid_a}
use Rattle.records.specs.Records.{whole_at, record_at, records_from, kind_at, place_after}
use Rattle.records.specs.Said.{every, linked, how_many}
use Rattle.fields.specs.Parts.{is_kind}
use Rattle.fields.specs.Answers.{records_of}
use Rattle.image.specs.Image.{right, in_order, knows}
use Rattle.faults.specs.declared.ImageRule.{ImageRule}
use Rattle.faults.specs.declared.ImageRule.TheVariants.{FirstDate, SecondDate, NinthPoint, NoPointBefore, UnknownPoint}
use Rattle.faults.specs.declared.ImageFault.{ImageFault}
use Rattle.faults.specs.declared.Walk.{Walk}
use Rattle.faults.specs.Images.{own_rules, follows, place_rules, record_rule, end_faults, fault_from}
use Rattle.fields.specs.declared.Dates.{Dates}

-- the rules of a record by itself
unfoldable pub own_rule : List ℕ → Option ImageRule
own_rule r = first_of own_rules r else None

-- a rule that is broken unless something holds
abbrev pub unless : Bool → ImageRule → Option ImageRule
unless test rule = when test then None else Some rule

unfoldable pub dates_rule : Option Dates → Option ImageRule
dates_rule (Some d) = option_or (unless (valid_a d.first) FirstDate) (unless (valid_a d.second) SecondDate)
dates_rule None = None

-- by how many points are passed, and whether a point is known
unfoldable pub point_rule : ℕ → ℕ → Bool → Option ImageRule
point_rule kind points known =
    first_of
    eqb kind 2 && leb 8 points ⇒ Some NinthPoint ▸
    leb 3 kind && eqb points 0 ⇒ Some NoPointBefore ▸
    leb 4 kind && not known ⇒ Some UnknownPoint ▸
    [] else None

-- by all that stands before it, and where it is in order by the points
unfoldable pub place_rule : List (List ℕ) → List ℕ → Option ImageRule
place_rule before r = first_of place_rules before r else None

abbrev pub point_rules : List (List ℕ) → List ℕ → List (When (Option ImageRule))
point_rules before r = drop 1 (place_rules before r)

-- what is true of records none of which is at fault
abbrev pub headed : List (List ℕ) → Bool
headed [] = true
headed (r ∷ rs) = is_kind 1 r

pub record Fine (rs : List (List ℕ)) : Type 0 where
  pub each_right : every right rs ≡ true
  pub ordered : linked in_order rs ≡ true
  pub first_headed : headed rs ≡ true
  pub few : how_many (is_kind 2) rs ≤ 8
  pub each_known : every (knows rs) rs ≡ true

-- the walk stands behind some records of an image: how many these are, how many of them points, where the last of them stands, and the place behind it
pub record Stage (image : List ℕ) (before : List (List ℕ)) (walk : Walk) : Type 0 where
  pub counted : walk.passed ≡ length before
  pub points_counted : walk.points ≡ how_many (is_kind 2) before
  pub place : walk.at ≡ 1 + length (flatten before)
  pub small : walk.passed < walk.at
  pub split : records_of image ≡ before ++ records_from image walk.at
  pub last_whole : 0 < length before → whole_at image walk.last ≡ true
  pub last_one : 0 < length before → (r : List ℕ) → follows before r ≡ in_order (record_at image walk.last) r
  pub fine : Fine before

-- the walk one record further
unfoldable pub further : List ℕ → Walk → Walk
further image walk =
    record {
      passed = walk.passed + 1;
      points = when eqb (kind_at image walk.at) 2 then walk.points + 1 else walk.points;
      last = walk.at;
      at = place_after image walk.at;
    }

-- a fault of the record where it stands
abbrev pub fault_there : Walk → ImageRule → ImageFault
fault_there walk rule = record { rule = rule; place = Some (record { number = walk.passed + 1; at = walk.at }) }

-- room for one record more
pub record Room (image : List ℕ) (walk : Walk) : Type 0 where
  pub whole_there : whole_at image walk.at ≡ true
  pub fits : walk.passed < walk.at
  pub few_points : walk.points ≤ 8

-- what is answered of the record where the walk stands, whichever records it stands behind
abbrev pub FollowsThere : List ℕ → Walk → Bool → Type 0
FollowsThere image walk t = (before : List (List ℕ)) → Stage image before walk → t ≡ follows before (record_at image walk.at)

abbrev pub PlaceThere : List ℕ → Walk → Option ImageRule → Type 0
PlaceThere image walk rule = (before : List (List ℕ)) → Stage image before walk → rule ≡ place_rule before (record_at image walk.at)

abbrev pub RuleThere : List ℕ → Walk → Option ImageRule → Type 0
RuleThere image walk rule = (before : List (List ℕ)) → Stage image before walk → rule ≡ record_rule before (record_at image walk.at)

-- and where no whole record stands
abbrev pub EndThere : List ℕ → Walk → Option ImageFault → Type 0
EndThere image walk fault = (before : List (List ℕ)) → Stage image before walk → fault ≡ (first_of end_faults image before else None)

-- the walk stands somewhere, and the first fault from there on is the first
pub record Standing (image : List ℕ) (walk : Walk) : Type 0 where
  pub before : List (List ℕ)
  pub stage : Stage image before walk
  pub decides : fault_from image before (records_from image walk.at) ≡ fault_from image [] (records_of image)
