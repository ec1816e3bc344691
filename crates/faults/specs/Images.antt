-- Why an image is not sound: the first record at fault, and the rule that it breaks. Document 01, "The meter image", rule by rule; a record is judged
-- with the records before it. Assumes nothing.
use Rattle.std.specs.Prelude.{ℕ, ◌+◌, Bool, true, not, ◌&&◌, ltb, leb, eqb, length, get_or, take, drop, Option, Some, None, option_map}
use mathlib.Core.List.{List, [], ◌∷◌, ◌++◌, flatten}
use Rattle.octets.specs.First.{When, ◌⇒◌▸◌, first_of◌else◌}
use Rattle.octets.specs.Numbers.{high_first}
use Rattle.label.specs.Label.{valid_a, valid_b}
use Rattle.records.specs.Records.{length_of, kind_of}
use Rattle.records.specs.Said.{how_many}
use Rattle.fields.specs.Parts.{point_of, first_date, second_date, record_address, reading_label, event_label, is_kind}
use Rattle.fields.specs.Answers.{records_of}
use Rattle.image.specs.Image.{reading_record, event_record, in_order, knows}
use Rattle.faults.specs.declared.ImageRule.{ImageRule}
use Rattle.faults.specs.declared.ImageRule.TheVariants.{TooLong, Version, FirstKind, PointZero, FirstDate, SecondDate, ReadingAddress, ReadingLabel, EventAddress, EventLabel, OutOfOrder, NinthPoint, NoPointBefore, UnknownPoint, Kind, Length, Cut, NoRecord, NoPoint}
use Rattle.faults.specs.declared.ImageFault.{ImageFault}

-- a fault of the image as a whole
abbrev pub of_whole : ImageRule → Option ImageFault
of_whole rule = Some (record { rule = rule; place = None })

-- a fault of what stands behind some records: its number from 1 on, and its place; the version's octet stands before them all
abbrev pub behind : List (List ℕ) → Option ImageRule → Option ImageFault
behind before rule =
    option_map (λ r. record { rule = r; place = Some (record { number = length before + 1; at = 1 + length (flatten before) }) }) rule

-- each record by itself: addresses of points from 1 on, record addresses, labels valid
abbrev pub own_rules : List ℕ → List (When (Option ImageRule))
own_rules r =
    is_kind 2 r && eqb (point_of r) 0 ⇒ Some PointZero ▸
    is_kind 3 r && not (valid_a (first_date r)) ⇒ Some FirstDate ▸
    is_kind 3 r && not (valid_a (second_date r)) ⇒ Some SecondDate ▸
    is_kind 4 r && not (reading_record (record_address r)) ⇒ Some ReadingAddress ▸
    is_kind 4 r && not (valid_a (reading_label r)) ⇒ Some ReadingLabel ▸
    is_kind 5 r && not (event_record (record_address r)) ⇒ Some EventAddress ▸
    is_kind 5 r && not (valid_b (event_label r)) ⇒ Some EventLabel ▸
    []

-- in order behind the last of the records before it; the first has none before it
unfoldable pub follows : List (List ℕ) → List ℕ → Bool
follows [] r = true
follows (q ∷ []) r = in_order q r
follows (q ∷ p ∷ before) r = follows (p ∷ before) r

-- each record by the records before it: in order; at most eight points; kind 3 or more only behind a point; points named in kinds 4 and 5 must be there
abbrev pub place_rules : List (List ℕ) → List ℕ → List (When (Option ImageRule))
place_rules before r =
    not (follows before r) ⇒ Some OutOfOrder ▸
    is_kind 2 r && leb 8 (how_many (is_kind 2) before) ⇒ Some NinthPoint ▸
    leb 3 (kind_of r) && eqb (how_many (is_kind 2) before) 0 ⇒ Some NoPointBefore ▸
    not (knows before r) ⇒ Some UnknownPoint ▸
    []

-- a record, given the records before it: the first is of kind 1; then by itself, then by those before it
abbrev pub record_rules : List (List ℕ) → List ℕ → List (When (Option ImageRule))
record_rules before r =
    eqb (length before) 0 && not (is_kind 1 r) ⇒ Some FirstKind ▸
    own_rules r ++ place_rules before r

unfoldable pub record_rule : List (List ℕ) → List ℕ → Option ImageRule
record_rule before r = first_of record_rules before r else None

-- octets that are no whole record: cut before the kind; none of the five kinds; not its kind's length; and else cut behind the kind
abbrev pub broken_rules : List ℕ → List (When ImageRule)
broken_rules s =
    ltb (length s) 3 ⇒ Cut ▸
    eqb (length_of (kind_of s)) 0 ⇒ Kind ▸
    not (eqb (high_first (take 2 s)) (length_of (kind_of s))) ⇒ Length ▸
    []

unfoldable pub broken_rule : List ℕ → ImageRule
broken_rule s = first_of broken_rules s else Cut

-- where no whole record stands behind some records: octets are left there, which are at fault; or nothing is left, and there is no record, or no point
abbrev pub end_faults : List ℕ → List (List ℕ) → List (When (Option ImageFault))
end_faults image before =
    let left = drop (1 + length (flatten before)) image in
    ltb 0 (length left) ⇒ behind before (Some (broken_rule left)) ▸
    eqb (length before) 0 ⇒ of_whole NoRecord ▸
    eqb (how_many (is_kind 2) before) 0 ⇒ of_whole NoPoint ▸
    []

-- rules, each as the fault of the record behind some records
abbrev pub faults_behind : List (List ℕ) → List (When (Option ImageRule)) → List (When (Option ImageFault))
faults_behind before [] = []
faults_behind before (rule ∷ rules) = rule.test ⇒ behind before rule.gives ▸ faults_behind before rules

-- record by record, given those before
unfoldable pub fault_from : List ℕ → List (List ℕ) → List (List ℕ) → Option ImageFault
fault_from image before [] = first_of end_faults image before else None
fault_from image before (r ∷ rs) = first_of faults_behind before (record_rules before r) else fault_from image (before ++ (r ∷ [])) rs

-- over 65,535 octets; empty or not version 1; then the records
abbrev pub whole_faults : List ℕ → List (When (Option ImageFault))
whole_faults image =
    ltb 65535 (length image) ⇒ of_whole TooLong ▸
    not (eqb (get_or image 0 0) 1) ⇒ of_whole Version ▸
    []

unfoldable pub image_fault : List ℕ → Option ImageFault
image_fault image = first_of whole_faults image else fault_from image [] (records_of image)
