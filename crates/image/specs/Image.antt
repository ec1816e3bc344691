-- The meter image. Document 01, "The meter image", rule by rule.
-- Assumes nothing.
use Rattle.std.specs.Prelude.{ℕ, ◌+◌, Bool, true, false, not, ◌&&◌, ◌||◌, ltb, leb, eqb, length, get_or}
use mathlib.Core.List.{List, [], ◌∷◌, flatten}
use Rattle.octets.specs.Choice.{when◌then◌else◌}
use Rattle.octets.specs.Conditions.{holds}
use Rattle.label.specs.Label.{valid_a, before_a, valid_b, before_b}
use Rattle.records.specs.Records.{kind_of}
use Rattle.records.specs.Said.{every, linked, how_many}
use Rattle.fields.specs.Parts.{point_of, first_date, second_date, record_address, reading_label, event_label, is_kind, is_point}
use Rattle.fields.specs.Answers.{records_of}

-- a reading has record 11 or 21, an event a record of 102's list: 52 to 55, 128, 129
unfoldable pub reading_record : ℕ → Bool
reading_record n = eqb n 11 || eqb n 21

unfoldable pub event_record : ℕ → Bool
event_record n = (leb 52 n && leb n 55) || (leb 128 n && leb n 129)

-- each record by itself: addresses of points from 1 on, record addresses, labels valid
unfoldable pub right : List ℕ → Bool
right r =
    when eqb (kind_of r) 2 then leb 1 (point_of r) else
    when eqb (kind_of r) 3 then valid_a (first_date r) && valid_a (second_date r) else
    when eqb (kind_of r) 4 then reading_record (record_address r) && valid_a (reading_label r) else
    when eqb (kind_of r) 5 then event_record (record_address r) && valid_b (event_label r) else
    true

-- by point and record address, and where these are the same by what follows
unfoldable pub by_point : List ℕ → List ℕ → Bool → Bool
by_point r q labels =
    when not (eqb (point_of r) (point_of q)) then ltb (point_of r) (point_of q) else
    when not (eqb (record_address r) (record_address q)) then ltb (record_address r) (record_address q) else
    labels

unfoldable pub reading_before : List ℕ → List ℕ → Bool
reading_before r q = by_point r q (before_a (reading_label r) (reading_label q))

unfoldable pub event_before : List ℕ → List ℕ → Bool
event_before r q = by_point r q (before_b (event_label r) (event_label q))

-- neighbours: the kinds rise; kind 1 once; kind 2 strictly rising; kind 3 once; kind 4 strictly rising; kind 5 rising, equals allowed
unfoldable pub in_order : List ℕ → List ℕ → Bool
in_order r q =
    when not (eqb (kind_of r) (kind_of q)) then ltb (kind_of r) (kind_of q) else
    when eqb (kind_of r) 2 then ltb (point_of r) (point_of q) else
    when eqb (kind_of r) 4 then reading_before r q else
    when eqb (kind_of r) 5 then not (event_before q r) else
    false

-- points named in kinds 4 and 5 must be in kind 2
unfoldable pub knows : List (List ℕ) → List ℕ → Bool
knows rs r = when leb 4 (kind_of r) then ltb 0 (how_many (is_point (point_of r)) rs) else true

-- at most 65,535 octets, version 1, records to the exact end; kind 1: one, kind 2: 1 to 8, kind 3: none or one
unfoldable pub sound_image : List ℕ → Bool
sound_image image =
    let rs = records_of image in
    holds
    (leb (length image) 65535
    ∷ eqb (get_or image 0 0) 1
    ∷ eqb (1 + length (flatten rs)) (length image)
    ∷ eqb (how_many (is_kind 1) rs) 1
    ∷ leb 1 (how_many (is_kind 2) rs)
    ∷ leb (how_many (is_kind 2) rs) 8
    ∷ leb (how_many (is_kind 3) rs) 1
    ∷ every right rs
    ∷ linked in_order rs
    ∷ every (knows rs) rs
    ∷ [])
