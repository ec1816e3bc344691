-- What the public contracts of this crate do not allow: two wrong outcomes or more of each.
-- By the theorems that a fault is named exactly where there is one, and by computation. Assumes nothing.
use Rattle.std.specs.Prelude.{Option, Some, None, option_map, unwrap_or}
use Prim.Native.Nat.{ℕ}
use mathlib.Core.Bool.{true, false}
use mathlib.Core.List.{List, [], ◌∷◌, ◌++◌, flatten}
use mathlib.Core.Path.{◌≡◌, sym, ap, ◌∙◌}
use contract.Lifetimes.{Lfts}
use native.Mathlib.Omega.{arith}
use Rattle.octets.specs.Conditions.{holds}
use Rattle.octets.specs.Numbers.{low_first, high_first}
use Rattle.octets.proofs.Choice.{not_both}
use Rattle.octets.proofs.Outcome.{RuledOut, Place, lent, never}
use Rattle.label.specs.declared.LabelA.{LabelA}
use Rattle.label.specs.declared.LabelB.{LabelB}
use Rattle.label.specs.Calendar.{leap, leap_day, month_length}
use Rattle.label.specs.Label.{date_time_a, valid_a, second, millisecond, valid_b}
use Rattle.records.specs.Records.{length_of, is_whole, walk, records, records_from}
use Rattle.records.specs.Said.{keep, how_many}
use Rattle.fields.specs.Parts.{number_at, point_of}
use Rattle.fields.specs.Answers.{records_of}
use Rattle.image.specs.Image.{in_order, knows, sound_image}
use Rattle.faults.specs.declared.LabelFault.{LabelFault}
use Rattle.faults.specs.declared.LabelFault.TheVariants as label
use Rattle.faults.specs.declared.ImageRule.{ImageRule}
use Rattle.faults.specs.declared.ImageRule.TheVariants.{OutOfOrder, Cut, NoPoint}
use Rattle.faults.specs.declared.ImageFault.{ImageFault}
use Rattle.faults.specs.declared.RecordPlace.{RecordPlace}
use Rattle.faults.specs.Labels.{time_fault, label_fault_a, label_fault_b}
use Rattle.faults.specs.Images.{follows, broken_rule, fault_from, image_fault}
use Rattle.faults.proofs.Labels.{valid_no_fault_a, no_fault_valid_a, valid_no_fault_b, no_fault_valid_b}
use Rattle.faults.proofs.Soundness.{sound_no_fault, no_fault_sound}
use Rattle.faults.proofs.of_label_a.Reads as of_label_a
use Rattle.faults.proofs.of_label_b.Reads as of_label_b
use Rattle.faults.proofs.of_image.Reads as of_image

-- to unfold one of these is to unfold what a label's fault, and an image's, stand on
the_label : Unit {0}
unfolding label_fault_a label_fault_b time_fault date_time_a second millisecond low_first leap leap_day month_length
the_label = tt

the_image : Unit {0}
unfolding image_fault fault_from broken_rule follows flatten records_of records_from records walk is_whole holds length_of high_first low_first keep how_many number_at point_of in_order knows
the_image = tt

-- a label a by its octets as they stand
abbrev label_a : ℕ → ℕ → ℕ → ℕ → ℕ → LabelA
label_a minute hour day month year = record { minute = minute; hour = hour; day = day; month = month; year = year }

module _ (κs : Lfts 0) where
  -- no fault of a label a that is not valid, whatever the label
  of_label_a_none : (l : LabelA) → valid_a l ≡ false → RuledOut (of_label_a.Post κs) (l, tt) None
  of_label_a_none l out s p = not_both out (no_fault_valid_a l (sym p))

  -- a fault of a label a that is valid, whatever the label
  of_label_a_some : (l : LabelA) (fault : LabelFault) → valid_a l ≡ true → RuledOut (of_label_a.Post κs) (l, tt) (Some fault)
  of_label_a_some l fault valid s p = let e : Some fault ≡ None = p ∙ valid_no_fault_a l valid in never (cc)

  -- TIS named where IV is set too, whatever the rest
  of_label_a_later : (hour day month year : ℕ) → RuledOut (of_label_a.Post κs) (label_a 0xC0 hour day month year, tt) (Some label.Tis)
  unfolding the_label
  of_label_a_later hour day month year s p = never (cc)

  -- the month named for 29 February 2001, whose day is wrong
  of_label_a_day : RuledOut (of_label_a.Post κs) (label_a 0 0 29 2 1, tt) (Some label.Month)
  unfolding the_label
  of_label_a_day s p = never (cc)

  -- no fault of a label b that is not valid, whatever the label
  of_label_b_none : (l : LabelB) → valid_b l ≡ false → RuledOut (of_label_b.Post κs) (l, tt) None
  of_label_b_none l out s p = not_both out (no_fault_valid_b l (sym p))

  -- a fault of a label b that is valid, whatever the label
  of_label_b_some : (l : LabelB) (fault : LabelFault) → valid_b l ≡ true → RuledOut (of_label_b.Post κs) (l, tt) (Some fault)
  of_label_b_some l fault valid s p = let e : Some fault ≡ None = p ∙ valid_no_fault_b l valid in never (cc)

  -- the millisecond named where the second is 60, whatever the label a
  of_label_b_later : (a : LabelA) → RuledOut (of_label_b.Post κs) (record { low = 0xE8; high = 0xF3; a = a }, tt) (Some label.Millisecond)
  unfolding the_label
  of_label_b_later a s p = never (cc)

-- version 1 and the first record; a point and a reading by the point's address
abbrev head : List ℕ
head = 1 ∷ 0 ∷ 9 ∷ 1 ∷ 0 ∷ 1 ∷ 0 ∷ 0 ∷ 0 ∷ 0 ∷ 0 ∷ 0 ∷ []

abbrev point : ℕ → List ℕ
point n = 0 ∷ 7 ∷ 2 ∷ 0 ∷ n ∷ 0x12 ∷ 0x34 ∷ 0x56 ∷ 0x78 ∷ []

abbrev fault : ImageRule → ℕ → ℕ → Option ImageFault
fault rule number place = Some (record { rule = rule; place = Some (record { number = number; at = place }) })

abbrev place_of : Option ImageFault → RecordPlace
place_of (Some f) = unwrap_or f.place (record { number = 0; at = 0 })
place_of None = record { number = 0; at = 0 }

module _ (κs : Lfts 1) (x : Place) where
  -- no fault of an image that is not sound
  of_image_none : (image : List ℕ) → sound_image image ≡ false → RuledOut (of_image.Post κs) (lent x image, tt) None
  of_image_none image out s p = not_both out (no_fault_sound image (sym p))

  -- a fault of an image that is sound
  of_image_some : (image : List ℕ) (fault : ImageFault) → sound_image image ≡ true → RuledOut (of_image.Post κs) (lent x image, tt) (Some fault)
  of_image_some image fault sound s p = let e : Some fault ≡ None = p ∙ sound_no_fault image sound in never (cc)

  -- the point in front named, of two that do not rise
  of_image_front : (place : ℕ) → RuledOut (of_image.Post κs) (lent x (head ++ (point 7 ++ point 7)), tt) (fault OutOfOrder 2 place)
  unfolding the_image
  of_image_front place s p = omega (arith, ap (λ (f : Option ImageFault). (place_of f).number) p)

  -- the place behind the record at fault
  of_image_behind : RuledOut (of_image.Post κs) (lent x (head ++ (point 7 ++ point 7)), tt) (fault OutOfOrder 3 30)
  unfolding the_image
  of_image_behind s p = omega (arith, ap (λ (f : Option ImageFault). (place_of f).at) p)

  -- a point that is missing where the record of one is cut
  of_image_cut : (place : Option RecordPlace) → RuledOut (of_image.Post κs) (lent x (head ++ (0 ∷ 7 ∷ 2 ∷ 0 ∷ 1 ∷ [])), tt)
      (Some (record { rule = NoPoint; place = place }))
  unfolding the_image
  of_image_cut place s p = let e : Some NoPoint ≡ Some Cut = ap (option_map (λ (f : ImageFault). f.rule)) p in never (cc)
