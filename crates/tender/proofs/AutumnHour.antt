-- The statements about standard time (document 02, #102) hold of the definition.
-- By the order of labels by parts in standard time, put where labels are compared; the examples by computation. Assumes nothing.
use Prim.Native.Nat.{ℕ, ◌+◌, ◌/◌, ◌%◌}
use mathlib.Core.Bool.{Bool, true, not, ◌&&◌}
use mathlib.Core.List.{List, []}
use mathlib.Core.Path.{◌≡◌, refl, sym, ap, ap₂, ◌∙◌}
use native.Mathlib.Omega.{arith}
use borrow.Author.Tests.{eq-eqb}
use lib.Dec.{eqb}
use lib.Signed.{le_z}
use lib.ListN.{get_or}
use Rattle.octets.proofs.Choice.{refuted, not_both}
use Rattle.label.specs.declared.LabelA.{LabelA}
use Rattle.label.specs.Label.{date_time_a, valid_a, su, instant, before_a, before_b}
use Rattle.label.specs.Standard.{standard_parts_a}
use Rattle.label.proofs.Label.{from_summer, from_standard}
use Rattle.label.proofs.Instant.{a_at_most, a_at_once}
use Rattle.label.proofs.Order.{order_a, order_b, order_a_as_it_stands, order_b_as_it_stands, same_instant, same_standard, before_2000, in_1999, before_all}
use Rattle.records.specs.Records.{kind_of}
use Rattle.fields.specs.Parts.{point_of, record_address, reading_label, event_label}
use Rattle.fields.specs.Answers.{records_of}
use Rattle.image.specs.Image.{by_point, reading_before, event_before, in_order, sound_image}
use Rattle.image.proofs.Order.{any_two}
use Rattle.image.proofs.Soundness.{rules}
use Rattle.message.specs.declared.Request.{Request}
use Rattle.choice.specs.Choice.{in_span, chosen}
use Rattle.rules.specs.Decide.{first_after_last, span_of}
use Rattle.tender.specs.AutumnHour.{InStandardTime, EqualSu, HourTakenOff, SameInstant, FirstHour, NotJudged, OrderOfImage, from_to, Selection, ExamplesHold}
use Rattle.tender.proofs.Worked.{everything}

pub in_standard_time : InStandardTime
in_standard_time = record { labels_a = order_a; labels_b = order_b }

pub equal_su : EqualSu
equal_su = record { labels_a = order_a_as_it_stands; labels_b = order_b_as_it_stands }

pub hour_taken_off : HourTakenOff
unfolding standard_parts_a
hour_taken_off l l' v v' s s' =
    rw (from_summer l (date_time_a l) refl v (eq-eqb (su l) 1 s), from_standard l' (date_time_a l') refl v' (rw s')) (order_a l l' v v', order_a l' l v' v)

pub same_instants : SameInstant
same_instants = record { same_so = same_instant; so_same = same_standard }

pub first_hour : FirstHour
first_hour l v s minute p = (before_2000 l v s minute p, in_1999 l v s minute p, before_all l v s minute p)

pub not_judged : NotJudged
unfolding valid_a date_time_a
not_judged l hour h =
    let of_hour : (128 + hour) / 1 % 32 ≡ hour / 1 % 32 = omega arith in
    let of_reserved : (128 + hour) / 32 % 4 ≡ hour / 32 % 4 = omega arith in
    rw (of_hour, of_reserved)

-- two records of one kind, point and record address are in order by their labels
readings_by_labels : (r q : List ℕ) → kind_of r ≡ 4 → kind_of q ≡ 4 → point_of r ≡ point_of q → record_address r ≡ record_address q
    → in_order r q ≡ before_a (reading_label r) (reading_label q)
unfolding in_order reading_before by_point
readings_by_labels r q k l p a = rw (k, l, eq-eqb (point_of r) (point_of q) p, eq-eqb (record_address r) (record_address q) a)

events_by_labels : (r q : List ℕ) → kind_of r ≡ 5 → kind_of q ≡ 5 → point_of r ≡ point_of q → record_address r ≡ record_address q
    → in_order r q ≡ not (before_b (event_label q) (event_label r))
unfolding in_order event_before by_point
events_by_labels r q k l p a = rw (k, l, eq-eqb (point_of q) (point_of r) (sym p), eq-eqb (record_address q) (record_address r) (sym a))

pub order_of_image : OrderOfImage
order_of_image =
    record {
      readings = λ r q k l p a v v'. readings_by_labels r q k l p a ∙ order_a (reading_label r) (reading_label q) v v';
      events = λ r q k l p a v v'. events_by_labels r q k l p a ∙ ap not (order_b (event_label q) (event_label r) v' v);
      no_two = λ image i j h n k l p a e.
          sym (refuted (sound_image image) (λ sound.
          not_both
          (readings_by_labels (get_or (records_of image) i []) (get_or (records_of image) j []) k l p a ∙ a_at_once _ _ e)
          (any_two (records_of image) (rules image sound).in_order i j h n)));
    }

-- a record is chosen by its label's standard time
module _ (request : Request) (f : valid_a request.first ≡ true) (g : valid_a request.last ≡ true) where
  lies_in : (l : LabelA) → valid_a l ≡ true → (le_z (instant request.first) (instant l) && le_z (instant l) (instant request.last)) ≡ from_to request.first request.last l
  lies_in l v =
      ap₂ (λ (t u : Bool). t && u)
      (a_at_most request.first l ∙ ap not (order_a l request.first v f))
      (a_at_most l request.last ∙ ap not (order_a request.last l g v))

  chosen_so : (r : List ℕ) (l : LabelA) → valid_a l ≡ true
      → in_span (span_of request) r (instant l)
      ≡ (eqb (point_of r) request.header.point.0
      && (eqb (record_address r) request.header.record_address && from_to request.first request.last l))
  unfolding in_span span_of
  chosen_so r l v = rw (lies_in l v)

pub selection : Selection
unfolding chosen first_after_last
selection =
    record {
      readings = λ request r f g v. ap (λ (t : Bool). eqb (kind_of r) 4 && t) (chosen_so request f g r (reading_label r) v);
      events = λ request r f g v. ap (λ (t : Bool). eqb (kind_of r) 5 && t) (chosen_so request f g r (event_label r).a v);
      first_after = λ request f g. order_a request.last request.first g f;
    }

pub examples_hold : ExamplesHold
unfolding everything
examples_hold = refl
