-- The statements about objects (document 02, #101) hold of the definition.
-- A message is a header, objects of six octets one after the other, and a label; the rules see nothing of the objects but whether they are offered.
-- Assumes nothing.
use Rattle.std.specs.Prelude.{Option, Some, None}
use Prim.Native.Nat.{ℕ, ◌+◌, ◌-◌, ◌≤◌, ◌<◌}
use mathlib.Core.Bool.{Bool, true, false, not, ◌||◌}
use mathlib.Core.List.{List, [], ◌∷◌}
use mathlib.Core.Path.{◌≡◌, refl, ap}
use native.Mathlib.Omega.{arith}
use borrow.Author.Tests.{eqb-true}
use lib.Dec.{eqb}
use lib.ListN.{length, get_or, take, drop}
use lib.Seq.{drop-cons}
use Rattle.octets.specs.Numbers.{low_octets}
use Rattle.octets.proofs.Choice.{flipped}
use Rattle.octets.proofs.Keeping.{octets_back}
use Rattle.octets.proofs.Numbers.{Octets, octets_take, octets_drop}
use Rattle.records.specs.Records.{size_of, record_at}
use Rattle.fields.specs.Answers.{records_of}
use Rattle.label.specs.Label.{label_a_at}
use Rattle.message.specs.declared.Header.{Header}
use Rattle.message.specs.declared.ObjectRange.{ObjectRange}
use Rattle.message.specs.declared.Request.{Request}
use Rattle.message.specs.Table.{table, row_in}
use Rattle.message.specs.Headers.{header_of, header_octets}
use Rattle.message.specs.Requests.{objects_offered, objects_many, asks_readings, labels_from, request_of}
use Rattle.message.specs.Calls.{Offered}
use Rattle.message.proofs.Requests.{so_offered}
use Rattle.choice.specs.declared.Span.{Span}
use Rattle.choice.specs.declared.Query.{Query}
use Rattle.choice.specs.declared.Query.TheVariants.{Reading}
use Rattle.choice.specs.Choice.{choice}
use Rattle.choice.specs.Calls.{places_from, nth_place}
use Rattle.choice.proofs.Chosen.{number_all}
use Rattle.choice.proofs.Laws.{nothing_nth, found_there}
use Rattle.rules.specs.declared.Session.{Session}
use Rattle.rules.specs.Decide.{shaped, span_of, labels_valid, first_after_last, by_type, decide}
use Rattle.rules.proofs.Decided.{objects_only, objects_refused}
use Rattle.data.specs.Calls.{object_part}
use Rattle.data.specs.Messages.{reply_header, object_octets, reading_reply}
use Rattle.data.specs.Portions.{portion, reading_portion, next_reading}
use Rattle.data.proofs.Messages.{object_number, object_value, object_quality, reading_length, object_there, label_there}
use Rattle.waiting.specs.NextReply.{data_from}
use Rattle.why.proofs.Stated.{objects_told}
use Rattle.tender.specs.Rules.{request_in}
use Rattle.tender.specs.Ranges.{many_in, number_of, ObjectOf, Stands, Carries, ObjectsCarried, OfTheKept, Seventeen, asking, ChosenWhatever, RangesWritten}
use Rattle.tender.proofs.Worked.{everything}
use Rattle.message.specs.declared.Row.{Row}

-- a record of an image has octets of the image, and so has a chosen one
octets_record : (image : List ℕ) (at : ℕ) → Octets image → Octets (record_at image at)
unfolding record_at
octets_record image at octets = octets_take (size_of (drop at image)) (drop at image) (octets_drop at image octets)

octets_chosen : (query : Query) (image : List ℕ) (n : ℕ) → Octets image → n < length (choice query image) → Octets (get_or (choice query image) n [])
unfolding choice records_of
octets_chosen query image n octets less = by_found (nth_place n (places_from query image 1)) refl
  where
    by_found : (found : Option ℕ) → nth_place n (places_from query image 1) ≡ found → Octets (get_or (choice query image) n [])
    by_found (Some at) e = rw (found_there query image 1 n at e).nth_chosen (octets_record image at octets)
    by_found None e = absurd (omega (arith, less, nothing_nth n (places_from query image 1) e, number_all query image))

-- the octets of an object are its own
object_of : (n : ℕ) (r : List ℕ) → Octets r → ObjectOf n r (object_octets n r)
object_of n r o = record { number = object_number n r; value = object_value n r o; quality = object_quality n r }

-- a reading's message carries the objects
module _ (type : ℕ) (span : Span) (objects : ObjectRange) (offered : Offered objects) (r : List ℕ) (o : Octets r) where
  message : List ℕ
  message = reading_reply type span.point span.record_address objects r

  there : (i : ℕ) → i < many_in objects → object_part i message ≡ object_octets (objects.first + i) r
  unfolding message objects_many
  there = object_there type span.point span.record_address objects r

  its_own : (i : ℕ) → i < many_in objects → ObjectOf (objects.first + i) r (object_part i message)
  its_own i h = rw (there i h) (object_of (objects.first + i) r o)

  numbered : (i : ℕ) → i < many_in objects → number_of i message ≡ objects.first + i
  numbered i h = (its_own i h).number

  stands : (n : ℕ) → objects.first ≤ n → n ≤ objects.last → Stands n (many_in objects) r message
  stands n least most =
      let place : ℕ = n - objects.first in
      let there : place < many_in objects = omega (arith, least, most, offered.rising) in
      let this : objects.first + place ≡ n = omega (arith, least) in
      record { place = place; there = there; its_own = rw this at (its_own place there) }

  headed : take 6 message
      ≡ header_octets (record { type_id = type; structure = many_in objects; cause = 5; point = span.point; record_address = span.record_address })
  unfolding message reading_reply reply_header objects_many header_octets low_octets
  headed = refl

  carried : Carries type span objects r message
  unfolding message objects_many
  carried =
      let long = reading_length type span.point span.record_address objects r in
      record {
        headed = headed;
        long = long;
        at_most = omega (arith, long, offered.from_one, offered.rising, offered.to_six);
        none_left_out = stands;
        no_other = λ i h. (omega (arith, numbered i h), omega (arith, h, numbered i h, offered.rising));
        none_twice = λ i j h k e. omega (arith, e, numbered i h, numbered j k);
        labelled = label_there type span.point span.record_address objects r;
      }

-- the next reading, where there is one
module _ (image : List ℕ) (span : Span) (objects : ObjectRange) (offered : Offered objects) (type before : ℕ) (less : before < length (choice (Reading span) image)) where
  next_there : next_reading type span objects image before
      ≡ portion (reading_reply type span.point span.record_address objects (get_or (choice (Reading span) image) before [])) 1
  unfolding next_reading reading_portion
  next_there = rw (so_offered objects offered, drop-cons (choice (Reading span) image) before [] less)

pub objects_carried : ObjectsCarried
unfolding portion message
objects_carried image octets span objects offered type before less =
    let r : List ℕ = get_or (choice (Reading span) image) before [] in
    rw (next_there image span objects offered type before less, octets_back (reading_reply type span.point span.record_address objects r))
    (refl, carried type span objects offered r (octets_chosen (Reading span) image before octets less))

pub seventeen : Seventeen
seventeen =
    record {
      its_cause = refl;
      its_pn = refl;
      only_so = λ session image clock r e.
          let refused = objects_only session image clock r e in
          (refused.0, (objects_told r.objects).yes (ap not refused.1));
      so = λ session image clock r asks out. objects_refused session image clock r asks (flipped _ _ ((objects_told r.objects).only out));
    }

-- a type that asks for readings is no other one
no_other_type : (type k : ℕ) → asks_readings type ≡ true → eqb 122 k ≡ false → eqb 123 k ≡ false → eqb type k ≡ false
unfolding asks_readings
no_other_type type k asks totals periods = by_either (eqb type 122) refl asks
  where
    by_either : (t : Bool) → eqb type 122 ≡ t → (t || eqb type 123) ≡ true → eqb type k ≡ false
    by_either true e so = rw (eqb-true type 122 e) totals
    by_either false e so = rw (eqb-true type 123 so) periods

-- the shape is that of header and octets
same_shape : (found : Option Row) (r r' : Request) → r.header ≡ r'.header → r.octets ≡ r'.octets → shaped found r ≡ shaped found r'
same_shape (Some w) r r' header octets = rw (header, octets)
same_shape None r r' header octets = refl

pub of_the_kept : OfTheKept
unfolding data_from request_of
of_the_kept request image before asks = rw (no_other_type (request_in request).header.type_id 102 asks refl refl)

-- two requests for readings with the same header, as many octets and the same labels: no rule of their type but that of the objects looks at anything else
same_rule : (session : Session) (image clock : List ℕ) (r r' : Request) → asks_readings r'.header.type_id ≡ true → r.header ≡ r'.header
    → r.octets ≡ r'.octets → r.first ≡ r'.first → r.last ≡ r'.last → objects_offered r.objects ≡ true → objects_offered r'.objects ≡ true
    → decide session image clock r ≡ decide session image clock r'
unfolding decide by_type span_of labels_valid first_after_last
same_rule session image clock r r' asks header octets first last o o' =
    let type = r'.header.type_id in
    rw (same_shape (row_in table r.header.type_id) r r' header octets, header, first, last, o, o', no_other_type type 181 asks refl refl, no_other_type type 183 asks refl refl)

-- two that differ in their objects only
module _ (header : Header) (a b : ObjectRange) (labels : List ℕ) (asks : asks_readings header.type_id ≡ true) where
  same_choice : (image : List ℕ)
      → choice (Reading (span_of (request_of (asking header a labels)))) image ≡ choice (Reading (span_of (request_of (asking header b labels)))) image
  unfolding span_of request_of header_of header_octets low_octets labels_from label_a_at
  same_choice image = rw asks

  rule_of_both : objects_offered a ≡ true → objects_offered b ≡ true → (session : Session) (image clock : List ℕ)
      → decide session image clock (request_of (asking header a labels)) ≡ decide session image clock (request_of (asking header b labels))
  unfolding request_of header_of header_octets low_octets labels_from label_a_at
  rule_of_both ta tb session image clock =
      same_rule session image clock (request_of (asking header a labels)) (request_of (asking header b labels)) asks refl refl (rw asks) (rw asks) ta tb

-- as many are given
same_many : (type : ℕ) (span : Span) (a b : ObjectRange) (rs : List (List ℕ)) → (reading_portion type span a rs).many ≡ (reading_portion type span b rs).many
unfolding reading_portion portion
same_many type span a b [] = refl
same_many type span a b (r ∷ rs) = refl

pub chosen_whatever : ChosenWhatever
unfolding next_reading
chosen_whatever =
    record {
      same_choice = λ header a b labels image asks. same_choice header a b labels asks image;
      same_rule = λ header a b labels asks ta tb. rule_of_both header a b labels asks (so_offered a ta) (so_offered b tb);
      same_number = λ type span a b image before ta tb.
          rw (so_offered a ta, so_offered b tb) (same_many type span a b (drop before (choice (Reading span) image)));
    }

-- the request's cases, by computation
pub ranges_written : RangesWritten
unfolding everything
ranges_written = (refl, refl)
