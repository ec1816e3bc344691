-- Messages as the code writes them, part after part: header, objects, label; and an object's and an event's octets as they are answered.
-- By the law of adding octets to a message. Assumes nothing.
use Rattle.std.specs.Prelude.{Option, Some, None}
use Prim.Native.Nat.{ℕ, zero, suc, ◌+◌, ◌-◌, ◌≤◌}
use mathlib.Core.List.{List, [], ◌∷◌, ◌++◌, append_assoc, append-nil}
use mathlib.Core.Path.{◌≡◌, ap, ap₂, ◌∙◌}
use native.Mathlib.Omega.{arith}
use borrow.Author.Tests.{le-leb}
use lib.ListN.{length, length-append}
use Rattle.octets.specs.Numbers.{low_octets}
use Rattle.octets.specs.Values.{unsigned}
use Rattle.address.specs.declared.PointAddress.{PointAddress}
use Rattle.records.specs.Records.{record_at, kind_at}
use Rattle.records.proofs.Records.{kind_facts}
use Rattle.fields.specs.declared.Key.{Key}
use Rattle.fields.specs.declared.Value.{Value}
use Rattle.fields.specs.declared.Event.{Event}
use Rattle.fields.specs.Parts.{reading_label, value_of, quality_of, spa_of, spq_of, event_label}
use Rattle.fields.specs.working.Key.{key_at}
use Rattle.fields.specs.Calls.{value_found, event_found}
use Rattle.fields.proofs.Parts.{key_4, key_whole}
use Rattle.octets.specs.declared.Kept.{Kept}
use Rattle.octets.specs.Keeping.{kept_of}
use Rattle.octets.specs.Calls.{added}
use Rattle.octets.proofs.Keeping.{added_more}
use Rattle.label.specs.Label.{label_a_octets, label_b_octets}
use Rattle.message.specs.declared.ObjectRange.{ObjectRange}
use Rattle.message.specs.Calls.{Offered}
use Rattle.message.specs.Requests.{objects_many}
use Rattle.data.specs.Messages.{reply_header, object_octets, objects_octets, event_octets}
use Rattle.data.proofs.Messages.{header_length, label_length, object_length, objects_length}

-- more behind, as it was answered; and behind two parts
pub with_more : {m r : Kept} {part : List ℕ} (xs ys : List ℕ) → m ≡ kept_of xs → r ≡ added m part → part ≡ ys → length xs + length ys ≤ 252
    → r ≡ kept_of (xs ++ ys)
with_more xs ys e f p fits = f ∙ ap₂ added e p ∙ added_more xs ys fits

with_third : {m r : Kept} {part : List ℕ} (xs ys zs : List ℕ) → m ≡ kept_of (xs ++ ys) → r ≡ added m part → part ≡ zs
    → length xs + length ys + length zs ≤ 252 → r ≡ kept_of (xs ++ (ys ++ zs))
with_third xs ys zs e f p fits = rw (← (append_assoc xs ys zs)) (with_more (xs ++ ys) zs e f p (rw length-append fits))

-- a header, and what stands behind it
module _ (type count : ℕ) (point : PointAddress) (address : ℕ) where
  pub header_only : {m r : Kept} {part : List ℕ} → m ≡ kept_of [] → r ≡ added m part → part ≡ reply_header type count point address
      → r ≡ kept_of (reply_header type count point address)
  header_only e f p = with_more [] (reply_header type count point address) e f p (omega (arith, header_length type count point address))

  pub header_and : (xs : List ℕ) {m r : Kept} {part : List ℕ} → m ≡ kept_of (reply_header type count point address) → r ≡ added m part → part ≡ xs
      → length xs ≤ 246 → r ≡ kept_of (reply_header type count point address ++ xs)
  header_and xs e f p fits = with_more (reply_header type count point address) xs e f p (omega (arith, header_length type count point address))

  pub header_and_two : (xs ys : List ℕ) {m n r : Kept} {part top : List ℕ} → m ≡ kept_of (reply_header type count point address)
      → n ≡ added m part → part ≡ xs → r ≡ added n top → top ≡ ys → length xs + length ys ≤ 246
      → r ≡ kept_of (reply_header type count point address ++ (xs ++ ys))
  header_and_two xs ys e f p g q fits =
      with_third (reply_header type count point address) xs ys (header_and xs e f p (omega arith)) g q (omega (arith, header_length type count point address))

-- one more object
pub one_more_object : (object many : ℕ) (r : List ℕ) → objects_octets object (suc many) r ≡ objects_octets object many r ++ object_octets (object + many) r
unfolding objects_octets
one_more_object object zero r = let here : object + 0 ≡ object = omega arith in rw here (append-nil (object_octets object r))
one_more_object object (suc many) r =
    let further : object + suc many ≡ suc object + many = omega arith in
    rw (further, append_assoc (object_octets object r) (objects_octets (suc object) many r)) (ap (object_octets object r ++◌) (one_more_object (suc object) many r))

-- the objects that are asked for, behind a header of six octets: none yet, one more, and the label behind the last
module _ (objects : ObjectRange) (o : Offered objects) (xs r : List ℕ) (six : length xs ≡ 6) where
  -- those from the first on, up to the one that comes next
  abbrev pub objects_before : ℕ → List ℕ
  objects_before next = objects_octets objects.first (next - objects.first) r

  pub no_object_yet : {m : Kept} → m ≡ kept_of xs → m ≡ kept_of (xs ++ objects_before objects.first)
  unfolding objects_octets
  no_object_yet e =
      let none : objects.first - objects.first ≡ 0 = omega arith in
      rw (none, append-nil) e

  pub with_object : (object : ℕ) {m m' : Kept} {part : List ℕ} → objects.first ≤ object → object ≤ objects.last → m ≡ kept_of (xs ++ objects_before object)
      → m' ≡ added m part → part ≡ object_octets object r → m' ≡ kept_of (xs ++ objects_before (object + 1))
  with_object object least most e f p =
      let before : ℕ = object - objects.first in
      let this : objects.first + before ≡ object = omega arith in
      let passed : object + 1 - objects.first ≡ suc before = omega arith in
      rw (passed, one_more_object objects.first before r, this)
      (with_third xs (objects_before object) (object_octets object r) e f p
      (omega (arith, six, o.from_one, o.to_six, objects_length objects.first before r, object_length object r)))

  pub with_label : (object : ℕ) {m m' : Kept} {part : List ℕ} → object ≡ objects.last + 1 → m ≡ kept_of (xs ++ objects_before object)
      → m' ≡ added m part → part ≡ label_a_octets (reading_label r)
      → m' ≡ kept_of (xs ++ (objects_octets objects.first (objects_many objects) r ++ label_a_octets (reading_label r)))
  unfolding objects_many
  with_label object behind e f p =
      let many : ℕ = objects.last - objects.first + 1 in
      let passed : object - objects.first ≡ many = omega (arith, behind, o.rising) in
      with_third xs (objects_octets objects.first many r) (label_a_octets (reading_label r)) (rw passed at e) f p
      (omega (arith, six, o.from_one, o.to_six, objects_length objects.first many r, label_length (reading_label r)))

-- the label that stands behind them is that of the reading's key
pub label_of_key : (image : List ℕ) (at : ℕ) {k : Key} {octets : List ℕ} → kind_at image at ≡ 4 → k ≡ key_at image at → octets ≡ label_a_octets k.label.a
    → octets ≡ label_a_octets (reading_label (record_at image at))
label_of_key image at kind e f =
    let o = kind_facts image at 4 kind (omega arith) in
    f ∙ ap (λ (k : Key). label_a_octets k.label.a) (e ∙ key_whole image at o.whole_there ∙ key_4 (record_at image at) o.of_kind)

-- an object and an event as they are answered at a place of their kind
module _ (object : ℕ) (image : List ℕ) (at : ℕ) (k : kind_at image at ≡ 4) (least : 1 ≤ object) (most : object ≤ 6) {answer : Option Value} (e : answer ≡ value_found object image at) where
  value_there : answer ≡ Some (record { value = value_of object (record_at image at); quality = quality_of object (record_at image at) })
  unfolding value_found
  value_there = e ∙ rw (k, le-leb 1 object least, le-leb object 6 most)

  pub value_not_missing : answer ≡ None → ⊥
  value_not_missing f = let z : ◌≡◌ {A = ℕ} 0 1 = cc value_there in omega arith

  pub object_of_value : {v : Value} → answer ≡ Some v → object ∷ (low_octets 4 (unsigned v.value) ++ (v.quality ∷ [])) ≡ object_octets object (record_at image at)
  unfolding object_octets
  object_of_value {v} f =
      let same : v ≡ record { value = value_of object (record_at image at); quality = quality_of object (record_at image at) } = cc value_there in
      rw same

module _ (image : List ℕ) (at : ℕ) (k : kind_at image at ≡ 5) {answer : Option Event} (e : answer ≡ event_found image at) where
  event_there : answer ≡ Some (record { spa = spa_of (record_at image at); spq = spq_of (record_at image at); label = event_label (record_at image at) })
  unfolding event_found
  event_there = e ∙ rw k

  pub event_not_missing : answer ≡ None → ⊥
  event_not_missing f = let z : ◌≡◌ {A = ℕ} 0 1 = cc event_there in omega arith

  pub octets_of_event : {v : Event} → answer ≡ Some v → v.spa ∷ v.spq ∷ label_b_octets v.label ≡ event_octets (record_at image at)
  unfolding event_octets
  octets_of_event {v} f =
      let same : v ≡ record { spa = spa_of (record_at image at); spq = spq_of (record_at image at); label = event_label (record_at image at) } = cc event_there in
      rw same
