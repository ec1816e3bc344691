-- The rule that is named holds and no earlier one does, each as document 01 words it; and the first to hold is named.
-- Each test of the card's definition tells whether its rule holds (`told`), made of what its parts tell; the rest is the law of the first that applies. Assumes nothing.
use Rattle.std.specs.Prelude.{Option, Some, None, Ok}
use Prim.Native.Nat.{ℕ, ◌+◌, ◌≤◌, ◌<◌}
use mathlib.Core.Bool.{Bool, true, false, not, ◌&&◌, ◌||◌, false≢true}
use mathlib.Core.List.{List, [], ◌∷◌}
use mathlib.Core.Logic.{◌⊎◌, inl, inr}
use mathlib.Core.Path.{◌≡◌, refl, sym, ap, ◌∙◌}
use native.Mathlib.Omega.{arith}
use lib.Dec.{eqb, leb, ltb}
use lib.ListN.{length}
use borrow.Author.Tests.{eqb-true, eqb-false, leb-false}
use Rattle.octets.specs.Bits.{bits◌to◌of◌}
use Rattle.octets.specs.Conditions.{holds}
use Rattle.octets.proofs.Choice.{refuted, not_both, either}
use Rattle.octets.proofs.Conditions.{and_left, and_right}
use Rattle.address.specs.declared.PointAddress.{PointAddress}
use Rattle.label.specs.Label.{valid_a, valid_b, label_a_at, label_b_at, before_a}
use Rattle.records.specs.Said.{how_many}
use Rattle.fields.specs.Parts.{is_kind, is_point}
use Rattle.fields.specs.Answers.{records_of}
use Rattle.image.specs.Image.{sound_image, event_record}
use Rattle.choice.specs.declared.Span.{Span}
use Rattle.choice.specs.declared.Query.{Query}
use Rattle.choice.specs.declared.Query.TheVariants.{Reading, Event}
use Rattle.choice.specs.Choice.{choice}
use Rattle.message.specs.declared.Addresses.{Addresses}
use Rattle.message.specs.declared.Addresses.TheVariants.{Only, Events}
use Rattle.message.specs.declared.ObjectRange.{ObjectRange}
use Rattle.message.specs.declared.Request.{Request}
use Rattle.message.specs.declared.Row.{Row}
use Rattle.message.specs.Headers.{t_of, pn_of, header_of}
use Rattle.message.specs.Requests.{asks_readings, objects_offered, labels_from, request_of}
use Rattle.message.specs.Table.{table, row_in}
use Rattle.message.proofs.Requests.{offered_so}
use Rattle.rules.specs.declared.Session.{Session}
use Rattle.rules.specs.declared.Session.TheVariants.{Closed, Open}
use Rattle.rules.specs.declared.Rule.{Rule}
use Rattle.rules.specs.declared.Rule.TheVariants.{Marked, UnknownType, NoSession, UnknownPoint, OtherSession, Shape, Address, Objects, ReadingLabel, ReadingRange, NoReading, EventLabel, EventRange, NoEvent, ClockUnset, NoDates, TimeLabel, WrongPassword, Accepted}
use Rattle.rules.specs.Decide.{listed, is_closed, is_other, shaped, addressed_as, addressed, labels_valid, first_after_last, span_of, none_in, decide}
use Rattle.rules.proofs.Decided.{applies, all_rules, none_before, holds_of}
use Rattle.why.specs.Naming.{place_of}
use Rattle.why.specs.InImage.{is_opened_by}
use Rattle.why.specs.Stated.{Some as SomeOf, type_in, structure_in, cause_in, point_in, record_in, ShapeAs, RecordAs, AsksReadings, ObjectsOut, LabelNotValid, FirstAfterLast, span_in, password_in, Holds, FirstToHold, NamedHolds, FirstIsNamed}
use Rattle.why.proofs.Naming.{in_places, declared_place, places_differ}
use Rattle.why.proofs.Asking.{named_so, named_only}
use Rattle.why.proofs.InImage.{point_there, password_there, dates_there}
use Rattle.why.proofs.Telling.{Tells, by_same, in_words, so, fails, negated, and_then, and, or, alone, is, at_most, none, bit_set, one_fails, empty}

-- of rows with different types: whether one has a type, and whether the one of that type is as Q says
abbrev apart : List Row → Bool
apart [] = true
apart (r ∷ rs) = not (listed (row_in rs r.type_id)) && apart rs

some_so : {P Q : Row → Type 0} → ((w : Row) → P w → Q w) → (rows : List Row) → SomeOf P rows → SomeOf Q rows
some_so f [] h = h
some_so f (w ∷ ws) (inl p) = inl (f w p)
some_so f (w ∷ ws) (inr later) = inr (some_so f ws later)

-- the first is not it
later_one : {P Q : Type 0} → (P → ⊥) → P ⊎ Q → Q
later_one f (inl p) = absurd (f p)
later_one f (inr q) = q

module _ (type : ℕ) where
  listed_told : (rows : List Row) → Tells (SomeOf (λ (w : Row). type ≡ w.type_id) rows) (listed (row_in rows type))
  unfolding row_in
  listed_told [] = record { yes = λ e. absurd (false≢true e); only = λ h. absurd h }
  listed_told (r ∷ rs) =
      either (λ (found : Option Row). Tells (SomeOf (λ (w : Row). type ≡ w.type_id) (r ∷ rs)) (listed found)) (eqb r.type_id type)
      (λ e. record { yes = λ t. inl (sym (eqb-true r.type_id type e)); only = λ one. refl })
      (λ e. in_words inr (later_one (λ f. eqb-false r.type_id type e (sym f))) (listed_told rs))

  module _ (Q : Row → Type 0) (g : Option Row → Bool) (nothing : g None ≡ false) (each : (w : Row) → Tells (Q w) (g (Some w))) where
    abbrev OfType : Row → Type 0
    OfType w = (type ≡ w.type_id) × Q w

    found_told : (rows : List Row) → apart rows ≡ true → Tells (SomeOf OfType rows) (g (row_in rows type))
    unfolding row_in
    found_told [] a = record { yes = λ e. absurd (not_both nothing e); only = λ h. absurd h }
    found_told (r ∷ rs) a =
        either (λ (found : Option Row). Tells (SomeOf OfType (r ∷ rs)) (g found)) (eqb r.type_id type)
        (λ e. in_words (λ q. inl (sym (eqb-true r.type_id type e), q)) (here (eqb-true r.type_id type e)) (each r))
        (λ e. in_words inr (later_one (λ o. eqb-false r.type_id type e (sym o.0))) (found_told rs (and_right (not (listed (row_in rs r.type_id))) _ a)))
      where
        -- no later one has that type
        here : r.type_id ≡ type → SomeOf OfType (r ∷ rs) → Q r
        here e (inl o) = o.1
        here e (inr later) =
            absurd
            ((negated (listed (row_in rs type)) (listed_told rs)).yes
            (ap (λ (n : ℕ). not (listed (row_in rs n))) (sym e) ∙ and_left (not (listed (row_in rs r.type_id))) _ a)
            (some_so (λ (w : Row) o. o.0) rs later))

-- 128 or 129, by its bounds
two_told : (n : ℕ) → Tells ((n ≡ 128) ⊎ (n ≡ 129)) (leb 128 n && leb n 129)
two_told n = in_words (λ h. choose h (eqb n 128) refl) bounds (and (leb 128 n) (at_most 128 n) (at_most n 129))
  where
    choose : (128 ≤ n) × (n ≤ 129) → (t : Bool) → eqb n 128 ≡ t → (n ≡ 128) ⊎ (n ≡ 129)
    choose h true e = inl (eqb-true n 128 e)
    choose h false e =
        let other : n ≡ 128 → ⊥ = eqb-false n 128 e in
        inr (omega (arith, h.0, h.1, other))

    bounds : (n ≡ 128) ⊎ (n ≡ 129) → (128 ≤ n) × (n ≤ 129)
    bounds (inl e) = (omega (arith, e), omega (arith, e))
    bounds (inr e) = (omega (arith, e), omega (arith, e))

-- a row's record addresses, and objects that are not offered
record_told : (m : List ℕ) (addresses : Addresses) → Tells (RecordAs m addresses) (addressed_as addresses (record_in m))
unfolding event_record
record_told m (Only a) = is (record_in m) a
record_told m Events =
    let n = record_in m in
    or (leb 52 n && leb n 55) (and (leb 52 n) (at_most 52 n) (at_most n 55)) (two_told n)

pub objects_told : (objects : ObjectRange) → Tells (ObjectsOut objects.first objects.last) (not (objects_offered objects))
unfolding objects_offered holds
objects_told objects = record { yes = by_tests (leb 1 first) (leb first last) (leb last 6) refl refl refl; only = λ one. ap not (sym (refuted _ (within one))) }
  where
    first : ℕ
    first = objects.first

    last : ℕ
    last = objects.last

    by_tests : (a b c : Bool) → leb 1 first ≡ a → leb first last ≡ b → leb last 6 ≡ c → not (holds (a ∷ b ∷ c ∷ [])) ≡ true → ObjectsOut first last
    by_tests false b c zero r o e = inl (omega (arith, leb-false 1 first zero))
    by_tests true false c z falling o e = inr (inr (leb-false first last falling))
    by_tests true true false z r over e = inr (inl (leb-false last 6 over))
    by_tests true true true z r o e = absurd (false≢true e)

    within : ObjectsOut first last → objects_offered objects ≡ true → ⊥
    within (inl zero) e = omega (arith, zero, (offered_so objects e).from_one)
    within (inr (inl over)) e = omega (arith, over, (offered_so objects e).to_six)
    within (inr (inr falling)) e = omega (arith, falling, (offered_so objects e).rising)

-- the sessions
closed_told : (session : Session) → Tells (session ≡ Closed) (is_closed session)
closed_told Closed = record { yes = λ e. refl; only = λ e. refl }
closed_told (Open p) = record { yes = λ e. absurd (false≢true e); only = λ e. ap is_closed e }

other_told : (session : Session) (point : PointAddress)
    → Tells ((session ≡ Closed → ⊥) × (session ≡ Open point → ⊥)) (is_other session point)
other_told Closed point = record { yes = λ e. absurd (false≢true e); only = λ neither. absurd (neither.0 refl) }
other_told (Open p) point =
    in_words (λ (other : p.0 ≡ point.0 → ⊥). (λ e. false≢true (ap is_closed e), λ e. other (ap address_in e)))
    (λ neither e. neither.1 (ap (λ (n : ℕ). Open (record { 0 = n })) e))
    (negated (eqb p.0 point.0) (is p.0 point.0))
  where
    address_in : Session → ℕ
    address_in Closed = 0
    address_in (Open q) = q.0

-- a message
module _ (m : List ℕ) where
  abbrev r : Request
  r = request_of m

  asks_told : Tells (AsksReadings m) (asks_readings (type_in m))
  unfolding asks_readings
  asks_told = or (eqb (type_in m) 122) (is (type_in m) 122) (is (type_in m) 123)

  -- its labels, where they stand from an octet on
  module _ (at : ℕ) (from : labels_from (type_in m) ≡ at) where
    labels_told : Tells (LabelNotValid m at) (not (labels_valid r))
    unfolding labels_valid request_of header_of
    labels_told = rw from (one_fails (valid_a (label_a_at m at)) (valid_a (label_a_at m (at + 5))))

    range_told : Tells (FirstAfterLast m at) (first_after_last r)
    unfolding first_after_last request_of header_of
    range_told = rw from (so (before_a (label_a_at m (at + 5)) (label_a_at m at)))

    chosen_told : (query : Span → Query) (image : List ℕ) → Tells (choice (query (span_in m at)) image ≡ []) (none_in (query (span_of r)) image)
    unfolding none_in span_of request_of header_of
    chosen_told query image = rw from (empty (choice (query (span_in m at)) image))

  -- from octet 8 on in a request for readings, from octet 6 on in any other
  from_8 : asks_readings (type_in m) ≡ true → labels_from (type_in m) ≡ 8
  unfolding labels_from
  from_8 e = rw e

  from_6 : (type : ℕ) → eqb type 122 ≡ false → eqb type 123 ≡ false → eqb (type_in m) type ≡ true → labels_from (type_in m) ≡ 6
  unfolding labels_from asks_readings
  from_6 type e f t = rw (eqb-true (type_in m) type t, e, f)

-- no two rows of the table have the same type
apart_table : apart table ≡ true
unfolding table row_in
apart_table = refl

-- the rules, one by one: a test that gives a rule tells whether it holds
module _ (session : Session) (image clock m : List ℕ) (sound : sound_image image ≡ true) where
  abbrev type : ℕ
  type = type_in m

  abbrev point : PointAddress
  point = record { 0 = point_in m }

  -- of no record that a test holds of
  none_there : {t : Bool} (f : List ℕ → Bool) → t ≡ ltb 0 (how_many f (records_of image)) → Tells (how_many f (records_of image) ≡ 0) (not t)
  none_there f e = by_same (ap not (sym e)) (none (how_many f (records_of image)))

  abbrev pub TellsRule : Rule → Type 0
  TellsRule rule = Tells (Holds session image clock m rule) (applies rule (all_rules session image clock (request_of m)))

  pub rule_told : (rule : Rule) → TellsRule rule
  unfolding request_of header_of
  rule_told Marked =
      alone
      (or (not (eqb (t_of (cause_in m)) 0)) (bit_set (t_of (cause_in m)) (omega arith))
      (bit_set (pn_of (cause_in m)) (omega arith)))
  rule_told UnknownType = alone (negated (listed (row_in table type)) (listed_told type table))
  rule_told NoSession = alone (and (is_closed session) (closed_told session) (negated (eqb type 183) (is type 183)))
  rule_told UnknownPoint = alone (none_there (is_point (point_in m)) (point_there image sound point))
  rule_told OtherSession = alone (and (is_other session point) (other_told session point) (negated (eqb type 183) (is type 183)))
  rule_told Shape =
      alone
      (negated (shaped (row_in table type) (request_of m))
      (found_told type (ShapeAs m) (λ (found : Option Row). shaped found (request_of m)) refl
      (λ (w : Row). and (eqb (structure_in m) w.count) (is (structure_in m) w.count)
      (and (eqb (length m) w.octets) (is (length m) w.octets) (is (bits 1 to 6 of (cause_in m)) w.cause)))
      table apart_table))
  rule_told Address =
      alone
      (negated (addressed (row_in table type) (record_in m))
      (found_told type (λ (w : Row). RecordAs m w.addresses) (λ (found : Option Row). addressed found (record_in m)) refl
      (λ (w : Row). record_told m w.addresses) table apart_table))
  rule_told Objects = alone (and (asks_readings type) (asks_told m) (objects_told (request_of m).objects))
  rule_told ReadingLabel = alone (and_then (asks_readings type) (asks_told m) (λ asks. labels_told m 8 (from_8 m asks)))
  rule_told ReadingRange = alone (and_then (asks_readings type) (asks_told m) (λ asks. range_told m 8 (from_8 m asks)))
  rule_told NoReading = alone (and_then (asks_readings type) (asks_told m) (λ asks. chosen_told m 8 (from_8 m asks) Reading image))
  rule_told EventLabel = alone (and_then (eqb type 102) (is type 102) (λ e. labels_told m 6 (from_6 m 102 refl refl e)))
  rule_told EventRange = alone (and_then (eqb type 102) (is type 102) (λ e. range_told m 6 (from_6 m 102 refl refl e)))
  rule_told NoEvent = alone (and_then (eqb type 102) (is type 102) (λ e. chosen_told m 6 (from_6 m 102 refl refl e) Event image))
  rule_told ClockUnset = alone (and (eqb type 103) (is type 103) (fails (valid_b (label_b_at clock 0))))
  rule_told NoDates =
      alone
      (and (eqb type 185 || eqb type 186) (or (eqb type 185) (is type 185) (is type 186)) (none_there (is_kind 3) (dates_there image sound)))
  rule_told TimeLabel =
      or (eqb type 181 && not (valid_b (label_b_at m 6))) (and (eqb type 181) (is type 181) (fails (valid_b (label_b_at m 6))))
      (alone (and_then (eqb type 186) (is type 186) (λ e. labels_told m 6 (from_6 m 186 refl refl e))))
  rule_told WrongPassword =
      alone (and (eqb type 183) (is type 183) (none_there (is_opened_by (point_in m) (password_in m)) (password_there image sound point (password_in m))))
  rule_told Accepted = record { yes = λ e. absurd (false≢true e); only = λ h. absurd h }

-- every rule but that a message is accepted stands before it
before_accepted : (rule : Rule) → (rule ≡ Accepted → ⊥) → place_of rule < 19
before_accepted rule other =
    let last : place_of rule ≡ 19 → ⊥ = λ e. other (places_differ e) in
    omega (arith, (in_places rule).1, last)

pub named_holds : NamedHolds
named_holds session image clock m rule e =
    let named = named_only session image clock m rule e in
    let decided = named.decided in
    record {
      it_holds = λ other.
          let stands = before_accepted rule other in
          (rule_told session image clock m named.sound rule).yes
          (holds_of session image clock (request_of m) rule (omega (arith, stands, declared_place rule)) decided);
      no_earlier = λ earlier before h.
          not_both
          (none_before session image clock (request_of m) earlier
          (omega (arith, before, declared_place earlier, declared_place rule, ap place_of decided, declared_place (decide session image clock (request_of m)))))
          ((rule_told session image clock m named.sound earlier).only h);
    }

-- of two rules that are the first to hold, neither stands before the other
module _ (session : Session) (image clock m : List ℕ) (a b : Rule) where
  not_before : FirstToHold session image clock m a → FirstToHold session image clock m b → place_of a < place_of b → ⊥
  not_before first second h =
      second.no_earlier a h (first.it_holds (λ e. omega (arith, h, ap place_of e, (in_places b).1)))

pub first_is_named : FirstIsNamed
first_is_named session image clock m rule sound least most first =
    let found = decide session image clock (request_of m) in
    let named = named_so session image clock m sound least most in
    let second = named_holds session image clock m found (sym named) in
    let after : place_of rule < place_of found → ⊥ = not_before session image clock m rule found first second in
    let before : place_of found < place_of rule → ⊥ = not_before session image clock m found rule second first in
    sym named ∙ ap Ok (places_differ (omega (arith, after, before)))
