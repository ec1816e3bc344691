-- What the public contracts of this crate do not allow: two wrong outcomes or more of each.
-- Where a rule applies, none behind it in document 01's order is given. Assumes nothing.
use Rattle.std.specs.Prelude.{Some, None}
use Prim.Native.Nat.{ℕ, ◌<◌}
use mathlib.Core.Bool.{true, false, and-false}
use mathlib.Core.List.{List, [], ◌∷◌}
use mathlib.Core.Path.{◌≡◌, refl, sym, ap}
use native.Mathlib.Omega.{arith}
use contract.Lifetimes.{Lfts}
use denote.Ref.{Bor}
use lib.IntN.{ℤ}
use borrow.Author.Tests.{ne_eqb}
use Rattle.octets.specs.Conditions.{holds}
use Rattle.octets.specs.Numbers.{low_first}
use Rattle.octets.proofs.Choice.{not_both}
use Rattle.octets.proofs.Outcome.{RuledOut, never}
use Rattle.address.specs.declared.PointAddress.{PointAddress}
use Rattle.label.specs.Label.{instant, second, valid_b, label_b_at}
use Rattle.message.specs.declared.Deed.{Deed}
use Rattle.message.specs.declared.Deed.TheVariants.{Refused, ShutOut}
use Rattle.message.specs.declared.Header.{Header}
use Rattle.message.specs.declared.Request.{Request}
use Rattle.message.specs.Requests.{objects_offered, asks_readings}
use Rattle.message.specs.Table.{table, row_in}
use Rattle.fields.specs.declared.Point.{Point}
use Rattle.fields.specs.Answers.{point_found, dates_found}
use Rattle.choice.specs.declared.Span.{Span}
use Rattle.choice.specs.declared.Query.TheVariants.{Reading, Event}
use Rattle.choice.specs.Choice.{choice}
use Rattle.rules.specs.declared.Session.{Session}
use Rattle.rules.specs.declared.Session.TheVariants.{Closed, Open}
use Rattle.rules.specs.declared.Rule.{Rule}
use Rattle.rules.specs.declared.Rule.TheVariants.{Marked, UnknownType, NoSession, UnknownPoint, OtherSession, Shape, Address, Objects, ReadingLabel, ReadingRange, NoReading, NoEvent, ClockUnset, NoDates, TimeLabel, WrongPassword, Accepted}
use Rattle.rules.specs.Rules.{cause_by}
use Rattle.rules.specs.Decide.{marked, listed, shaped, addressed, labels_valid, first_after_last, span_of, none_in}
use Rattle.rules.proofs.decide.Reads as decide
use Rattle.rules.proofs.span_of.Reads as Span-of
use Rattle.rules.proofs.Rule.cause.Reads as rule_cause
use Rattle.rules.proofs.Rule.pn.Reads as rule_pn
use Rattle.rules.proofs.Rule.deed.Reads as rule_deed
use Rattle.rules.proofs.Rules.{place, only_seven}
use Rattle.rules.proofs.Decided.{applies, all_rules, past, holds_of, opened}

module _ (κs : Lfts 1) (image : Bor (List ℕ)) (clock : List ℕ) (r : Request) (session : Session) where
  -- the header and the type of the request
  abbrev head : Header
  head = r.header

  abbrev type : ℕ
  type = head.type_id

  -- any rule behind one that applies
  decide_behind : (rule wrong : Rule) → applies rule (all_rules session image.now clock r) ≡ true → place rule < place wrong
      → RuledOut (decide.Post κs) (session, (image, (clock, (r, tt)))) wrong
  decide_behind rule wrong a behind s = past session image.now clock r rule wrong a behind

  -- any rule that does not apply
  decide_idle : (rule : Rule) → place rule < 18 → applies rule (all_rules session image.now clock r) ≡ false
      → RuledOut (decide.Post κs) (session, (image, (clock, (r, tt)))) rule
  decide_idle rule refusal idle s p = not_both idle (holds_of session image.now clock r rule refusal (sym p))

  -- any rule but the first, or none, given to a message with T or P/N set
  decide_marked : (rule : Rule) → 0 < place rule → marked head.cause ≡ true → RuledOut (decide.Post κs) (session, (image, (clock, (r, tt)))) rule
  decide_marked rule behind e = decide_behind Marked rule (rw e) behind

  -- a message whose type is not in the table accepted, in whatever session
  decide_unlisted : listed (row_in table type) ≡ false
      → RuledOut (decide.Post κs) (session, (image, (clock, (r, tt)))) Accepted
  decide_unlisted e = decide_behind UnknownType Accepted (rw e) (omega arith)

  -- a message other than 183 accepted without a session
  decide_without_session : session ≡ Closed → (type ≡ 183 → ⊥)
      → RuledOut (decide.Post κs) (session, (image, (clock, (r, tt)))) Accepted
  decide_without_session closed other = decide_behind NoSession Accepted (rw (closed, ne_eqb type 183 other)) (omega arith)

  -- the point looked at before the session: 16 for a message other than 183 without a session
  decide_point_first : session ≡ Closed → (type ≡ 183 → ⊥)
      → RuledOut (decide.Post κs) (session, (image, (clock, (r, tt)))) UnknownPoint
  decide_point_first closed other = decide_behind NoSession UnknownPoint (rw (closed, ne_eqb type 183 other)) (omega arith)

  -- another session looked at before the point: refused for its session where the point is not in the image
  decide_other_first : point_found head.point image.now ≡ None
      → RuledOut (decide.Post κs) (session, (image, (clock, (r, tt)))) OtherSession
  decide_other_first e = decide_behind UnknownPoint OtherSession (rw e) (omega arith)

  -- a message accepted whose point is not in the image, a 183 too
  decide_no_point : point_found head.point image.now ≡ None
      → RuledOut (decide.Post κs) (session, (image, (clock, (r, tt)))) Accepted
  decide_no_point e = decide_behind UnknownPoint Accepted (rw e) (omega arith)

  -- a message other than 183 accepted in the session of another point
  decide_other_session : (own : PointAddress) → session ≡ Open own → (own.0 ≡ head.point.0 → ⊥) → (type ≡ 183 → ⊥)
      → RuledOut (decide.Post κs) (session, (image, (clock, (r, tt)))) Accepted
  decide_other_session own opened-for differ other = decide_behind OtherSession Accepted (rw (opened-for, ne_eqb own.0 head.point.0 differ, ne_eqb type 183 other)) (omega arith)

  -- the record address looked at before the shape: 15 where structure octet, octets or cause are not as listed
  decide_address_first : shaped (row_in table type) r ≡ false
      → RuledOut (decide.Post κs) (session, (image, (clock, (r, tt)))) Address
  decide_address_first e = decide_behind Shape Address (rw e) (omega arith)

  -- a message accepted whose structure octet, octets or cause are not as listed
  decide_shape : shaped (row_in table type) r ≡ false
      → RuledOut (decide.Post κs) (session, (image, (clock, (r, tt)))) Accepted
  decide_shape e = decide_behind Shape Accepted (rw e) (omega arith)

  -- a message accepted whose record address is not listed
  decide_record : addressed (row_in table type) head.record_address ≡ false
      → RuledOut (decide.Post κs) (session, (image, (clock, (r, tt)))) Accepted
  decide_record e = decide_behind Address Accepted (rw e) (omega arith)

  -- 17 passed over: a 122 or a 123 with objects that are not offered accepted, or refused by 18, as where the labels are looked at before the objects
  decide_objects : (wrong : Rule) → place Objects < place wrong → asks_readings type ≡ true → objects_offered r.objects ≡ false
      → RuledOut (decide.Post κs) (session, (image, (clock, (r, tt)))) wrong
  decide_objects wrong behind asks e = decide_behind Objects wrong (rw (asks, e)) behind

  -- the objects looked at before the record address: 17 where it is not listed
  decide_objects_first : addressed (row_in table type) head.record_address ≡ false
      → RuledOut (decide.Post κs) (session, (image, (clock, (r, tt)))) Objects
  decide_objects_first e = decide_behind Address Objects (rw e) (omega arith)

  -- 17 for objects that are offered, as for 1 to 2
  decide_offered : objects_offered r.objects ≡ true
      → RuledOut (decide.Post κs) (session, (image, (clock, (r, tt)))) Objects
  decide_offered e = decide_idle Objects (omega arith) (rw (e, and-false))

  -- a 122 or a 123 accepted with a label that is not valid
  decide_labels : asks_readings type ≡ true → labels_valid r ≡ false
      → RuledOut (decide.Post κs) (session, (image, (clock, (r, tt)))) Accepted
  decide_labels asks e = decide_behind ReadingLabel Accepted (rw (asks, e)) (omega arith)

  -- a 122 or a 123 accepted whose first label lies after its last
  decide_range : asks_readings type ≡ true → first_after_last r ≡ true
      → RuledOut (decide.Post κs) (session, (image, (clock, (r, tt)))) Accepted
  decide_range asks e = decide_behind ReadingRange Accepted (rw (asks, e)) (omega arith)

  -- labels compared the other way: a request refused for their order whose first label does not lie after its last
  decide_in_order : first_after_last r ≡ false
      → RuledOut (decide.Post κs) (session, (image, (clock, (r, tt)))) ReadingRange
  decide_in_order e = decide_idle ReadingRange (omega arith) (rw (e, and-false))

  -- a 122 or a 123 accepted where no reading is chosen
  decide_no_reading : asks_readings type ≡ true → choice (Reading (span_of r)) image.now ≡ []
      → RuledOut (decide.Post κs) (session, (image, (clock, (r, tt)))) Accepted
  unfolding none_in
  decide_no_reading asks e = decide_behind NoReading Accepted (rw (asks, e)) (omega arith)

  -- a 102 accepted where no event is chosen
  decide_no_event : type ≡ 102 → choice (Event (span_of r)) image.now ≡ []
      → RuledOut (decide.Post κs) (session, (image, (clock, (r, tt)))) Accepted
  unfolding none_in
  decide_no_event is e = decide_behind NoEvent Accepted (rw (e, is)) (omega arith)

  -- a 103 accepted with a clock that is not valid
  decide_clock : type ≡ 103 → valid_b (label_b_at clock 0) ≡ false
      → RuledOut (decide.Post κs) (session, (image, (clock, (r, tt)))) Accepted
  decide_clock is e = decide_behind ClockUnset Accepted (rw (e, is)) (omega arith)

  -- the label looked at before the dates: cause 7 for a 186 where the image has no switch dates
  decide_label_first : type ≡ 186 → dates_found image.now ≡ None
      → RuledOut (decide.Post κs) (session, (image, (clock, (r, tt)))) TimeLabel
  decide_label_first is e = decide_behind NoDates TimeLabel (rw (e, is)) (omega arith)

  -- a 181 accepted with a label that is not valid
  decide_time : type ≡ 181 → valid_b r.time ≡ false
      → RuledOut (decide.Post κs) (session, (image, (clock, (r, tt)))) Accepted
  decide_time is e = decide_behind TimeLabel Accepted (rw (e, is)) (omega arith)

  -- a 183 accepted with a password that is not its point's, whatever other point has it
  decide_wrong_password : (found : Point) → type ≡ 183 → point_found head.point image.now ≡ Some found → (found.password ≡ r.password → ⊥)
      → RuledOut (decide.Post κs) (session, (image, (clock, (r, tt)))) Accepted
  decide_wrong_password found is e wrong = decide_behind WrongPassword Accepted (rw (e, ne_eqb found.password r.password wrong, is)) (omega arith)

  -- a 183 in its shape and with its point's own password refused, by any rule and in whatever session
  decide_right_password : (rule : Rule) → place rule < 18 → marked head.cause ≡ false → type ≡ 183 → shaped (row_in table type) r ≡ true
      → addressed (row_in table type) head.record_address ≡ true → (number : ℕ)
      → point_found head.point image.now ≡ Some (record { number = number; password = r.password })
      → RuledOut (decide.Post κs) (session, (image, (clock, (r, tt)))) rule
  decide_right_password rule before unmarked is shape address number found s p =
      omega (arith, ap place p, ap place (opened session image.now clock r unmarked is shape address number found))

-- a 103 accepted with a clock of 60 seconds, whatever its other octets
decide_seconds : (κs : Lfts 1) (image : Bor (List ℕ)) (rest : List ℕ) (r : Request) (session : Session) → r.header.type_id ≡ 103
    → RuledOut (decide.Post κs) (session, (image, (0 ∷ 0xF0 ∷ rest, (r, tt)))) Accepted
unfolding valid_b holds second low_first label_b_at
decide_seconds κs image rest r session is = decide_clock κs image (0 ∷ 0xF0 ∷ rest) r session is refl

-- a span by its record address and its ends, of a request's point
abbrev span_for : Request → ℕ → ℤ → ℤ → Span
span_for r address first last = record { point = r.header.point; record_address = address; first = first; last = last }

module _ (κs : Lfts 0) (r : Request) where
  -- a span from the last label to the first, if their instants differ
  span_of_swapped : (instant r.first ≡ instant r.last → ⊥)
      → RuledOut (Span-of.Post κs) (r, tt) (span_for r r.header.record_address (instant r.last) (instant r.first))
  unfolding span_of
  span_of_swapped differ s p = differ (sym (ap (λ (x : Span). x.first) p))

  -- a span that ends where it begins, if the instants differ
  span_of_end : (instant r.first ≡ instant r.last → ⊥)
      → RuledOut (Span-of.Post κs) (r, tt) (span_for r r.header.record_address (instant r.first) (instant r.first))
  unfolding span_of
  span_of_end differ s p = differ (ap (λ (x : Span). x.last) p)

  -- the cause taken for the record address, whatever the instants, if they differ
  span_of_cause : (first last : ℤ) → (r.header.cause ≡ r.header.record_address → ⊥)
      → RuledOut (Span-of.Post κs) (r, tt) (span_for r r.header.cause first last)
  unfolding span_of
  span_of_cause first last differ s p = differ (ap (λ (x : Span). x.record_address) p)

module _ (κs : Lfts 0) where
  -- cause 14 for an unknown point
  rule_cause_point : RuledOut (rule_cause.Post κs) (UnknownPoint, tt) 14
  rule_cause_point s p = omega arith

  -- cause 18 for wrong objects
  rule_cause_objects : RuledOut (rule_cause.Post κs) (Objects, tt) 18
  rule_cause_objects s p = omega arith

  -- cause 14 for a wrong record address
  rule_cause_address : RuledOut (rule_cause.Post κs) (Address, tt) 14
  rule_cause_address s p = omega arith

  -- cause 18, that of readings, where no event is chosen
  rule_cause_event : RuledOut (rule_cause.Post κs) (NoEvent, tt) 18
  rule_cause_event s p = omega arith

  -- cause 14 for a wrong password
  rule_cause_password : RuledOut (rule_cause.Post κs) (WrongPassword, tt) 14
  rule_cause_password s p = omega arith

  -- a wrong password with P/N 0
  rule_pn_password : RuledOut (rule_pn.Post κs) (WrongPassword, tt) false
  rule_pn_password s p = never (cc)

  -- a time label that is not valid with P/N 0
  rule_pn_label : RuledOut (rule_pn.Post κs) (TimeLabel, tt) false
  rule_pn_label s p = never (cc)

  -- P/N 1 with any cause but 7
  rule_pn_refusal : (rule : Rule) → (cause_by rule ≡ 7 → ⊥) → RuledOut (rule_pn.Post κs) (rule, tt) true
  rule_pn_refusal rule other s p = other (only_seven rule (sym p))

  -- P/N 1 for a message that is accepted
  rule_pn_accepted : RuledOut (rule_pn.Post κs) (Accepted, tt) true
  rule_pn_accepted s p = never (cc)

  -- a wrong password that does no more than any refusal
  rule_deed_password : (its : Deed) → RuledOut (rule_deed.Post κs) (WrongPassword, (its, tt)) Refused
  rule_deed_password its s p = never (cc)

  -- a time label that is not valid shuts out
  rule_deed_label : (its : Deed) → RuledOut (rule_deed.Post κs) (TimeLabel, (its, tt)) ShutOut
  rule_deed_label its s p = never (cc)

  -- an accepted message that does something else than its row says
  rule_deed_accepted : (its wrong : Deed) → (wrong ≡ its → ⊥) → RuledOut (rule_deed.Post κs) (Accepted, (its, tt)) wrong
  rule_deed_accepted its wrong other s p = other p
