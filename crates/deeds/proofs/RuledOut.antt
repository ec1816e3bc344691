-- What the public contracts of this crate do not allow: two wrong outcomes or more of each.
-- By the rule that applies to the message, whatever makes it apply, and by what it does. Assumes nothing.
use Prim.Native.Nat.{ℕ, ◌<◌}
use mathlib.Core.Bool.{true, false, false≢true}
use mathlib.Core.List.{List}
use mathlib.Core.Path.{◌≡◌, sym, ap, ◌∙◌}
use native.Mathlib.Omega.{arith}
use contract.Lifetimes.{Lfts}
use borrow.Author.Tests.{ne_eqb}
use lib.ListN.{get_or, get_or-replicate}
use Rattle.octets.specs.declared.Kept.{Kept}
use Rattle.octets.specs.Keeping.{octets_of}
use Rattle.octets.proofs.Outcome.{RuledOut, Place, lent, never}
use Rattle.label.specs.Label.{label_a_octets, label_b_octets}
use Rattle.message.specs.declared.Deed.{Deed}
use Rattle.message.specs.declared.Deed.TheVariants.{Refused, Closes}
use Rattle.message.specs.declared.Request.{Request}
use Rattle.message.specs.Requests.{request_of}
use Rattle.message.specs.Table.{table, row_in}
use Rattle.rules.specs.declared.Rule.{Rule}
use Rattle.rules.specs.declared.Rule.TheVariants.{NoSession, UnknownPoint, TimeLabel, WrongPassword, Accepted}
use Rattle.rules.specs.declared.Session.{Session}
use Rattle.rules.specs.declared.Session.TheVariants.{Closed, Open}
use Rattle.rules.specs.Decide.{decide}
use Rattle.rules.proofs.Decided.{past}
use Rattle.deeds.specs.declared.Waiting.TheVariants.{NoReply, Mirror, More}
use Rattle.deeds.specs.declared.Order.TheVariants.{NoOrder, SetClock}
use Rattle.deeds.specs.declared.Pending.{Pending}
use Rattle.deeds.specs.declared.Carried.{Carried}
use Rattle.deeds.specs.Deeds.{deed_of, carried_out, nothing_pending, is_waiting}
use Rattle.deeds.proofs.carry_out.Reads as carry_out
use Rattle.deeds.proofs.Pending.new.Reads as pending_new
use Rattle.deeds.proofs.Pending.is_waiting.Reads as pending_is_waiting

module _ (κs : Lfts 0) where
  -- a reply waits at power-on, whatever it is
  pending_new_waits : (wrong : Pending) → is_waiting wrong.waiting ≡ true → RuledOut (pending_new.Post κs) tt wrong
  unfolding nothing_pending
  pending_new_waits wrong waits s p = false≢true (sym (ap (λ (w : Pending). is_waiting w.waiting) p) ∙ waits)

  -- a clock at power-on that is not zeros
  pending_new_clock : (wrong : Pending) (i : ℕ) → i < 7 → (get_or wrong.clock i 0 ≡ 0 → ⊥) → RuledOut (pending_new.Post κs) tt wrong
  unfolding nothing_pending
  pending_new_clock wrong i inside other s p = other (ap (λ (w : Pending). get_or w.clock i 0) p ∙ get_or-replicate 7 i 0 0 inside)

  -- no reply waits where a mirror does, whatever its cause
  pending_is_waiting_mirror : (pending : Pending) (cause : ℕ) → pending.waiting ≡ Mirror cause → RuledOut (pending_is_waiting.Post κs) (pending, tt) false
  pending_is_waiting_mirror pending cause mirror s p = false≢true (rw mirror at p)

  -- no reply waits where data does, however much is given already
  pending_is_waiting_data : (pending : Pending) (before : ℕ) → pending.waiting ≡ More before → RuledOut (pending_is_waiting.Post κs) (pending, tt) false
  pending_is_waiting_data pending before more s p = false≢true (rw more at p)

  -- a reply waits where none does, whatever request is kept
  pending_is_waiting_nothing : (pending : Pending) → pending.waiting ≡ NoReply → RuledOut (pending_is_waiting.Post κs) (pending, tt) true
  pending_is_waiting_nothing pending none s p = false≢true (sym (rw none at p))

-- without a session no message but 183 is accepted
without_session : (image clock : List ℕ) (r : Request) → (r.header.type_id ≡ 183 → ⊥) → decide Closed image clock r ≡ Accepted → ⊥
without_session image clock r other e = past Closed image clock r NoSession Accepted (rw (ne_eqb r.header.type_id 183 other)) (omega arith) (sym e)

module _ (κs : Lfts 1) (x : Place) (session : Session) (image clock : List ℕ) (request : Kept) (wrong : Carried) where
  -- the request as it is read
  abbrev r : Request
  r = request_of (octets_of request)

  -- the first rule that applies
  abbrev rule : Rule
  rule = decide session image clock r

  -- the type of the message
  abbrev type : ℕ
  type = r.header.type_id

  -- what the message does
  abbrev deed : Deed
  deed = deed_of rule (row_in table type)

  -- 187 accepted and the session not closed
  carry_out_187 : rule ≡ Accepted → type ≡ 187 → (wrong.session ≡ Closed → ⊥)
      → RuledOut (carry_out.Post κs) (session, (lent x image, (clock, (request, tt)))) wrong
  unfolding carried_out table row_in
  carry_out_187 first is other s p = other (ap (λ (c : Carried). c.session) (rw (first, is) at p))

  -- a wrong password that leaves a session open
  carry_out_wrong_password : rule ≡ WrongPassword → type ≡ 183 → (wrong.session ≡ Closed → ⊥)
      → RuledOut (carry_out.Post κs) (session, (lent x image, (clock, (request, tt)))) wrong
  unfolding carried_out table row_in
  carry_out_wrong_password first is other s p = other (ap (λ (c : Carried). c.session) (rw (first, is) at p))

  -- a right password that does not open the session for its point
  carry_out_right_password : rule ≡ Accepted → type ≡ 183 → (wrong.session ≡ Open r.header.point → ⊥)
      → RuledOut (carry_out.Post κs) (session, (lent x image, (clock, (request, tt)))) wrong
  unfolding carried_out table row_in
  carry_out_right_password first is other s p = other (ap (λ (c : Carried). c.session) (rw (first, is) at p))

  -- a message that is refused and changes the session, a 183 too
  carry_out_refused_session : deed ≡ Refused → (wrong.session ≡ session → ⊥)
      → RuledOut (carry_out.Post κs) (session, (lent x image, (clock, (request, tt)))) wrong
  unfolding carried_out
  carry_out_refused_session refused other s p = other (ap (λ (c : Carried). c.session) (rw (refused) at p))

  -- an order to the meter with a message that is refused
  carry_out_refused_order : deed ≡ Refused → (wrong.order ≡ NoOrder → ⊥)
      → RuledOut (carry_out.Post κs) (session, (lent x image, (clock, (request, tt)))) wrong
  unfolding carried_out
  carry_out_refused_order refused other s p = other (ap (λ (c : Carried). c.order) (rw (refused) at p))

  -- a 181 with a label that is not valid that sets the clock
  carry_out_label_order : rule ≡ TimeLabel → type ≡ 181 → (wrong.order ≡ NoOrder → ⊥)
      → RuledOut (carry_out.Post κs) (session, (lent x image, (clock, (request, tt)))) wrong
  unfolding carried_out table row_in
  carry_out_label_order first is other s p = other (ap (λ (c : Carried). c.order) (rw (first, is) at p))

  -- 181 accepted without the order to set the clock
  carry_out_no_order : rule ≡ Accepted → type ≡ 181 → (wrong.order ≡ SetClock → ⊥)
      → RuledOut (carry_out.Post κs) (session, (lent x image, (clock, (request, tt)))) wrong
  unfolding carried_out table row_in
  carry_out_no_order first is other s p = other (ap (λ (c : Carried). c.order) (rw (first, is) at p))

  -- 181 accepted with other time octets than those of its label, zeros behind
  carry_out_time : rule ≡ Accepted → type ≡ 181 → (get_or wrong.time 6 0 ≡ r.time.a.year → ⊥)
      → RuledOut (carry_out.Post κs) (session, (lent x image, (clock, (request, tt)))) wrong
  unfolding carried_out table row_in label_b_octets label_a_octets
  carry_out_time first is other s p = other (ap (λ (c : Carried). get_or c.time 6 0) (rw (first, is) at p))

  -- 186 accepted with the last label's octets first, if their minutes differ
  carry_out_dates : rule ≡ Accepted → type ≡ 186 → (get_or wrong.time 0 0 ≡ r.first.minute → ⊥)
      → RuledOut (carry_out.Post κs) (session, (lent x image, (clock, (request, tt)))) wrong
  unfolding carried_out table row_in label_a_octets
  carry_out_dates first is other s p = other (ap (λ (c : Carried). get_or c.time 0 0) (rw (first, is) at p))

  -- 103 accepted and the clock not taken
  carry_out_clock : rule ≡ Accepted → type ≡ 103 → (wrong.pending.clock ≡ clock → ⊥)
      → RuledOut (carry_out.Post κs) (session, (lent x image, (clock, (request, tt)))) wrong
  unfolding carried_out table row_in
  carry_out_clock first is other s p = other (ap (λ (c : Carried). c.pending.clock) (rw (first, is) at p))

  -- a point that is not in the image, after which no mirror 16 waits
  carry_out_mirror : rule ≡ UnknownPoint → deed ≡ Refused → (wrong.pending.waiting ≡ Mirror 16 → ⊥)
      → RuledOut (carry_out.Post κs) (session, (lent x image, (clock, (request, tt)))) wrong
  unfolding carried_out
  carry_out_mirror first refused other s p = other (ap (λ (c : Carried). c.pending.waiting) (rw (refused, first) at p))

  -- a wrong password after which a mirror with P/N 0 waits
  carry_out_denied : rule ≡ WrongPassword → type ≡ 183 → wrong.pending.waiting ≡ Mirror 7
      → RuledOut (carry_out.Post κs) (session, (lent x image, (clock, (request, tt)))) wrong
  unfolding carried_out table row_in
  carry_out_denied first is mirror s p = never (cc (ap (λ (c : Carried). c.pending.waiting) (rw (first, is) at p)))

  -- 122 accepted and nothing but mirror 7 waiting
  carry_out_data : rule ≡ Accepted → type ≡ 122 → wrong.pending.waiting ≡ Mirror 7
      → RuledOut (carry_out.Post κs) (session, (lent x image, (clock, (request, tt)))) wrong
  unfolding carried_out table row_in
  carry_out_data first is mirror s p = never (cc (ap (λ (c : Carried). c.pending.waiting) (rw (first, is) at p)))

  -- a message other than 183 accepted without a session
  carry_out_without_session : (type ≡ 183 → ⊥) → session ≡ Closed → wrong.rule ≡ Accepted
      → RuledOut (carry_out.Post κs) (session, (lent x image, (clock, (request, tt)))) wrong
  unfolding carried_out
  carry_out_without_session other closed taken s p =
      without_session image clock r other (sym (ap (λ (c : Carried). c.rule) (rw closed at p)) ∙ taken)

  -- 187 accepted and said to do something else
  carry_out_deed : rule ≡ Accepted → type ≡ 187 → (wrong.deed ≡ Closes → ⊥)
      → RuledOut (carry_out.Post κs) (session, (lent x image, (clock, (request, tt)))) wrong
  unfolding carried_out table row_in
  carry_out_deed first is other s p = other (ap (λ (c : Carried). c.deed) (rw (first, is) at p))
