-- Document 01's rules of orders and of the session hold of our card at every gap.
-- By the ends of a gap, the ways in which a frame is answered, and what a message does that is carried out: only such a message gives an order, and only it
-- and a reset change the session. Assumes nothing.
use Rattle.std.specs.Prelude.{Ok}
use Prim.Native.Nat.{ℕ, ◌≤◌}
use mathlib.Core.Bool.{true, false}
use mathlib.Core.List.{List}
use mathlib.Core.Logic.{◌⊎◌, inl, inr}
use mathlib.Core.Path.{◌≡◌, refl, ap, ◌∙◌}
use native.Mathlib.Omega.{arith}
use lib.ListN.{length}
use Rattle.octets.specs.declared.Kept.{Kept}
use Rattle.octets.specs.Keeping.{octets_of}
use Rattle.octets.proofs.Choice.{either}
use Rattle.frame.specs.declared.Service.{Service}
use Rattle.frame.specs.declared.Service.TheVariants.{UserData}
use Rattle.message.specs.declared.Deed.{Deed}
use Rattle.message.specs.declared.Deed.TheVariants.{Refused, ShutOut, Opens, Closes, Gives71, Gives72, Gives131, GivesData, SetsClock, SetsDates}
use Rattle.message.specs.declared.Request.{Request}
use Rattle.message.specs.Table.{table, row_in}
use Rattle.image.specs.Image.{sound_image}
use Rattle.collector.specs.Damage.{damages}
use Rattle.rules.specs.declared.Session.{Session}
use Rattle.rules.specs.declared.Rule.{Rule}
use Rattle.rules.specs.Rules.{cause_by}
use Rattle.rules.specs.Decide.{decide}
use Rattle.rules.proofs.Decided.{accepted_open, wrong_183}
use Rattle.deeds.specs.declared.Order.{Order}
use Rattle.deeds.specs.declared.Order.TheVariants as order
use Rattle.deeds.specs.Deeds.{deed_of, done_by, carried_out}
use Rattle.deeds.proofs.Deeds.{clock_time, dates_time, opens_183, closes_187, clock_181, dates_186, shut_out, refused_session}
use Rattle.link.specs.declared.Answered.{Answered}
use Rattle.link.specs.State.{after_reset, after_new}
use Rattle.link.specs.Answering.{answered_by, noted, carried, user_data, answered}
use Rattle.link.proofs.Answering.{with_new, Way, as_reset, as_status, not_reset, repeated, as_nack, carried_out_law, as_given, nothing_given, way}
use Rattle.card.specs.declared.Card.{Card}
use Rattle.card.specs.declared.Asked.{Asked}
use Rattle.card.specs.State.{left_with, damaged_by}
use Rattle.card.specs.Examining.{examined}
use Rattle.card.specs.Gap.{Outcome, refusal, replied_by, after_answer}
use Rattle.card.proofs.Gap.{End, short, unsound, faulty, other_link, not_offered, replied, gap_heard, gap_end}
use Rattle.card.proofs.Gap as end
use Rattle.tender.specs.Card.{Loan, no_time, outcome_at, our_gap}
use Rattle.tender.specs.Rules.{Hears, own_address, Afresh, nack_due, carried_at, request_in, Carries, Ordered, sets_clock_law, sets_dates, Orders, Changes, by_reset, right_password, wrong_password, by_187, Sessions, Refused183, DataInSession}

-- what is shown of every gap: its order is a message's, or there is none; its session is one that something changes, or it is kept
record Ended (card : Card) (loan : Loan) (its_order : Order) (time : List ℕ) (session : Session) : Type 0 where
  orders : Ordered card loan its_order time ⊎ ((its_order ≡ order.NoOrder) × (time ≡ no_time))
  sessions : Changes card loan session ⊎ (session ≡ card.link.session)

-- without an order and with the session as it was; with another session; with an order
module _ {card : Card} {loan : Loan} where
  quiet : Ended card loan order.NoOrder no_time card.link.session
  quiet = record { orders = inr (refl, refl); sessions = inr refl }

  changing : {session : Session} → Changes card loan session → Ended card loan order.NoOrder no_time session
  changing c = record { orders = inr (refl, refl); sessions = inl c }

  ordering : {its_order : Order} {time : List ℕ} → Ordered card loan its_order time → Ended card loan its_order time card.link.session
  ordering o = record { orders = inl o; sessions = inr refl }

-- a message that is carried out afresh
module _ {card : Card} {loan : Loan} {user : Kept} {bit : ℕ} (f : Afresh card loan (UserData bit) user bit) (taken : nack_due card user ≡ false) where
  abbrev r : Request
  r = request_in user

  abbrev type : ℕ
  type = r.header.type_id

  abbrev rule : Rule
  rule = decide card.link.session loan.image loan.clock r

  abbrev EndedBy : Deed → Type 0
  EndedBy deed =
      let done = done_by rule card.link.session loan.clock r deed in
      Ended card loan done.order done.time done.session

  -- of a type, by a rule
  carries : {its-rule : Rule} {its-type : ℕ} → (rule ≡ its-rule) × (type ≡ its-type) → Carries card loan user bit its-type its-rule
  carries so = record { afresh = f; taken = taken; is_type = so.1; decided = so.0 }

  -- by what it does
  by_deed : (deed : Deed) → deed_of rule (row_in table type) ≡ deed → EndedBy deed
  by_deed Refused e = quiet
  by_deed ShutOut e =
      let wrong = shut_out rule type e in
      changing (wrong_password user bit (carries (wrong, wrong_183 card.link.session loan.image loan.clock r wrong)))
  by_deed Opens e = changing (right_password user bit (carries (opens_183 rule type e)))
  by_deed Closes e = changing (by_187 user bit (carries (closes_187 rule type e)))
  by_deed Gives71 e = quiet
  by_deed Gives72 e = quiet
  by_deed Gives131 e = quiet
  by_deed GivesData e = quiet
  by_deed SetsClock e =
      let so = clock_181 rule type e in
      rw (clock_time card.link.session loan.image loan.clock (octets_of user) so.0 so.1) (ordering (sets_clock_law user bit (carries so)))
  by_deed SetsDates e =
      let so = dates_186 rule type e in
      rw (dates_time card.link.session loan.image loan.clock (octets_of user) so.0 so.1) (ordering (sets_dates user bit (carries so)))

  carried_ended : Ended card loan (carried_at card loan user).order (carried_at card loan user).time (carried_at card loan user).session
  unfolding carried_out
  carried_ended = by_deed (deed_of rule (row_in table type)) refl

  -- the gap is answered so
  carried_gap : outcome_at card loan ≡ after_answer card (carried (own_address loan) bit card.link (carried_at card loan user))
  unfolding answered user_data
  carried_gap =
      gap_heard card loan.image loan.clock (length loan.buffer) f.hears.room f.hears.sound_image_law f.hears.heard
      ∙ ap (after_answer card) (with_new bit card.link _ f.is_reset f.new ∙ rw taken)

-- every gap
module _ (card : Card) (loan : Loan) where
  -- a service is heard
  way_ended : {user : Kept} {service : Service} {a : Answered} → Hears card loan service user → Way card.link user loan.image loan.clock service a
      → Ended card loan a.order a.time a.link.session
  unfolding answered_by noted carried after_reset after_new
  way_ended {user} h as_reset = changing (by_reset user h)
  way_ended h as_status = quiet
  way_ended h (not_reset counts unset) = quiet
  way_ended h (repeated counts set e) = quiet
  way_ended h (as_nack fresh w) = quiet
  way_ended h (carried_out_law fresh w) = carried_ended (record { hears = h; is_reset = fresh.is_reset; new = fresh.new }) w
  way_ended h (as_given fresh found) = quiet
  way_ended h (nothing_given fresh found) = quiet

  heard_ended : 261 ≤ length loan.buffer → sound_image loan.image ≡ true → (asked : Asked) → examined card.collector loan.image ≡ Ok asked
      → let a = answered card.link asked.service asked.user loan.image loan.clock in Ended card loan a.order a.time a.link.session
  heard_ended room sound asked e =
      way_ended (record { room = room; sound_image_law = sound; heard = e })
      (way card.link asked.user loan.image loan.clock asked.service)

  abbrev EndedSo : Outcome → Type 0
  EndedSo o = Ended card loan o.order o.time o.card.link.session

  end_ended : {o : Outcome} → End card loan.image loan.clock (length loan.buffer) o → EndedSo o
  unfolding refusal replied_by left_with damaged_by
  end_ended (short h) = quiet
  end_ended (unsound h s) = quiet
  end_ended (faulty h s fault x) =
      record { orders = inr (refl, refl); sessions = inr (either (λ (c : Card). c.link.session ≡ card.link.session) (damages fault) (λ t. refl) (λ t. refl)) }
  end_ended (other_link h s x) = quiet
  end_ended (not_offered h s x) = quiet
  end_ended (end.not_reset h s asked x n) = record { orders = inr (refl, refl); sessions = (heard_ended h s asked x).sessions }
  end_ended (replied h s asked x n) = heard_ended h s asked x

  gap_ended : EndedSo (outcome_at card loan)
  gap_ended = end_ended (gap_end card loan.image loan.clock (length loan.buffer))

-- each request of these gives its order, changes the session; and by the end of any gap, none other does
pub orders_only_so : Orders our_gap
unfolding after_answer replied_by carried carried_out table row_in
orders_only_so = record { so = so; only_so = λ card loan. (gap_ended card loan).orders }
  where
    so : (card : Card) (loan : Loan) {its_order : Order} {time : List ℕ} → Ordered card loan its_order time
        → ((our_gap card loan).answer.order ≡ its_order) × ((our_gap card loan).answer.time ≡ time)
    so card loan (sets_clock_law user bit c) =
        rw (carried_gap c.afresh c.taken, c.decided, c.is_type)
        (refl, clock_time card.link.session loan.image loan.clock (octets_of user) c.decided c.is_type)
    so card loan (sets_dates user bit c) =
        rw (carried_gap c.afresh c.taken, c.decided, c.is_type)
        (refl, dates_time card.link.session loan.image loan.clock (octets_of user) c.decided c.is_type)

pub sessions_only_so : Sessions our_gap
unfolding after_answer replied_by left_with answered answered_by after_reset carried after_new carried_out table row_in
sessions_only_so = record { so = so; only_so = λ card loan. (gap_ended card loan).sessions }
  where
    so : (card : Card) (loan : Loan) {after : Session} → Changes card loan after → (our_gap card loan).state.link.session ≡ after
    so card loan (by_reset user h) =
        rw (gap_heard card loan.image loan.clock (length loan.buffer) h.room h.sound_image_law h.heard)
    so card loan (right_password user bit c) = rw (carried_gap c.afresh c.taken, c.decided, c.is_type)
    so card loan (wrong_password user bit c) = rw (carried_gap c.afresh c.taken, c.decided, c.is_type)
    so card loan (by_187 user bit c) = rw (carried_gap c.afresh c.taken, c.decided, c.is_type)

pub refused_183 : Refused183 our_gap
unfolding after_answer replied_by left_with carried after_new carried_out
refused_183 card loan user bit its-type its-rule c least most =
    rw (carried_gap c.afresh c.taken)
    (refused_session (rule c.afresh c.taken) card.link.session loan.clock (request_in user) (row_in table (request_in user).header.type_id)
    (λ e. omega (arith, least, e, ap cause_by c.decided)))

-- what is accepted and is no 183 stands in the session of its point
pub data_in_session : DataInSession
data_in_session = accepted_open
