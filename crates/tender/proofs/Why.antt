-- A card's cause is that of the rule that is named, and what is named accepted does what the table says.
-- Of any card that meets document 01's rules, since a rule is named exactly as a message is decided; so of ours. Assumes nothing.
use Rattle.std.specs.Prelude.{Option, Some, None}
use Prim.Native.Nat.{ℕ, ◌≤◌, ◌<◌}
use mathlib.Core.Bool.{Bool, true, false}
use mathlib.Core.List.{List, ◌++◌}
use mathlib.Core.Path.{◌≡◌, refl, ap, ◌∙◌}
use native.Mathlib.Omega.{arith}
use lib.ListN.{length, get_or, drop, replicate, length-take}
use borrow.Author.Tests.{le-ltb}
use Rattle.octets.specs.declared.Kept.{Kept}
use Rattle.octets.specs.Keeping.{octets_of}
use Rattle.octets.proofs.Choice.{either}
use Rattle.history.specs.History.{Each}
use Rattle.message.specs.declared.Deed.{Deed}
use Rattle.message.specs.declared.Deed.TheVariants.{Refused}
use Rattle.message.specs.declared.Request.{Request}
use Rattle.message.specs.Headers.{t_of, pn_of, cause_of}
use Rattle.message.specs.Mirror.{pn_bit, mirror, mirror_of}
use Rattle.message.specs.Table.{table, row_in}
use Rattle.message.proofs.Headers.{t_back, pn_back, cause_back}
use Rattle.message.proofs.Mirror.{mirror_length, mirror_elsewhere, mirror_cause, mirror_octets}
use Rattle.rules.specs.declared.Session.{Session}
use Rattle.rules.specs.declared.Session.TheVariants.{Closed, Open}
use Rattle.rules.specs.declared.Rule.{Rule}
use Rattle.rules.specs.declared.Rule.TheVariants.{WrongPassword, Accepted}
use Rattle.rules.specs.Rules.{cause_by, pn_by}
use Rattle.rules.specs.Decide.{decide}
use Rattle.rules.proofs.Rules.{Ruled, accepts, shuts_out, wrong_time, refuses, ruled, cause_small}
use Rattle.deeds.specs.declared.Waiting.{Waiting}
use Rattle.deeds.specs.declared.Order.{Order}
use Rattle.deeds.specs.declared.Order.TheVariants.{NoOrder, SetClock, SetDates}
use Rattle.deeds.specs.Deeds.{deed_of, done_by, is_waiting, carried_out}
use Rattle.deeds.proofs.Deeds.{refused_mirror, clock_time, dates_time}
use Rattle.waiting.specs.declared.Next.{Next}
use Rattle.waiting.specs.NextReply.{firstly, lastly, next_of, message_in}
use Rattle.link.specs.declared.Link.{Link}
use Rattle.card.specs.declared.Card.{Card}
use Rattle.card.specs.State.{left_with}
use Rattle.why.proofs.Asking.{NamedBy, named_only}
use Rattle.tender.specs.Card.{Loan, GapCall, no_time, our_gap}
use Rattle.tender.specs.Rules.{ack, Answers, link_with, replies_wait, nack_due, carried_at, request_in, point_in, Rules}
use Rattle.tender.specs.Why.{Sent, MirrorOf, RefusedAsNamed, RefusedNotDone, DoneRow, done_row, done_rows, DoneAs, AcceptedAsNamed}
use Rattle.tender.proofs.RulesWaiting.{◌and◌, mirror_next, waiting_replies}
use Rattle.tender.proofs.Rules as ours
use Rattle.message.specs.declared.Row.{Row}

-- a mirror is one
mirror_of_law : (m : List ℕ) (cause pn : ℕ) → 2 < length m → cause < 64 → pn < 2 → MirrorOf m cause pn (mirror m pn cause)
mirror_of_law m cause pn room small bit =
    let t = t_of (get_or m 2 0) in
    let t_bit : t < 2 = omega arith in
    let there = mirror_cause m pn cause room in
    record {
      as_long = mirror_length m pn cause;
      elsewhere = mirror_elsewhere m pn cause;
      its_cause = ap cause_of there ∙ cause_back t pn cause t_bit bit small;
      its_pn = ap pn_of there ∙ pn_back t pn cause t_bit bit small;
      its_t = ap t_of there ∙ t_back t pn cause t_bit bit small;
    }

pn_small : (rule : Rule) → pn_bit (pn_by rule) < 2
pn_small rule = by_test (pn_by rule)
  where
    by_test : (t : Bool) → pn_bit t < 2
    by_test true = omega arith
    by_test false = omega arith

-- what a refusal does: no order; and it leaves the session, unless it is by a wrong password
module _ (session : Session) (clock : List ℕ) (r : Request) where
  abbrev Quiet : Rule → Deed → Type 0
  Quiet rule deed =
      let done = done_by rule session clock r deed in
      (done.order ≡ NoOrder) × ((done.time ≡ no_time) × ((rule ≡ WrongPassword → ⊥) → done.session ≡ session))

  quiet_ruled : {its : Deed} {rule : Rule} {said : ℕ × Bool × Deed} → Ruled its rule said → (rule ≡ Accepted → ⊥) → Quiet rule said.2
  quiet_ruled accepts other = absurd (other refl)
  quiet_ruled shuts_out other = (refl, (refl, λ not-it. absurd (not-it refl)))
  quiet_ruled wrong_time other = (refl, (refl, λ not-it. refl))
  quiet_ruled (refuses small) other = (refl, (refl, λ not-it. refl))

  quiet : (rule : Rule) (found : Option Row) → (rule ≡ Accepted → ⊥) → Quiet rule (deed_of rule found)
  quiet rule (Some w) other = quiet_ruled (ruled rule w.deed) other
  quiet rule None other = quiet_ruled (ruled rule Refused) other

  shut : (found : Option Row) → (done_by WrongPassword session clock r (deed_of WrongPassword found)).session ≡ Closed
  shut (Some w) = refl
  shut None = refl

-- any card that meets the rules
module _ (gap : GapCall) (meets : Rules gap) where
  -- a message that is sent
  module _ {card : Card} {loan : Loan} {user : Kept} {bit : ℕ} {rule : Rule} (s : Sent card loan user bit rule) where
    by_name : NamedBy card.link.session loan.image loan.clock (octets_of user) rule
    by_name = named_only card.link.session loan.image loan.clock (octets_of user) rule s.named

    long : 6 ≤ user.length
    unfolding octets_of
    long = omega (arith, by_name.at_least_6, length-take user.length user.octets)

    -- is carried out
    taken : nack_due card user ≡ false
    taken = rw (s.nothing_waits_law, le-ltb user.length 6 long)

    carried : Answers card loan (ack loan) (carried_at card loan user).order
        (link_with bit (carried_at card loan user).session (ack loan) (carried_at card loan user).pending) (gap card loan)
    carried = (meets.takes_data card loan user bit s.afresh).else_ack taken

    link_after : (gap card loan).state.link ≡ link_with bit (carried_at card loan user).session (ack loan) (carried_at card loan user).pending
    unfolding left_with
    link_after = ap (λ (c : Card). c.link) carried.leaves

  pub refused_as_named : RefusedAsNamed gap
  unfolding carried_out next_of firstly lastly
  refused_as_named card loan user bit rule s other later same its-loan nothing next fresh =
      let r = request_in user in
      let refused = refused_mirror rule card.link.session loan.clock r (row_in table r.header.type_id) other in
      let waits : replies_wait later ≡ true =
      rw (same, link_after s, (by_name s).decided, refused) (either (λ (w : Waiting). is_waiting w ≡ true) (pn_by rule) (λ t. refl) (λ t. refl)) in
      let message : (message_in (next_of later.link.pending its-loan.image)) ≡ mirror_of user (pn_bit (pn_by rule)) (cause_by rule) =
      rw (same, link_after s, (by_name s).decided, refused) (ap (λ (n : Next). message_in n) (mirror_next user _ its-loan.image rule)) in
      record {
        message = (message_in (next_of later.link.pending its-loan.image));
        replies = ((meets.collects later its-loan nothing next fresh).else_next waits).replies;
        mirrors =
            rw (message, mirror_octets user (pn_bit (pn_by rule)) (cause_by rule) (omega (arith, long s)))
            (mirror_of_law (octets_of user) (cause_by rule) (pn_bit (pn_by rule)) (omega (arith, (by_name s).at_least_6)) (omega (arith, cause_small rule)) (pn_small rule));
      }

  pub refused_not_done : RefusedNotDone gap
  unfolding carried_out
  refused_not_done card loan user bit rule s other =
      let session = card.link.session in
      let r = request_in user in
      let found = row_in table r.header.type_id in
      let so = quiet session loan.clock r rule found other in
      let left = ap (λ (l : Link). l.session) (link_after s) ∙ ap (λ (its : Rule). (done_by its session loan.clock r (deed_of its found)).session) (by_name s).decided in
      record {
        acked = (carried s).replies;
        no_order = (carried s).orders ∙ ap (λ (its : Rule). (done_by its session loan.clock r (deed_of its found)).order) (by_name s).decided ∙ so.0;
        no_time_law = (meets.takes_data card loan user bit s.afresh).times (taken s)
            ∙ ap (λ (its : Rule). (done_by its session loan.clock r (deed_of its found)).time) (by_name s).decided ∙ so.1.0;
        session_kept = λ not-it. left ∙ so.1.1 not-it;
        shut_out = λ e. left ∙ ap (λ (its : Rule). (done_by its session loan.clock r (deed_of its found)).session) e ∙ shut session loan.clock r found;
      }

  -- an accepted message does what its row says
  module _ {card : Card} {loan : Loan} {user : Kept} {bit : ℕ} (s : Sent card loan user bit Accepted) where
    abbrev session : Session
    session = card.link.session

    abbrev r : Request
    r = request_in user

    -- what the rule and the row of its type give, given that it is accepted and of a type
    at_row : {A : Type 0} (F : Rule → ℕ → A) {type : ℕ} {a : A} → r.header.type_id ≡ type → F Accepted type ≡ a
        → F (decide session loan.image loan.clock r) r.header.type_id ≡ a
    at_row F e so = ap (λ (rule : Rule). F rule r.header.type_id) (by_name s).decided ∙ ap (F Accepted) e ∙ so

    row_done : (type : ℕ) (its_session : Session) (its_order : Order) (its_time : List ℕ)
        → let done = done_by Accepted session loan.clock r (deed_of Accepted (row_in table type)) in
        (r.header.type_id ≡ type → (done.session ≡ its_session) × ((done.order ≡ its_order) × (done.time ≡ its_time)))
        → r.header.type_id ≡ type → DoneAs (done_row type its_session its_order its_time) (gap card loan)
    unfolding carried_out
    row_done type its_session its_order its_time done e =
        record {
          its_session = ap (λ (l : Link). l.session) (link_after s)
              ∙ at_row (λ rule n. (done_by rule session loan.clock r (deed_of rule (row_in table n))).session) e (done e).0;
          its_order = (carried s).orders ∙ at_row (λ rule n. (done_by rule session loan.clock r (deed_of rule (row_in table n))).order) e (done e).1.0;
          its_time = (meets.takes_data card loan user bit s.afresh).times (taken s)
              ∙ at_row (λ rule n. (done_by rule session loan.clock r (deed_of rule (row_in table n))).time) e (done e).1.1;
        }

    done_rows_law : Each (λ (row : DoneRow). r.header.type_id ≡ row.type → DoneAs row (gap card loan)) (done_rows session user)
    unfolding table row_in
    done_rows_law =
        row_done 100 session NoOrder no_time (λ e. (refl, (refl, refl)))
        and row_done 102 session NoOrder no_time (λ e. (refl, (refl, refl)))
        and row_done 103 session NoOrder no_time (λ e. (refl, (refl, refl)))
        and row_done 122 session NoOrder no_time (λ e. (refl, (refl, refl)))
        and row_done 123 session NoOrder no_time (λ e. (refl, (refl, refl)))
        and row_done 181 session SetClock (drop 6 (octets_of user) ++ replicate 3 0)
        (λ e. (refl, (refl, clock_time session loan.image loan.clock (octets_of user) (by_name s).decided e)))
        and row_done 183 (Open (point_in user)) NoOrder no_time (λ e. (refl, (refl, refl)))
        and row_done 185 session NoOrder no_time (λ e. (refl, (refl, refl)))
        and row_done 186 session SetDates (drop 6 (octets_of user))
        (λ e. (refl, (refl, dates_time session loan.image loan.clock (octets_of user) (by_name s).decided e)))
        and row_done 187 Closed NoOrder no_time (λ e. (refl, (refl, refl)))
        and tt

  pub accepted_as_named : AcceptedAsNamed gap
  accepted_as_named card loan user bit s =
      record {
        acked = (carried s).replies;
        done = done_rows_law s;
        waits = rw (link_after s) (waiting_replies card.link.session loan.image loan.clock user (by_name s).sound (by_name s).decided);
      }

-- ours
pub our_not_done : RefusedNotDone our_gap
our_not_done = refused_not_done our_gap ours.rules

pub our_refused : RefusedAsNamed our_gap
our_refused = refused_as_named our_gap ours.rules

pub our_accepted : AcceptedAsNamed our_gap
our_accepted = accepted_as_named our_gap ours.rules
