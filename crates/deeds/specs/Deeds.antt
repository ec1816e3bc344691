-- What a message does when it is carried out: the session, the order to the meter, what waits. Document 01, the table and "183: ..".
-- Assumes nothing.
use Rattle.std.specs.Prelude.{ℕ, Bool, true, false, List, [], ◌++◌, replicate, Option, Some, None}
use Rattle.octets.specs.Choice.{when◌then◌else◌}
use Rattle.octets.specs.declared.Kept.{Kept}
use Rattle.octets.specs.Keeping.{octets_of, kept_of}
use Rattle.label.specs.Label.{label_a_octets, label_b_octets}
use Rattle.message.specs.declared.Deed.{Deed}
use Rattle.message.specs.declared.Deed.TheVariants.{Refused, ShutOut, Opens, Closes, Gives71, Gives72, Gives131, GivesData, SetsClock, SetsDates}
use Rattle.message.specs.declared.Request.{Request}
use Rattle.message.specs.Requests.{request_of}
use Rattle.message.specs.Table.{table, row_in}
use Rattle.rules.specs.declared.Rule.{Rule}
use Rattle.rules.specs.declared.Session.{Session}
use Rattle.rules.specs.declared.Session.TheVariants.{Closed, Open}
use Rattle.rules.specs.Rules.{cause_by, pn_by, deed_by}
use Rattle.rules.specs.Decide.{decide}
use Rattle.deeds.specs.declared.Waiting.{Waiting}
use Rattle.deeds.specs.declared.Waiting.TheVariants.{NoReply, Mirror, Denied, Begin, More, Type71, Type72, Type131}
use Rattle.deeds.specs.declared.Order.{Order}
use Rattle.deeds.specs.declared.Order.TheVariants.{NoOrder, SetClock, SetDates}
use Rattle.deeds.specs.declared.Pending.{Pending}
use Rattle.deeds.specs.declared.Done.{Done}
use Rattle.deeds.specs.declared.Carried.{Carried}
use Rattle.message.specs.declared.Row.{Row}

-- accepted, what its row says; by a wrong password, shut out; else refused
abbrev pub deed_of : Rule → Option Row → Deed
deed_of rule (Some w) = deed_by rule w.deed
deed_of rule None = deed_by rule Refused

-- the mirror of a rule's cause and P/N
abbrev pub mirror_by : Rule → Waiting
mirror_by rule = when pn_by rule then Denied else Mirror (cause_by rule)

-- what is done: the session, and what waits behind it, without an order and without the clock; or mirror 7 and an order with the request's time octets
abbrev pub leaving : Session → Waiting → Done
leaving session waiting = record { session = session; order = NoOrder; time = replicate 10 0; waiting = waiting; clock = replicate 7 0 }

abbrev pub ordering : Session → Order → List ℕ → Done
ordering session order time = record { session = session; order = order; time = time; waiting = Mirror 7; clock = replicate 7 0 }

-- The column "Waiting replies". 183: the right password opens the session for that point, replacing any other; a wrong one closes it, and so does 187.
-- The clock is taken when 103 is accepted. 181 has a label b and 186 two labels a; zeros behind
module _ (rule : Rule) (session : Session) (clock : List ℕ) (r : Request) where
  abbrev pub done_by : Deed → Done
  done_by Refused = leaving session (mirror_by rule)
  done_by ShutOut = leaving Closed (mirror_by rule)
  done_by Opens = leaving (Open r.header.point) (Mirror 7)
  done_by Closes = leaving Closed (Mirror 7)
  done_by Gives71 = leaving session Type71
  done_by Gives72 = record { session = session; order = NoOrder; time = replicate 10 0; waiting = Type72; clock = clock }
  done_by Gives131 = leaving session Type131
  done_by GivesData = leaving session Begin
  done_by SetsClock = ordering session SetClock (label_b_octets r.time ++ replicate 3 0)
  done_by SetsDates = ordering session SetDates (label_a_octets r.first ++ label_a_octets r.last)

-- a message carried out, with the rule that applied and what it did
abbrev pub carried_by : Rule → Deed → Kept → Done → Carried
carried_by rule deed request done =
    record {
      rule = rule;
      deed = deed;
      session = done.session;
      order = done.order;
      time = done.time;
      pending = record { waiting = done.waiting; request = request; clock = done.clock };
    }

unfoldable pub carried_out : Session → List ℕ → List ℕ → Kept → Carried
carried_out session image clock request =
    let r = request_of (octets_of request) in
    let rule = decide session image clock r in
    let deed = deed_of rule (row_in table r.header.type_id) in
    carried_by rule deed request (done_by rule session clock r deed)

-- nothing waits
unfoldable pub nothing_pending : Pending
nothing_pending = record { waiting = NoReply; request = kept_of []; clock = replicate 7 0 }

abbrev pub is_waiting : Waiting → Bool
is_waiting NoReply = false
is_waiting (Mirror cause) = true
is_waiting Denied = true
is_waiting Begin = true
is_waiting (More before) = true
is_waiting Type71 = true
is_waiting Type72 = true
is_waiting Type131 = true
