-- The rules by which a message is refused: the cause and P/N of the mirror that each gives, and what the message does. Document 01, "First that applies".
-- Assumes nothing.
use Rattle.std.specs.Prelude.{ℕ, Bool, true, false}
use Rattle.message.specs.declared.Deed.{Deed}
use Rattle.message.specs.declared.Deed.TheVariants.{Refused, ShutOut}
use Rattle.rules.specs.declared.Rule.{Rule}
use Rattle.rules.specs.declared.Rule.TheVariants.{Marked, UnknownType, NoSession, UnknownPoint, OtherSession, Shape, Address, Objects, ReadingLabel, ReadingRange, NoReading, EventLabel, EventRange, NoEvent, ClockUnset, NoDates, TimeLabel, WrongPassword, Accepted}

-- the cause of the mirror; whether its P/N is 1, which of all refusals only those of cause 7 have; and what the message does: where it is accepted,
-- what its row says
abbrev pub ruling : Rule → Deed → ℕ × Bool × Deed
ruling Marked its = (14, false, Refused)
ruling UnknownType its = (14, false, Refused)
ruling NoSession its = (14, false, Refused)
ruling UnknownPoint its = (16, false, Refused)
ruling OtherSession its = (14, false, Refused)
ruling Shape its = (14, false, Refused)
ruling Address its = (15, false, Refused)
ruling Objects its = (17, false, Refused)
ruling ReadingLabel its = (18, false, Refused)
ruling ReadingRange its = (18, false, Refused)
ruling NoReading its = (18, false, Refused)
ruling EventLabel its = (18, false, Refused)
ruling EventRange its = (18, false, Refused)
ruling NoEvent its = (13, false, Refused)
ruling ClockUnset its = (13, false, Refused)
ruling NoDates its = (14, false, Refused)
ruling TimeLabel its = (7, true, Refused)
ruling WrongPassword its = (7, true, ShutOut)
ruling Accepted its = (7, false, its)

abbrev pub cause_by : Rule → ℕ
cause_by rule = (ruling rule Refused).0

abbrev pub pn_by : Rule → Bool
pn_by rule = (ruling rule Refused).1

abbrev pub deed_by : Rule → Deed → Deed
deed_by rule its = (ruling rule its).2
