-- The link and the session: what they are at power-on, after a reset and after a frame with a new FCB. This is the one file in which the record is spelled.
-- Assumes nothing.
use Rattle.std.specs.Prelude.{ℕ, true, false}
use Rattle.octets.specs.declared.Kept.{Kept}
use Rattle.address.specs.declared.LinkAddress.{LinkAddress}
use Rattle.frame.specs.declared.Control.TheVariants.{Ack, Data}
use Rattle.frame.specs.declared.Reply.{Reply}
use Rattle.frame.specs.Writing.{plain}
use Rattle.rules.specs.declared.Session.{Session}
use Rattle.rules.specs.declared.Session.TheVariants.{Closed}
use Rattle.deeds.specs.declared.Pending.{Pending}
use Rattle.deeds.specs.Deeds.{nothing_pending}
use Rattle.link.specs.declared.Link.{Link}

-- a reply of data
abbrev pub data_reply : Kept → LinkAddress → Reply
data_reply message address = record { control = Data; link = address; user = message }

-- at power-on: link not reset, no session, nothing waiting. No reply is remembered yet; what stands there is not seen before a reset
unfoldable pub power_on : Link
power_on = record { reset = false; fcb = 0; session = Closed; remembered = plain Ack (record { 0 = 0 }); pending = nothing_pending }

-- reset: session closed, waiting replies dropped, last FCB 0, the reply remembered
unfoldable pub after_reset : Reply → Link
after_reset reply = record { reset = true; fcb = 0; session = Closed; remembered = reply; pending = nothing_pending }

-- FCB new: it becomes the last, the reply becomes the remembered one; the session and what waits are as the frame leaves them
unfoldable pub after_new : ℕ → Reply → Session → Pending → Link → Link
after_new bit reply session pending link =
    record { reset = link.reset; fcb = bit; session = session; remembered = reply; pending = pending }
