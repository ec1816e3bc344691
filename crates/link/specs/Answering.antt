-- A sound frame for this card answered. Document 01, "Frames", the four rules of the link; 7 of "What a gap answers".
-- Assumes nothing.
use Rattle.std.specs.Prelude.{ℕ, not, ◌||◌, List, [], ltb, eqb, replicate, Option, Some, None}
use Rattle.octets.specs.Choice.{when◌then◌else◌}
use Rattle.octets.specs.First.{◌⇒◌▸◌, first_of◌else◌}
use Rattle.octets.specs.declared.Kept.{Kept}
use Rattle.address.specs.declared.LinkAddress.{LinkAddress}
use Rattle.frame.specs.declared.Control.TheVariants.{Ack, Nack, NothingToGive}
use Rattle.frame.specs.declared.Control.TheVariants as control
use Rattle.frame.specs.declared.Reply.{Reply}
use Rattle.frame.specs.declared.Service.{Service}
use Rattle.frame.specs.declared.Service.TheVariants as service
use Rattle.frame.specs.Writing.{plain}
use Rattle.fields.specs.Answers.{identity_found}
use Rattle.deeds.specs.declared.Order.TheVariants as order
use Rattle.deeds.specs.declared.Carried.{Carried}
use Rattle.deeds.specs.Deeds.{is_waiting, carried_out}
use Rattle.waiting.specs.declared.Next.{Next}
use Rattle.waiting.specs.NextReply.{next_of, is_given, message_in}
use Rattle.link.specs.declared.Link.{Link}
use Rattle.link.specs.declared.Sends.{Sends}
use Rattle.link.specs.declared.Sends.TheVariants.{NotReset, Remembered, Status}
use Rattle.link.specs.declared.Answered.{Answered}
use Rattle.link.specs.State.{data_reply, after_reset, after_new}
use Rattle.fields.specs.declared.Identity.{Identity}

-- replies carry the link address of the image; an image without a first record has 0
abbrev pub link_in : Option Identity → LinkAddress
link_in (Some identity) = identity.link
link_in None = record { 0 = 0 }

-- without an order
unfoldable pub answered_by : Sends → Link → Answered
answered_by sends link = record { sends = sends; order = order.NoOrder; time = replicate 10 0; link = link }

-- FCB new, and nothing is carried out: session and what waits are kept
unfoldable pub noted : ℕ → Reply → Link → Answered
noted bit reply link = answered_by Remembered (after_new bit reply link.session link.pending link)

-- ACK and the message is carried out
unfoldable pub carried : LinkAddress → ℕ → Link → Carried → Answered
carried address bit link done =
    record {
      sends = Remembered;
      order = done.order;
      time = done.time;
      link = after_new bit (plain Ack address) done.session done.pending link;
    }

-- function 3 gets NACK if replies wait or there are under 6 user octets
unfoldable pub user_data : LinkAddress → ℕ → Link → Kept → List ℕ → List ℕ → Answered
user_data address bit link request image clock =
    when is_waiting link.pending.waiting || ltb request.length 6 then noted bit (plain Nack address) link else
    carried address bit link (carried_out link.session image clock request)

-- function 11 gives the next waiting reply, or 09
unfoldable pub given : LinkAddress → ℕ → Link → Next → Answered
given address bit link next =
    when is_given next then answered_by Remembered (after_new bit (data_reply (message_in next) address) link.session next.pending link) else
    noted bit (plain NothingToGive address) link

unfoldable pub collection : LinkAddress → ℕ → Link → List ℕ → Answered
collection address bit link image = given address bit link (next_of link.pending image)

-- functions 3 and 11: 7 before the first reset; with FCB equal to the last the remembered reply again, nothing carried out, whatever the
-- frame holds; else afresh
unfoldable pub counted : ℕ → Link → Answered → Answered
counted bit link afresh =
    first_of
    not link.reset ⇒ answered_by NotReset link ▸
    eqb bit link.fcb ⇒ answered_by Remembered link ▸ []
    else afresh

-- reset: ACK, which is remembered; status: reply 0B, changes nothing
abbrev pub answered_to : LinkAddress → Link → Service → Kept → List ℕ → List ℕ → Answered
answered_to address link service.Reset user image clock = answered_by Remembered (after_reset (plain Ack address))
answered_to address link (service.UserData bit) user image clock = counted bit link (user_data address bit link user image clock)
answered_to address link service.Status user image clock = answered_by (Status address) link
answered_to address link (service.Collection bit) user image clock = counted bit link (collection address bit link image)

unfoldable pub answered : Link → Service → Kept → List ℕ → List ℕ → Answered
answered link service user image clock = answered_to (link_in (identity_found image)) link service user image clock

-- the reply that is sent; before the first reset there is none
abbrev pub reply_sent : Sends → Link → Reply
reply_sent NotReset link = link.remembered
reply_sent Remembered link = link.remembered
reply_sent (Status address) link = plain control.Status address
