-- Replies: what is meant by one, and the frame that says it.
-- Assumes nothing.
use Rattle.std.specs.Prelude.{ℕ, List, []}
use Rattle.octets.specs.Keeping.{octets_of, kept_of}
use Rattle.address.specs.declared.LinkAddress.{LinkAddress}
use Rattle.frame.specs.declared.Control.{Control}
use Rattle.frame.specs.declared.Control.TheVariants.{Ack, Nack, Data, NothingToGive, Status}
use Rattle.frame.specs.declared.Reply.{Reply}
use Rattle.frame.specs.Family.{sapr}
use Rattle.frame.specs.Frame.{Frame, fixed, variable, written}
use Rattle.frame.specs.Controls.{control_of}

-- a reply without user octets
abbrev pub plain : Control → LinkAddress → Reply
plain control link = record { control = control; link = link; user = kept_of [] }

-- data is of the variable form, all other replies are of the fixed one
abbrev pub frame_as : Control → ℕ → List ℕ → Frame
frame_as Ack a user = fixed (control_of Ack) a
frame_as Nack a user = fixed (control_of Nack) a
frame_as NothingToGive a user = fixed (control_of NothingToGive) a
frame_as Status a user = fixed (control_of Status) a
frame_as Data a user = variable (control_of Data) a user

unfoldable pub reply_frame : Reply → Frame
reply_frame reply = frame_as reply.control reply.link.0 (octets_of reply.user)

unfoldable pub reply_octets : Reply → List ℕ
reply_octets reply = written sapr (reply_frame reply)
