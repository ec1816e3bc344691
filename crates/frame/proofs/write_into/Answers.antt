-- `write_into` writes a reply into the first octets.
-- By its control field. Assumes nothing.
use Rattle.std.proofs.Common.{refl}
use Rattle.octets.specs.Keeping.{octets_of}
use Rattle.frame.specs.declared.Control.TheVariants.{Data}
use Rattle.frame.proofs.Writing.{reply_stands, fixed_reply}
use Rattle.frame.proofs.write_into.Goals as goal

pub returns-in-Data : goal.returns-in-Data
unfolding octets_of
returns-in-Data c =
    record {
      stands = reply_stands _ _ Data c.in-Data.is (rw (c.octet-control.ensures, c.in-Data.is, c.as_slice.ensures) at c.write_variable.ensures);
      whole = c.write_variable.array_long;
    }

pub returns-in-Ack : goal.returns-in-Ack
unfolding octets_of
returns-in-Ack c =
    let reply = c.args.reply in
    record {
      stands =
          reply_stands _ _ reply.control refl
          (rw (← (fixed_reply reply.control reply.link.0 (octets_of reply.user) c.in-Ack.is)) (rw c.octet-control.ensures at c.write_fixed.ensures));
      whole = c.write_fixed.array_long;
    }
