-- The control field. Document 01, "C from the centre" and "C of replies".
-- Assumes nothing.
use Rattle.std.specs.Prelude.{ℕ, Bool, true, false, not, ◌&&◌, [], ◌==◌, Option, Some, None}
use Rattle.octets.specs.Bits.{bits◌to◌of◌}
use Rattle.octets.specs.First.{◌⇒◌▸◌, first_of◌else◌}
use Rattle.frame.specs.declared.Form.{Form}
use Rattle.frame.specs.declared.Form.TheVariants.{Fixed, Variable}
use Rattle.frame.specs.declared.Service.{Service}
use Rattle.frame.specs.declared.Service.TheVariants.{Reset, UserData, Status, Collection}
use Rattle.frame.specs.Frame.{Frame, fixed, variable}
use Rattle.frame.specs.declared.Control.{Control}
use Rattle.frame.specs.declared.Control.TheVariants.{Ack, Nack, Data, NothingToGive}
use Rattle.frame.specs.declared.Control.TheVariants.{Status as StatusReply}

-- bit 6 FCB, bit 5 FCV, bits 4 to 1 the function
abbrev pub fcb : ℕ → ℕ
fcb c = bits 6 to 6 of c

abbrev pub fcv : ℕ → ℕ
fcv c = bits 5 to 5 of c

abbrev pub function_of : ℕ → ℕ
function_of c = bits 1 to 4 of c

-- bit 8 zero, bit 7 one
abbrev pub from_centre : ℕ → Bool
from_centre c = (bits 8 to 8 of c) == 0 && (bits 7 to 7 of c) == 1

-- whether a control field in a frame of a form is that of a function, in its form and with its FCV
abbrev pub in_form : Form → Form → Bool
in_form Fixed Fixed = true
in_form Fixed Variable = false
in_form Variable Fixed = false
in_form Variable Variable = true

abbrev pub calls : Form → ℕ → Form → ℕ → ℕ → Bool
calls form c its_form number its_fcv = in_form its_form form && (function_of c == number && fcv c == its_fcv)

-- offered: 0 reset (fixed, FCV 0), 3 user data (variable, FCV 1), 9 status (fixed, FCV 0), 11 class 2 (fixed, FCV 1); with FCV 0 the FCB
-- is not looked at
unfoldable pub offered : Form → ℕ → Option Service
offered form c =
    first_of
    not (from_centre c) ⇒ None ▸
    calls form c Fixed 0 0 ⇒ Some Reset ▸
    calls form c Variable 3 1 ⇒ Some (UserData (fcb c)) ▸
    calls form c Fixed 9 0 ⇒ Some Status ▸
    calls form c Fixed 11 1 ⇒ Some (Collection (fcb c)) ▸ []
    else None

-- what a sound frame asks for
abbrev pub asked_by : Frame → Option Service
asked_by (fixed c a) = offered Fixed c
asked_by (variable c a user) = offered Variable c

-- functions 3 and 11, user data and collection, with their FCB
pub data Counts : Service → ℕ → Type 0 where
  user_data_law : {bit : ℕ} → Counts (UserData bit) bit
  collects : {bit : ℕ} → Counts (Collection bit) bit

-- C of replies: 00 ACK, 01 NACK, 08 data, 09 nothing to give, 0B status; ACD and DFC are 0
abbrev pub control_of : Control → ℕ
control_of Ack = 0x00
control_of Nack = 0x01
control_of Data = 0x08
control_of NothingToGive = 0x09
control_of StatusReply = 0x0B
