-- The next waiting reply, worked out from the image lent with its own gap. Document 01, "Each waiting reply ..".
-- Assumes nothing.
use Rattle.std.specs.Prelude.{ℕ, ◌+◌, ◌%◌, Bool, true, false, List, [], eqb, Option, Some, None, is_some, unwrap_or}
use Rattle.octets.specs.Choice.{when◌then◌else◌}
use Rattle.fields.specs.Answers.{identity_found, dates_found}
use Rattle.octets.specs.declared.Kept.{Kept}
use Rattle.message.specs.declared.Request.{Request}
use Rattle.message.specs.Requests.{request_of}
use Rattle.octets.specs.Keeping.{octets_of, kept_of}
use Rattle.message.specs.Mirror.{pn_bit, mirror_of}
use Rattle.rules.specs.Decide.{span_of}
use Rattle.data.specs.declared.Portion.{Portion}
use Rattle.data.specs.Messages.{identity_reply, clock_reply, dates_reply}
use Rattle.data.specs.Portions.{next_reading, next_events}
use Rattle.deeds.specs.declared.Waiting.{Waiting}
use Rattle.deeds.specs.declared.Waiting.TheVariants.{NoReply, Mirror, Denied, Begin, More, Type71, Type72, Type131}
use Rattle.deeds.specs.declared.Pending.{Pending}
use Rattle.waiting.specs.declared.Next.{Next}
use Rattle.deeds.specs.Deeds.{nothing_pending}
use Rattle.fields.specs.declared.Identity.{Identity}
use Rattle.fields.specs.declared.Dates.{Dates}

-- a message that is given, and what waits behind it: the rest, or nothing
unfoldable pub firstly : Kept → Pending → Next
firstly message rest = record { message = Some message; pending = rest }

unfoldable pub lastly : Kept → Next
lastly message = firstly message nothing_pending

unfoldable pub nothing_found : Next
nothing_found = record { message = None; pending = nothing_pending }

-- whether a message is given, and its octets: none where none is
abbrev pub is_given : Next → Bool
is_given next = is_some next.message

abbrev pub message_in : Next → Kept
message_in next = unwrap_or next.message (kept_of [])

-- 122 asks for type 8, 123 for type 11
unfoldable pub reading_type : ℕ → ℕ
reading_type type = when eqb type 122 then 8 else 11

-- the request that is kept, and what it asks
module _ (request : Kept) where
  abbrev pub asked : Request
  asked = request_of (octets_of request)

  -- so many of the chosen are given already
  unfoldable pub data_pending : List ℕ → ℕ → Pending
  data_pending clock before = record { waiting = More before; request = request; clock = clock }

  unfoldable pub mirror_with : Bool → ℕ → Next
  mirror_with pn cause = lastly (mirror_of request (pn_bit pn) (cause % 64))

  -- 71: from the image's first record; and 131, which without dates becomes mirror 14
  abbrev pub identity_from : Option Identity → Next
  identity_from (Some h) = lastly (kept_of (identity_reply asked.header.point h))
  identity_from None = mirror_with false 14

  abbrev pub dates_from : Option Dates → Next
  dates_from (Some d) = lastly (kept_of (dates_reply asked.header.point d))
  dates_from None = mirror_with false 14

  -- 72: the clock that was taken
  unfoldable pub clock_from : List ℕ → Next
  clock_from clock = lastly (kept_of (clock_reply asked.header.point clock))

  -- 102 asks for type 1: the next of the chosen, when so many are given already; of a reading the objects that are asked for
  unfoldable pub data_from : List ℕ → ℕ → Portion
  data_from image before =
      when eqb asked.header.type_id 102 then next_events (span_of asked) image before else
      next_reading (reading_type asked.header.type_id) (span_of asked) asked.objects image before

  -- when that image has no more chosen, mirror 10 follows
  unfoldable pub after_data : List ℕ → ℕ → Portion → Next
  after_data clock before some =
      when eqb some.many 0 then mirror_with false 10 else
      firstly some.message (data_pending clock (before + some.many))

  -- mirror 7, then data
  unfoldable pub begin_with : List ℕ → Next
  begin_with clock = firstly (mirror_of request 0 7) (data_pending clock 0)

  abbrev pub next_by : Waiting → List ℕ → List ℕ → Next
  next_by NoReply clock image = nothing_found
  next_by (Mirror cause) clock image = mirror_with false cause
  next_by Denied clock image = mirror_with true 7
  next_by Begin clock image = begin_with clock
  next_by (More before) clock image = after_data clock before (data_from image before)
  next_by Type71 clock image = identity_from (identity_found image)
  next_by Type72 clock image = clock_from clock
  next_by Type131 clock image = dates_from (dates_found image)

unfoldable pub next_of : Pending → List ℕ → Next
next_of pending image = next_by pending.request pending.waiting pending.clock image
