-- What the functions that do a call return, and what they leave of the image's space, the reply buffer and the buffer for the text.
-- Assumes nothing.
use Rattle.std.specs.Prelude.{ℕ, Bool, true, false, ◌&&◌, List, ◌≡◌, length}
use Rattle.octets.specs.Choice.{when◌then◌else◌}
use Rattle.octets.specs.Over.{laid_in, Does}
use Rattle.octets.specs.Calls.{fits_at}
use Rattle.card.specs.declared.Gone.{Gone}
use Rattle.input.specs.declared.Call.{Call}
use Rattle.input.specs.declared.Call.TheVariants as call
use Rattle.printing.specs.Line.{gap_line, fitting}
use Rattle.driving.specs.declared.Held.{Held}
use Rattle.driving.specs.declared.Left.{Left}
use Rattle.driving.specs.Driven.{Bench, Step}

-- the bench in its parts: what is held by value, and the image and the buffer, which are lent
unfoldable pub bench_of : Held → List ℕ → List ℕ → Bench
bench_of held image buffer = record { profile = held.profile; card = held.card; image = image; clock = held.clock; room = held.room; buffer = buffer }

unfoldable pub held_of : Bench → Held
held_of b = record { profile = b.profile; card = b.card; clock = b.clock; room = b.room }

-- the result of a call that writes a text
unfoldable pub left_by : List ℕ → Held → Bool → Left
left_by text held more = record { count = length text; held = held; more = more }

-- `Writes under text held more r left`: what is returned, and what is left of the buffer `under`: the text in its first octets, the rest
-- unchanged; a text that does not fit is not written
abbrev pub Writes : List ℕ → List ℕ → Held → Bool → Left → List ℕ → Type 0
Writes under text held more r left = Does (left_by (fitting under text) held more) (laid_in under (fitting under text)) r left

-- `Stepped under s r buffer left`: so of the step `s`, with what it leaves of the reply buffer
abbrev pub Stepped : List ℕ → Step → Left → List ℕ → List ℕ → Type 0
Stepped under s r buffer left = Writes under s.text (held_of s.bench) s.more r left × (buffer ≡ s.bench.buffer)

-- the line of what a gap returned
unfoldable pub gone_line : Gone → List ℕ → List ℕ
gone_line gone buffer = gap_line gone.number gone.length gone.order gone.time gone.card.damaged buffer

-- an I alone has an image
abbrev pub is_image : Call → Bool
is_image call.Image = true
is_image call.End = false
is_image call.Cut = false
is_image call.Wrong = false
is_image call.Clock = false
is_image call.Room = false
is_image call.Octets = false
is_image call.ElevenBits = false
is_image call.Characters = false
is_image call.Gap = false
is_image call.Why = false

-- `ImageAfter call space had image r left`: the image of an I that fits stands in the first octets of its space, and all its octets count; else
-- those that counted before do, and the space is as it was
abbrev pub ImageAfter : Call → List ℕ → ℕ → List ℕ → ℕ → List ℕ → Type 0
ImageAfter call space had image r left =
    let comes = is_image call && fits_at space 0 image in
    Does (when comes then length image else had) (when comes then laid_in space image else space) r left
