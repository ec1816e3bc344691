-- What the driving program writes for a whole input: octets in, octets out, call after call. second/README.md, "The driving face".
-- Assumes nothing.
use Rattle.std.specs.Prelude.{ℕ, zero, suc, Bool, true, false, List, [], ◌∷◌, ◌++◌, length, take, drop, replicate}
use Rattle.octets.specs.Choice.{when◌then◌else◌}
use Rattle.octets.specs.Over.{laid_in}
use Rattle.profile.specs.declared.Profile.{Profile}
use Rattle.profile.specs.declared.Profile.TheVariants.{Ten, Eleven}
use Rattle.profile.specs.Profile.{run_sent}
use Rattle.card.specs.declared.Card.{Card}
use Rattle.card.specs.State.{card_at_power_on, with_characters}
use Rattle.card.specs.Gap.{Outcome, gapped}
use Rattle.input.specs.declared.Call.{Call}
use Rattle.input.specs.declared.Call.TheVariants as call
use Rattle.input.specs.Input.{length_of2, clock_at, characters_in, call_size, call_found}
use Rattle.printing.specs.Line.{cut_line, newline, gap_line}
use Rattle.why.specs.Asking.{why_of}
use Rattle.why.specs.Told.{why_line}

-- the fixed words, each on a line of its own: call; and cut (`printing`)
abbrev pub call_line : List ℕ
call_line = 99 ∷ 97 ∷ 108 ∷ 108 ∷ newline

-- what is kept between two calls: the profile and the card, and what a gap is lent: the image, the clock, so many octets of the reply buffer
pub record Bench : Type 0 where
  pub profile : Profile
  pub card : Card
  pub image : List ℕ
  pub clock : List ℕ
  pub room : ℕ
  pub buffer : List ℕ

-- at the start: a ten-bit card; the image is empty, the clock zeros, the lent length 261, and the reply buffer 300 octets of AA
unfoldable pub at_start : Bench
at_start = record { profile = Ten; card = card_at_power_on; image = []; clock = replicate 7 0; room = 261; buffer = replicate 300 0xAA }

-- one function for each part that a call changes
unfoldable pub with_image : List ℕ → Bench → Bench
with_image image b = record { profile = b.profile; card = b.card; image = image; clock = b.clock; room = b.room; buffer = b.buffer }

unfoldable pub with_clock : List ℕ → Bench → Bench
with_clock clock b = record { profile = b.profile; card = b.card; image = b.image; clock = clock; room = b.room; buffer = b.buffer }

unfoldable pub with_room : ℕ → Bench → Bench
with_room room b = record { profile = b.profile; card = b.card; image = b.image; clock = b.clock; room = room; buffer = b.buffer }

unfoldable pub with_card : Card → Bench → Bench
with_card card b = record { profile = b.profile; card = card; image = b.image; clock = b.clock; room = b.room; buffer = b.buffer }

unfoldable pub with_profile : Profile → Bench → Bench
with_profile profile b = record { profile = profile; card = b.card; image = b.image; clock = b.clock; room = b.room; buffer = b.buffer }

unfoldable pub with_buffer : List ℕ → Bench → Bench
with_buffer buffer b = record { profile = b.profile; card = b.card; image = b.image; clock = b.clock; room = b.room; buffer = buffer }

-- what a call does: the text that it gives, the bench after it, whether another may follow
pub record Step : Type 0 where
  pub text : List ℕ
  pub bench : Bench
  pub more : Bool

-- no text, and another call may follow
abbrev pub silent_step : Bench → Step
silent_step b = record { text = []; bench = b; more = true }

-- nothing follows, and the call has no effect
abbrev pub last_step : List ℕ → Bench → Step
last_step text b = record { text = text; bench = b; more = false }

-- the line of a gap: number, length, order, the order's octets, the count of damaged runs after the gap, all of the buffer, in whose first
-- octets the reply stands
unfoldable pub line_step : Outcome → Bench → Step
line_step o b =
    let buffer = laid_in b.buffer o.reply in
    record {
      text = gap_line o.number (length o.reply) o.order o.time o.card.damaged buffer;
      bench = with_card o.card (with_buffer buffer b);
      more = true;
    }

-- a gap is lent the first octets of the buffer, so many as there is room
unfoldable pub gap_step : Bench → Step
gap_step b = line_step (gapped b.card b.image b.clock (length (take b.room b.buffer))) b

-- the line that tells why the card as it is would refuse a message, with the image and the clock lent now; nothing is changed
unfoldable pub why_text : Bench → List ℕ → List ℕ
why_text b message = why_line (why_of b.card.link.session b.image b.clock message)

unfoldable pub why_step : Bench → List ℕ → Step
why_step b message = record { text = why_text b message; bench = b; more = true }

-- the image of an I stands behind its letter and a length of 3 octets
abbrev pub image_of : List ℕ → List ℕ
image_of octets = drop 4 octets

-- the octets of an O stand behind its letter and a length of 2 octets, and so do the pairs of a P and the message of a W
abbrev pub behind_length : List ℕ → List ℕ
behind_length octets = drop 3 octets

-- a call by what it is: input that ends between two calls just ends. The octets of an O come in one by one, with eleven bits each with its right parity bit; so
-- do the characters of a P. An E gives a card at power-on of the eleven-bit profile, and what is lent stays
unfoldable pub after_call : Call → Bench → List ℕ → Step
after_call call.End b octets = last_step [] b
after_call call.Cut b octets = last_step cut_line b
after_call call.Wrong b octets = last_step call_line b
after_call call.Image b octets = silent_step (with_image (image_of octets) b)
after_call call.Clock b octets = silent_step (with_clock (clock_at octets 1) b)
after_call call.Room b octets = silent_step (with_room (length_of2 octets 1) b)
after_call call.Octets b octets = silent_step (with_card (with_characters b.profile b.card (run_sent b.profile (behind_length octets))) b)
after_call call.ElevenBits b octets = silent_step (with_card card_at_power_on (with_profile Eleven b))
after_call call.Characters b octets = silent_step (with_card (with_characters Eleven b.card (characters_in (behind_length octets))) b)
after_call call.Gap b octets = gap_step b
after_call call.Why b octets = why_step b (behind_length octets)

unfoldable pub call_step : Bench → List ℕ → Step
call_step b octets = after_call (call_found b.profile octets) b octets

-- what is left of an input begins with a call
abbrev pub first_call : Profile → List ℕ → List ℕ
first_call p rest = take (call_size p rest) rest

abbrev pub behind_call : Profile → List ℕ → List ℕ
behind_call p rest = drop (call_size p rest) rest

-- the texts of the calls in what is left of an input: each call meets the bench that the one before it left. The fuel ends the recursion
unfoldable pub steps_text : ℕ → Bench → List ℕ → List ℕ
steps_text zero b rest = []
steps_text (suc fuel) b rest =
    let s = call_step b (first_call b.profile rest) in
    s.text ++ (when s.more then steps_text fuel s.bench (behind_call b.profile rest) else [])

-- all that is written
unfoldable pub driven : List ℕ → List ℕ
driven input = steps_text (length input) at_start input
