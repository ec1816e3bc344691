-- What the printing program prints for a whole input: octets in, octets out, turn after turn. The head is a turn, and so is each run.
-- Document 01, "The printing program". Assumes nothing.
use Rattle.std.specs.Prelude.{ℕ, zero, suc, ◌+◌, Bool, true, false, List, [], ◌∷◌, ◌++◌, length, take, drop}
use Rattle.octets.specs.Choice.{when◌then◌else◌}
use Rattle.card.specs.declared.Card.{Card}
use Rattle.card.specs.State.{card_at_power_on, with_octets}
use Rattle.card.specs.Gap.{Outcome, gapped}
use Rattle.input.specs.declared.Head.{Head}
use Rattle.input.specs.declared.Head.TheVariants as head
use Rattle.input.specs.declared.Run.{Run}
use Rattle.input.specs.declared.Run.TheVariants as run
use Rattle.input.specs.Input.{head_found, head_size, image_in, clock_in, run_found, run_size}
use Rattle.printing.specs.Line.{cut_line, newline, line_of}

-- the fixed words, each on a line of its own: version, image; and cut (`printing`)
abbrev pub version_line : List ℕ
version_line = 118 ∷ 101 ∷ 114 ∷ 115 ∷ 105 ∷ 111 ∷ 110 ∷ newline

abbrev pub image_line : List ℕ
image_line = 105 ∷ 109 ∷ 97 ∷ 103 ∷ 101 ∷ newline

-- what a turn does: the text that it gives, the card after it, whether a run may follow
pub record Turn : Type 0 where
  pub text : List ℕ
  pub card : Card
  pub more : Bool

abbrev pub turn_by : List ℕ → Card → Bool → Turn
turn_by text card more = record { text = text; card = card; more = more }

-- nothing follows
abbrev pub last_turn : List ℕ → Card → Turn
last_turn text card = turn_by text card false

-- the head: of another version only `version`; empty or cut, `cut`; with an unsound image only `image`; else the runs follow, with the card
-- at power-on
unfoldable pub after_head : Head → Turn
after_head head.Version = last_turn version_line card_at_power_on
after_head head.Cut = last_turn cut_line card_at_power_on
after_head head.Image = last_turn image_line card_at_power_on
after_head head.Whole = turn_by [] card_at_power_on true

unfoldable pub head_turn : List ℕ → Turn
head_turn read = after_head (head_found read)

-- the line of a gap: run number, result number, order, reply
unfoldable pub line_turn : ℕ → Outcome → Turn
line_turn number o = turn_by (line_of number o.number o.order o.reply) o.card true

-- a gap behind the octets that the card has, lent a reply buffer of 261 octets
unfoldable pub gap_turn : Card → List ℕ → List ℕ → ℕ → Turn
gap_turn card image clock number = line_turn number (gapped card image clock 261)

-- a run with its length: the input ends before it; it is cut, and not put in; or its octets are put in, and a gap follows
unfoldable pub after_run : Run → Card → List ℕ → List ℕ → ℕ → List ℕ → Turn
after_run run.End card image clock number octets = last_turn [] card
after_run run.Cut card image clock number octets = last_turn cut_line card
after_run run.Whole card image clock number octets = gap_turn (with_octets card (drop 2 octets)) image clock number

unfoldable pub run_turn : Card → List ℕ → List ℕ → ℕ → List ℕ → Turn
run_turn card image clock number octets = after_run (run_found octets) card image clock number octets

-- what is left of an input begins with a run and its length
abbrev pub first_run : List ℕ → List ℕ
first_run rest = take (run_size rest) rest

abbrev pub behind_run : List ℕ → List ℕ
behind_run rest = drop (run_size rest) rest

-- the turn of that run, behind another turn: it meets the card that the other left
abbrev pub next_turn : List ℕ → List ℕ → Turn → ℕ → List ℕ → Turn
next_turn image clock t number rest = run_turn t.card image clock number (first_run rest)

-- the texts from a turn on: its own and, where a run may follow, those from the next turn on, with the next number. The fuel ends the recursion;
-- the length of what is left is always enough (`proofs/Steps`)
unfoldable pub turns_text : ℕ → List ℕ → List ℕ → Turn → ℕ → List ℕ → List ℕ
turns_text zero image clock t number rest = t.text
turns_text (suc fuel) image clock t number rest =
    t.text ++ (when t.more then turns_text fuel image clock (next_turn image clock t number rest) (number + 1) (behind_run rest) else [])

-- all that is printed: the texts from the head on, and the first run has number 1
unfoldable pub printed : List ℕ → List ℕ
printed input = turns_text (length input) (image_in input) (clock_in input) (head_turn input) 1 (drop (head_size input) input)
