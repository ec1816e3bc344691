-- The lines that the programs write, and what writing one into a lent buffer answers and leaves.
-- Assumes nothing.
use Rattle.std.specs.Prelude.{ℕ, ◌+◌, ◌≤◌, List, [], ◌∷◌, ◌++◌, ◌≡◌, length, take}
use Rattle.octets.specs.Choice.{when◌then◌else◌}
use Rattle.octets.specs.Over.{over, laid_in, Does}
use Rattle.octets.specs.Calls.{fits_at}
use Rattle.deeds.specs.declared.Order.{Order}
use Rattle.deeds.specs.declared.Order.TheVariants.{NoOrder, SetClock, SetDates}
use Rattle.printing.specs.Text.{decimal, pairs}

-- what stands between, what stands for nothing, what ends a line
abbrev pub space : List ℕ
space = 32 ∷ []

abbrev pub dash : List ℕ
dash = 45 ∷ []

abbrev pub newline : List ℕ
newline = 10 ∷ []

-- the last line where the input is cut: cut
abbrev pub cut_line : List ℕ
cut_line = 99 ∷ 117 ∷ 116 ∷ newline

-- an order: -, clock or dates
abbrev pub word : Order → List ℕ
word NoOrder = dash
word SetClock = 99 ∷ 108 ∷ 111 ∷ 99 ∷ 107 ∷ []
word SetDates = 100 ∷ 97 ∷ 116 ∷ 101 ∷ 115 ∷ []

-- two numbers and an order: what both lines begin with
unfoldable pub beginning : ℕ → ℕ → Order → List ℕ
beginning first second order = decimal first ++ space ++ decimal second ++ space ++ word order

-- a reply: each pair behind a space, or -
abbrev pub reply_text : List ℕ → List ℕ
reply_text [] = space ++ dash
reply_text (octet ∷ rest) = pairs space (octet ∷ rest)

-- the part of it that is no pairs: the dash where there are none
unfoldable pub dash_for : List ℕ → List ℕ
dash_for [] = reply_text []
dash_for (octet ∷ rest) = []

-- the printing program's line: run number, result number, order, reply
unfoldable pub line_of : ℕ → ℕ → Order → List ℕ → List ℕ
line_of number result order reply = beginning number result order ++ reply_text reply ++ newline

-- the octets of an order: of ten the first 7 for the clock and all for the dates, or -
abbrev pub time_text : Order → List ℕ → List ℕ
time_text NoOrder time = dash
time_text SetClock time = pairs [] (take 7 time)
time_text SetDates time = pairs [] (take 10 time)

-- the driving program's line: number, length, order, the order's octets, the count of damaged runs, the buffer
unfoldable pub gap_line : ℕ → ℕ → Order → List ℕ → ℕ → List ℕ → List ℕ
gap_line number count order time damaged buffer =
    beginning number count order ++ space ++ time_text order time ++ space ++ decimal damaged ++ space ++ pairs [] buffer ++ newline

-- of a text that does not fit into a buffer nothing is written
abbrev pub fitting : List ℕ → List ℕ → List ℕ
fitting under text = when fits_at under 0 text then text else []

-- `Lined under text count left`: what fits stands in the first octets of the buffer, the rest unchanged, and its length is answered
abbrev pub Lined : List ℕ → List ℕ → ℕ → List ℕ → Type 0
Lined under text count left = Does (length (fitting under text)) (laid_in under (fitting under text)) count left

-- `PutAt under at part to left`: a part is written over a buffer from index `at` on, fits there, and ends at `to`
pub record PutAt (under : List ℕ) (at : ℕ) (part : List ℕ) (to : ℕ) (left : List ℕ) : Type 0 where
  pub ends : to ≡ at + length part
  pub fits : to ≤ length under
  pub stands : left ≡ over under at part
