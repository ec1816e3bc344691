-- What a turn returns that writes its text into a lent buffer, also where the buffer is short.
-- Assumes nothing.
use Rattle.std.specs.Prelude.{ℕ, ◌≤◌, List, [], ltb, length}
use Rattle.octets.specs.Choice.{when◌then◌else◌}
use Rattle.octets.specs.Over.{laid_in, Does}
use Rattle.card.specs.declared.Card.{Card}
use Rattle.turns.specs.declared.Left.{Left}
use Rattle.turns.specs.Printed.{Turn, last_turn}

-- a buffer under 1,024 octets is refused: no text, the card as it was before the turn, and no run may follow
unfoldable pub fitting_turn : List ℕ → Card → Turn → Turn
fitting_turn under before t = when ltb (length under) 1024 then last_turn [] before else t

-- the result that says so
unfoldable pub left_by : Turn → Left
left_by t = record { count = length t.text; card = t.card; more = t.more }

-- `Taken under t r left`: what turn `t` returns, and what it leaves of the buffer `under`: the text in its first octets, the rest unchanged. The
-- text has 1,024 octets at most, so a buffer of so many holds it
abbrev pub Taken : List ℕ → Turn → Left → List ℕ → Type 0
Taken under t r left = Does (left_by t) (laid_in under t.text) r left × (length t.text ≤ 1024)

-- `Turned under before t r left`: so of turn `t` of the card `before`, or of its refusal where the buffer is short
abbrev pub Turned : List ℕ → Card → Turn → Left → List ℕ → Type 0
Turned under before t r left = Taken under (fitting_turn under before t) r left
