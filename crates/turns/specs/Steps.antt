-- A program that takes turn after turn from an input, as lists: what it writes. That this is `printed` is shown in `proofs/Steps`.
-- Assumes nothing.
use Rattle.std.specs.Prelude.{ℕ, ◌+◌, true, false, List, [], ◌∷◌, ◌≡◌, drop}
use Rattle.input.specs.Input.{head_size, image_in, clock_in}
use Rattle.turns.specs.Printed.{Turn, head_turn, next_turn, behind_run}

-- `Steps image clock t number rest texts`: the text of turn `t` is written; where a run may follow, on with the next turn, the next number and
-- what is left behind its run, and else it ends
unfoldable pub Steps : List ℕ → List ℕ → Turn → ℕ → List ℕ → List (List ℕ) → Type 0
Steps image clock t number rest [] = ⊥
Steps image clock t number rest (text ∷ []) = (text ≡ t.text) × (t.more ≡ false)
Steps image clock t number rest (text ∷ next ∷ texts) =
    (text ≡ t.text) × (t.more ≡ true) × Steps image clock (next_turn image clock t number rest) (number + 1) (behind_run rest) (next ∷ texts)

-- `Program input texts`: the steps from the head on, and the first run has number 1
abbrev pub Program : List ℕ → List (List ℕ) → Type 0
Program input texts = Steps (image_in input) (clock_in input) (head_turn input) 1 (drop (head_size input) input) texts
