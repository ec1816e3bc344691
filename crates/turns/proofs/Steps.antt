-- What a program writes that takes turn after turn is what is printed, and there is such a program for every input.
-- A run takes two octets or more, so the length of what is left is fuel enough. Assumes nothing.
use Prim.Native.Nat.{ℕ, zero, suc, ◌+◌, ◌≤◌}
use mathlib.Core.Bool.{Bool, true, false}
use mathlib.Core.List.{List, [], ◌∷◌, ◌++◌, append-nil, flatten}
use mathlib.Core.Path.{◌≡◌, refl, sym, ap, ◌∙◌}
use native.Mathlib.Omega.{arith}
use lib.Dec.{ltb}
use lib.ListN.{length, drop, length-drop}
use Rattle.octets.specs.Choice.{when◌then◌else◌}
use Rattle.octets.proofs.Choice.{either, if_both}
use Rattle.input.specs.Input.{head_size, image_in, clock_in, run_found, run_size}
use Rattle.turns.specs.Printed.{Turn, head_turn, after_run, run_turn, behind_run, next_turn, turns_text, printed}
use Rattle.turns.specs.Steps.{Steps, Program}

-- a run's length alone has two octets
pub run_two : (read : List ℕ) → 2 ≤ run_size read
unfolding run_size
run_two read = either (λ (n : ℕ). 2 ≤ n) (ltb (length read) 2) (λ _. omega arith) (λ _. omega arith)

-- so less is left behind it
less_left : (rest : List ℕ) (fuel : ℕ) → length rest ≤ suc fuel → length (behind_run rest) ≤ fuel
less_left rest fuel h = omega (arith, run_two rest, length-drop (run_size rest) rest)

module _ (image clock : List ℕ) where
  -- the turn behind a turn
  abbrev next : Turn → ℕ → List ℕ → Turn
  next t number rest = next_turn image clock t number rest

  -- nothing is written behind a turn where nothing is left
  turns_none : (fuel : ℕ) (t : Turn) (number : ℕ) (rest : List ℕ) → length rest ≤ 0 → turns_text fuel image clock t number rest ≡ t.text
  unfolding turns_text run_turn run_found run_size after_run
  turns_none zero t number rest h = refl
  turns_none (suc fuel) t number [] h =
      ap (λ (l : List ℕ). t.text ++ l)
      (either (λ (l : List ℕ). l ≡ []) t.more (λ _. turns_none fuel (next t number []) (number + 1) [] (omega arith)) (λ _. refl))
      ∙ append-nil t.text
  turns_none (suc fuel) t number (octet ∷ rest) h = absurd (omega arith)

  -- any fuel that is as long as what is left is enough
  turns_same : (fuel other : ℕ) (t : Turn) (number : ℕ) (rest : List ℕ) → length rest ≤ fuel → length rest ≤ other
      → turns_text fuel image clock t number rest ≡ turns_text other image clock t number rest
  unfolding turns_text
  turns_same zero other t number rest h k = sym (turns_none other t number rest h)
  turns_same (suc fuel) zero t number rest h k = turns_none (suc fuel) t number rest k
  turns_same (suc fuel) (suc other) t number rest h k =
      ap (λ (l : List ℕ). t.text ++ l)
      (if_both ◌≡◌ t.more
      (λ _. turns_same fuel other (next t number rest) (number + 1) (behind_run rest) (less_left rest fuel h) (less_left rest other k))
      (λ _. refl))

  -- so the texts are that of a turn and, where a run may follow, those from the next turn on
  pub turns_next : (t : Turn) (number : ℕ) (rest : List ℕ) (b : Bool) → t.more ≡ b
      → turns_text (length rest) image clock t number rest
      ≡ t.text ++ (when b then turns_text (length (behind_run rest)) image clock (next t number rest) (number + 1) (behind_run rest) else [])
  unfolding turns_text
  turns_next t number rest b e =
      let behind : List ℕ = turns_text (length (behind_run rest)) image clock (next t number rest) (number + 1) (behind_run rest) in
      turns_same (length rest) (suc (length rest)) t number rest (omega arith) (omega arith)
      ∙ ap (λ (l : List ℕ). t.text ++ l)
      (if_both ◌≡◌ t.more
      (λ _. turns_same (length rest) (length (behind_run rest)) (next t number rest) (number + 1) (behind_run rest) (less_left rest (length rest) (omega arith))
      (omega arith))
      (λ _. refl))
      ∙ ap (λ (m : Bool). t.text ++ (when m then behind else [])) e

  -- step after step
  steps_text_law : (texts : List (List ℕ)) (t : Turn) (number : ℕ) (rest : List ℕ) → Steps image clock t number rest texts
      → flatten texts ≡ turns_text (length rest) image clock t number rest
  unfolding Steps flatten
  steps_text_law [] t number rest s = absurd s
  steps_text_law (text ∷ []) t number rest s = ap (λ (l : List ℕ). l ++ []) s.0 ∙ sym (turns_next t number rest false s.1)
  steps_text_law (text ∷ more ∷ texts) t number rest s =
      ap (λ (l : List ℕ). l ++ flatten (more ∷ texts)) s.0
      ∙ ap (λ (l : List ℕ). t.text ++ l) (steps_text_law (more ∷ texts) (next t number rest) (number + 1) (behind_run rest) s.2)
      ∙ sym (turns_next t number rest true s.1)

  -- there are steps from whatever turn on: one for each run, and the last
  step_on : (t : Turn) (number : ℕ) (rest : List ℕ) (b : Bool) → t.more ≡ b
      → (texts : List (List ℕ)) × Steps image clock (next t number rest) (number + 1) (behind_run rest) texts
      → (texts : List (List ℕ)) × Steps image clock t number rest texts
  unfolding Steps
  step_on t number rest false e on = (t.text ∷ [], (refl, e))
  step_on t number rest true e on = behind on.0 on.1 where
    behind : (texts : List (List ℕ)) → Steps image clock (next t number rest) (number + 1) (behind_run rest) texts
        → (all : List (List ℕ)) × Steps image clock t number rest all
    behind [] s = absurd s
    behind (more ∷ texts) s = (t.text ∷ more ∷ texts, (refl, e, s))

  steps_are : (fuel : ℕ) (t : Turn) (number : ℕ) (rest : List ℕ) → length rest ≤ fuel → (texts : List (List ℕ)) × Steps image clock t number rest texts
  unfolding Steps run_turn run_found run_size after_run
  steps_are zero t number [] h = step_on t number [] t.more refl ([] ∷ [], (refl, refl))
  steps_are zero t number (octet ∷ rest) h = absurd (omega arith)
  steps_are (suc fuel) t number rest h =
      step_on t number rest t.more refl (steps_are fuel (next t number rest) (number + 1) (behind_run rest) (less_left rest fuel h))

-- what a program writes, one text after the other, is what is printed
pub program_prints : (input : List ℕ) (texts : List (List ℕ)) → Program input texts → flatten texts ≡ printed input
unfolding printed
program_prints input texts p =
    let rest : List ℕ = drop (head_size input) input in
    let few : length rest ≤ length input = omega (arith, length-drop (head_size input) input) in
    steps_text_law (image_in input) (clock_in input) texts (head_turn input) 1 rest p
    ∙ turns_same (image_in input) (clock_in input) (length rest) (length input) (head_turn input) 1 rest (omega arith) few

-- and there is such a program for every input
pub program_is : (input : List ℕ) → (texts : List (List ℕ)) × Program input texts
program_is input =
    let rest : List ℕ = drop (head_size input) input in
    steps_are (image_in input) (clock_in input) (length rest) (head_turn input) 1 rest (omega arith)
