-- Wrong checks and look-ups, each shut out by a statement of `EventNames` and let through by another: why each of them is needed.
-- Assumes nothing.
use Rattle.std.specs.Prelude.{ℕ, ◌+◌, Bool, true, false, ◌&&◌, List, [], ◌∷◌, ltb, eqb, Some, None, Ok, Err}
use Rattle.octets.specs.Choice.{when◌then◌else◌}
use Rattle.names.specs.declared.Fault.TheVariants.{Version}
use Rattle.names.specs.declared.Which.{Which}
use Rattle.names.specs.declared.Which.TheVariants as which
use Rattle.names.specs.Book as checks
use Rattle.names.specs.Book.{name_of, entries_of}
use Rattle.names.specs.LookUp.{Shown, Chosen, Nothing, find, number_found, name_in}
use Rattle.names.specs.EventNames.{Check, LookUp, shown_for}

-- every book is sound; none is
unfoldable pub lenient : Check
lenient book = checks.Sound

unfoldable pub strict : Check
strict book = checks.Refused Version 0

-- it never has a name: no change of names alters that
unfoldable pub silent : LookUp
silent wanted chosen italian = Nothing

-- the Italian book first: no change of names alters that either
abbrev pub other : Which → Which
other which.Chosen = which.Italian
other which.Italian = which.Chosen

unfoldable pub exchanged : Shown → Shown
exchanged (Ok (Some n)) = Ok (Some (record { book = other n.book; entry = n.entry }))
exchanged (Ok None) = Ok None
exchanged (Err r) = Err r

unfoldable pub italian_first : LookUp
italian_first wanted chosen italian = exchanged (shown_for wanted italian chosen)

-- it finds by the name, as the card did that billed a customer wrongly: the entry of the chosen book that has the name which the Italian one has for the code
unfoldable pub same_name : List ℕ → List ℕ → Bool
same_name [] [] = true
same_name [] (y ∷ ys) = false
same_name (x ∷ xs) [] = false
same_name (x ∷ xs) (y ∷ ys) = eqb x y && same_name xs ys

unfoldable pub entry_named : List ℕ → ℕ → List (List ℕ) → ℕ
entry_named name number [] = 0
entry_named name number (e ∷ es) = when same_name (name_of e) name then number else entry_named name (number + 1) es

unfoldable pub by_name : LookUp
by_name wanted chosen italian =
    when ltb 0 (entry_named (name_in (number_found (find wanted italian)) italian) 1 (entries_of chosen)) then
    Chosen (entry_named (name_in (number_found (find wanted italian)) italian) 1 (entries_of chosen)) else
    shown_for wanted chosen italian
