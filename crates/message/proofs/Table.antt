-- Looking a type up, a row at a time; what holds of each row holds of the one that is found.
-- By the rows that are left. Assumes nothing.
use Rattle.std.specs.Prelude.{Option, Some, None}
use Rattle.std.specs.List.{find}
use Prim.Native.Nat.{ℕ}
use mathlib.Core.Bool.{Bool, true, ◌&&◌}
use mathlib.Core.List.{List, [], ◌∷◌}
use mathlib.Core.Path.{◌≡◌, refl}
use borrow.Author.Tests.{eqb-true}
use lib.Dec.{eqb}
use Rattle.message.specs.declared.Row.{Row}
use Rattle.octets.proofs.Choice.{either, if_both}
use Rattle.octets.proofs.Conditions.{and_left, and_right}
use Rattle.message.specs.Table.{row_in}

abbrev pub every : (Row → Bool) → List Row → Bool
every test [] = true
every test (r ∷ rs) = test r && every test rs

-- the row of a type is the first that has it
pub first_row : (rows : List Row) (type : ℕ) → find (λ w. eqb w.type_id type) rows ≡ row_in rows type
unfolding row_in
first_row [] type = refl
first_row (r ∷ rs) type = if_both (λ (found row : Option Row). found ≡ row) (eqb r.type_id type) (λ e. refl) (λ e. first_row rs type)

-- what holds of each listed row of a type, and where none is found, holds of what is found; `test` is any that all rows pass
pub by_row : (P : Option Row → Type 0) (test : Row → Bool) (rows : List Row) (type : ℕ) → every test rows ≡ true
    → ((r : Row) → r.type_id ≡ type → test r ≡ true → P (Some r)) → P None → P (row_in rows type)
unfolding row_in
by_row P test [] type each f g = g
by_row P test (r ∷ rs) type each f g =
    either P (eqb r.type_id type) (λ e. f r (eqb-true _ _ e) (and_left (test r) (every test rs) each))
    (λ _. by_row P test rs type (and_right (test r) (every test rs) each) f g)
