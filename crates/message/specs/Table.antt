-- The ten requests: type, N, octets, cause, record addresses, and what each does when it is accepted. Document 01, "Messages", the table.
-- Assumes nothing.
use Rattle.std.specs.Prelude.{ℕ, List, [], ◌∷◌, eqb, Option, Some, None}
use Rattle.octets.specs.Choice.{when◌then◌else◌}
use Rattle.message.specs.declared.Addresses.{Addresses}
use Rattle.message.specs.declared.Addresses.TheVariants.{Only, Events}
use Rattle.message.specs.declared.Deed.{Deed}
use Rattle.message.specs.declared.Deed.TheVariants.{Opens, Closes, Gives71, Gives72, Gives131, GivesData, SetsClock, SetsDates}
use Rattle.message.specs.declared.Row.{Row}

-- `Events`: 52 to 55, 128, 129, the record addresses that events of an image have (`image/specs/Image`, `event_record`). `GivesData` is mirror 7, the data, mirror 10
abbrev pub row : ℕ → ℕ → ℕ → ℕ → Addresses → Deed → Row
row type count octets cause addresses deed =
    record { type_id = type; count = count; octets = octets; cause = cause; addresses = addresses; deed = deed }

unfoldable pub table : List Row
table =
    row 100 0 6 5 (Only 0) Gives71
    ∷ row 102 0 16 6 Events GivesData
    ∷ row 103 0 6 5 (Only 0) Gives72
    ∷ row 122 1 18 6 (Only 21) GivesData
    ∷ row 123 1 18 6 (Only 11) GivesData
    ∷ row 181 1 13 6 (Only 0) SetsClock
    ∷ row 183 1 10 6 (Only 0) Opens
    ∷ row 185 1 6 5 (Only 0) Gives131
    ∷ row 186 1 16 6 (Only 0) SetsDates
    ∷ row 187 0 6 6 (Only 0) Closes
    ∷ []

-- the row of a type
unfoldable pub row_in : List Row → ℕ → Option Row
row_in [] type = None
row_in (r ∷ rs) type = when eqb r.type_id type then Some r else row_in rs type
