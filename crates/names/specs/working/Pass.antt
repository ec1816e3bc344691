-- The one pass over a book as it is worked out: it checks the entries and keeps where the code's name lies. That this is the check of `Book` and the place
-- of `LookUp` is proved. Assumes nothing.
use Rattle.std.specs.Prelude.{ℕ, ◌+◌, List, [], ◌∷◌, take, drop, Option, Some, None, Result, Ok, Err}
use Rattle.std.specs.Option.{option_or}
use Rattle.octets.specs.Choice.{when◌then◌else◌}
use Rattle.names.specs.declared.Code.{Code}
use Rattle.names.specs.declared.Fault.{Fault}
use Rattle.names.specs.declared.BookFault.{BookFault}
use Rattle.names.specs.declared.Place.{Place}
use Rattle.names.specs.declared.Entry.{Entry}
use Rattle.names.specs.Codes.{same_code}
use Rattle.names.specs.Book.{code_of, length_of, size_of, entries, fault_of, Checked, checked}
use Rattle.names.specs.LookUp.{place, find}

-- the entry at a place, and the entries from there on
unfoldable pub entry_at : List ℕ → ℕ → List ℕ
entry_at s at = take (size_of (drop at s)) (drop at s)

unfoldable pub entries_from : List ℕ → ℕ → List (List ℕ)
entries_from s at = entries (drop at s)

-- what was found before stays
unfoldable pub kept : Option Place → Option Place → Option Place
kept found later = option_or found later

abbrev pub Passed : Type 0
Passed = Result (Option Place) BookFault

unfoldable pub read : Checked → Option Place → Passed
read (Ok sound) found = Ok found
read (Err why) found = Err why

-- an entry of a number at a place, or its fault
abbrev pub unless_at_fault : Option Fault → Entry → Result Entry Fault
unless_at_fault None entry = Ok entry
unless_at_fault (Some fault) entry = Err fault

unfoldable pub entry_checked : ℕ → ℕ → Code → List ℕ → Result Entry Fault
entry_checked number at before e =
    unless_at_fault (fault_of number before e) (record { code = code_of e; place = place number (at + 3) (length_of e) })

abbrev pub Judged : Type 0
Judged = Result Entry BookFault

abbrev pub judged_as : Result Entry Fault → ℕ → List Judged → List Judged
judged_as (Ok entry) number later = Ok entry ∷ later
judged_as (Err fault) number later = Err (record { fault = fault; entry = number }) ∷ []

-- the entries as they are checked one behind the other, each by its number, its place and the code before it: one at fault is the last
unfoldable pub judged : ℕ → ℕ → Code → List (List ℕ) → List Judged
judged number at before [] = []
judged number at before (e ∷ es) =
    judged_as (entry_checked number at before e) number (judged (number + 1) (at + size_of e) (code_of e) es)

-- the pass over entries that are checked, with what was found before them
unfoldable pub pass_on : Code → Option Place → List Judged → Passed
pass_on wanted found [] = Ok found
pass_on wanted found (Err why ∷ es) = Err why
pass_on wanted found (Ok e ∷ es) =
    pass_on wanted (kept found (when same_code e.code wanted then Some e.place else None)) es

-- the pass over a book
unfoldable pub passed : Code → List ℕ → Passed
passed wanted book = read (checked book) (find wanted book)
