-- What a look-up comes to. Document 02, #103: "Given a code pair, the handheld shows, without copying, the name from the chosen book, or from the Italian
-- book if the chosen one has none"; "a lookup checks the chosen book, then the Italian one. A pair in neither book returns no name". Assumes nothing.
use Rattle.std.specs.Prelude.{ℕ, ◌+◌, ◌-◌, List, [], ◌∷◌, get_or, take, drop, Option, Some, None, Result, Ok, Err}
use Rattle.octets.specs.Choice.{when◌then◌else◌}
use Rattle.names.specs.declared.Code.{Code}
use Rattle.names.specs.declared.Fault.{Fault}
use Rattle.names.specs.declared.Place.{Place}
use Rattle.names.specs.declared.Which.{Which}
use Rattle.names.specs.declared.Which.TheVariants as which
use Rattle.names.specs.declared.Found.{Found}
use Rattle.names.specs.declared.Refusal.{Refusal}
use Rattle.names.specs.Codes.{same_code}
use Rattle.names.specs.Book.{code_of, length_of, size_of, name_of, entries_of, Checked, checked}

-- an entry's number, and where its name lies, with how many octets
abbrev pub place : ℕ → ℕ → ℕ → Place
place number at many = record { number = number; at = at; many = many }

-- the first of a code among entries that stand from a place on, the first of them with a number
unfoldable pub find_in : Code → ℕ → ℕ → List (List ℕ) → Option Place
find_in wanted number at [] = None
find_in wanted number at (e ∷ es) =
    when same_code (code_of e) wanted then Some (place number (at + 3) (length_of e)) else
    find_in wanted (number + 1) (at + size_of e) es

-- the entry of a code in a book: the first entry stands at 1, behind the version
unfoldable pub find : Code → List ℕ → Option Place
find wanted book = find_in wanted 1 1 (entries_of book)

-- its number; 0 where there is none
abbrev pub number_found : Option Place → ℕ
number_found None = 0
number_found (Some p) = p.number

-- what a look-up comes to: a book is refused, a name is found, or neither book has one
abbrev pub LookedUp : Type 0
LookedUp = Result (Option Found) Refusal

-- what a book that is not refused has
abbrev pub found : Which → Option Place → Option Found
found book None = None
found book (Some p) = Some (record { book = book; entry = p.number; at = p.at; many = p.many })

-- a book that is refused ends the look-up
unfoldable pub unless_refused : Which → Checked → LookedUp → LookedUp
unless_refused book (Ok sound) else-shown = else-shown
unless_refused book (Err why) else-shown = Err (record { book = book; why = why })

-- of one book
unfoldable pub found_in : Which → Code → List ℕ → LookedUp
found_in which wanted book = unless_refused which (checked book) (Ok (found which (find wanted book)))

-- the name from the chosen book, or from the Italian one if the chosen one has none
unfoldable pub from_either : Option Place → Option Place → LookedUp
from_either (Some p) italian = Ok (found which.Chosen (Some p))
from_either None italian = Ok (found which.Italian italian)

unfoldable pub looked_up : Code → List ℕ → List ℕ → LookedUp
looked_up wanted chosen italian =
    unless_refused which.Chosen (checked chosen) (unless_refused which.Italian (checked italian) (from_either (find wanted chosen) (find wanted italian)))

-- which book and which entry is shown, or that a book is refused, or that there is no name
pub record Named : Type 0 where
  pub book : Which
  pub entry : ℕ

abbrev pub Shown : Type 0
Shown = Result (Option Named) Refusal

abbrev pub Refused : Which → Fault → ℕ → Shown
Refused book fault entry = Err (record { book = book; why = record { fault = fault; entry = entry } })

abbrev pub Chosen : ℕ → Shown
Chosen entry = Ok (Some (record { book = which.Chosen; entry = entry }))

abbrev pub Italian : ℕ → Shown
Italian entry = Ok (Some (record { book = which.Italian; entry = entry }))

abbrev pub Nothing : Shown
Nothing = Ok None

abbrev pub shown_of : LookedUp → Shown
shown_of (Ok (Some f)) = Ok (Some (record { book = f.book; entry = f.entry }))
shown_of (Ok None) = Nothing
shown_of (Err r) = Err r

-- one of the two books
abbrev pub book_of : Which → List ℕ → List ℕ → List ℕ
book_of which.Chosen chosen italian = chosen
book_of which.Italian chosen italian = italian

-- the name of the entry of a number
unfoldable pub name_in : ℕ → List ℕ → List ℕ
name_in number book = name_of (get_or (entries_of book) (number - 1) [])

-- the name that is shown; no name is the empty one
unfoldable pub name_of_shown : Shown → List ℕ → List ℕ → List ℕ
name_of_shown (Ok (Some n)) chosen italian = name_in n.entry (book_of n.book chosen italian)
name_of_shown (Ok None) chosen italian = []
name_of_shown (Err r) chosen italian = []

unfoldable pub name_shown : Code → List ℕ → List ℕ → List ℕ
name_shown wanted chosen italian = name_of_shown (shown_of (looked_up wanted chosen italian)) chosen italian

-- the octets that lie where a name is found, of any two books
unfoldable pub cut_from : Found → List ℕ → List ℕ → List ℕ
cut_from f chosen italian = take f.many (drop f.at (book_of f.book chosen italian))

unfoldable pub cut_out : LookedUp → List ℕ → List ℕ → List ℕ
cut_out (Ok (Some f)) chosen italian = cut_from f chosen italian
cut_out (Ok None) chosen italian = []
cut_out (Err r) chosen italian = []
