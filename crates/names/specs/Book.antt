-- A book of names. Document 02, #103: "version 1, then entries of SPA, SPQ, name length in one octet and the name, 1 to 40 octets, rising by SPA and SPQ
-- without equals"; "names its first faulty entry by number from 1, 0 for refusal 1. Refusals: book 1 empty or not version 1, 2 cut, 3 name empty or too
-- long, 4 order; by place in the book, then by number". Any octets are a book, sound or refused. Assumes nothing.
use Rattle.std.specs.Prelude.{ℕ, zero, suc, ◌+◌, Bool, true, not, List, [], ◌∷◌, ltb, eqb, length, get_or, take, drop, Option, Some, None, Result, Ok, Err}
use Rattle.octets.specs.Choice.{when◌then◌else◌}
use Rattle.octets.specs.First.{◌⇒◌▸◌, first_of◌else◌}
use Rattle.names.specs.declared.Code.{Code}
use Rattle.names.specs.declared.Fault.{Fault}
use Rattle.names.specs.declared.Fault.TheVariants.{Version, Cut, Name, Order}
use Rattle.names.specs.declared.BookFault.{BookFault}
use Rattle.names.specs.Codes.{code, rises_to}

-- an entry is its octets: SPA, SPQ, the name's length, the name; what is not there of the first three counts as 0
unfoldable pub code_of : List ℕ → Code
code_of e = code (get_or e 0 0) (get_or e 1 0)

abbrev pub length_of : List ℕ → ℕ
length_of e = get_or e 2 0

unfoldable pub name_of : List ℕ → List ℕ
name_of e = drop 3 e

-- how many octets it has to have
abbrev pub size_of : List ℕ → ℕ
size_of e = 3 + length_of e

-- octets taken apart into entries, each as long as it says, or as long as there are octets; the number bounds how many
unfoldable pub walk : ℕ → List ℕ → List (List ℕ)
walk zero s = []
walk (suc most) [] = []
walk (suc most) (x ∷ s) = take (size_of (x ∷ s)) (x ∷ s) ∷ walk most (drop (size_of (x ∷ s)) (x ∷ s))

unfoldable pub entries : List ℕ → List (List ℕ)
entries s = walk (length s) s

-- those of a book stand behind its version
unfoldable pub entries_of : List ℕ → List (List ℕ)
entries_of book = entries (drop 1 book)

-- a code in the entry of a number, behind the code of the entry before; the first entry has none before it
unfoldable pub in_order : ℕ → Code → Code → Bool
in_order number before own = when eqb number 1 then true else rises_to before own

-- the refusals' numbers
abbrev pub number_of : Fault → ℕ
number_of Version = 1
number_of Cut = 2
number_of Name = 3
number_of Order = 4

-- what a check comes to: a refusal with the faulty entry's number, or none
abbrev pub Checked : Type 0
Checked = Result (Unit {0}) BookFault

abbrev pub Sound : Checked
Sound = Ok tt

abbrev pub Refused : Fault → ℕ → Checked
Refused fault entry = Err (record { fault = fault; entry = entry })

-- what is wrong with an entry, if anything is
unfoldable pub fault_of : ℕ → Code → List ℕ → Option Fault
fault_of number before e =
    first_of
    ltb (length e) (size_of e) ⇒ Some Cut ▸
    eqb (length_of e) 0 ⇒ Some Name ▸
    ltb 40 (length_of e) ⇒ Some Name ▸
    not (in_order number before (code_of e)) ⇒ Some Order ▸
    []
    else None

-- an entry of a number that is at fault is refused, whatever stands behind it
abbrev pub unless_faulty : Option Fault → ℕ → Checked → Checked
unless_faulty None number later = later
unless_faulty (Some fault) number later = Refused fault number

-- the first faulty one of entries, the first of which has a number and a code before it
unfoldable pub first_fault : ℕ → Code → List (List ℕ) → Checked
first_fault number before [] = Sound
first_fault number before (e ∷ es) =
    unless_faulty (fault_of number before e) number (first_fault (number + 1) (code_of e) es)

-- an empty book has no version
unfoldable pub checked : List ℕ → Checked
checked book = when eqb (get_or book 0 0) 1 then first_fault 1 (code 0 0) (entries_of book) else Refused Version 0
