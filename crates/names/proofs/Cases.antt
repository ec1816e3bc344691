-- Cases of #103, worked out from the definition: the refusals at each place and their order, the names, and what a change of names leaves.
-- By computation: one list and one claim for each. Assumes nothing.
use Prim.Native.Nat.{ℕ}
use mathlib.Core.List.{List, [], ◌∷◌, ◌++◌, map}
use mathlib.Core.Path.{◌≡◌, refl}
use lib.ListN.{replicate}
use Rattle.names.specs.declared.Code.{Code}
use Rattle.names.specs.declared.Fault.TheVariants.{Version, Cut, Name, Order}
use Rattle.names.specs.declared.Which.TheVariants as which
use Rattle.names.specs.Book.{Checked}
use Rattle.names.specs.Book as checks
use Rattle.names.specs.Codes.{code, code_of_event, same_code, rises_to}
use Rattle.names.specs.Book.{code_of, name_of, walk, entries, entries_of, in_order, fault_of, first_fault, checked}
use Rattle.names.specs.LookUp.{find_in, find, Shown, Refused, Chosen, Italian, Nothing, shown_of, unless_refused, from_either, looked_up, name_in, name_of_shown, name_shown}

-- a book and what its check says
abbrev Checking : Type 0
Checking = List ℕ × Checked

-- entries: 1/2 "A", 3/1 "BC", 18/4 "D"
abbrev a : List ℕ
a = 1 ∷ 2 ∷ 1 ∷ 65 ∷ []

abbrev bc : List ℕ
bc = 3 ∷ 1 ∷ 2 ∷ 66 ∷ 67 ∷ []

abbrev d : List ℕ
d = 18 ∷ 4 ∷ 1 ∷ 68 ∷ []

-- an entry of code 3/1, by the length that it says and its name
abbrev saying : ℕ → List ℕ → List ℕ
saying many name = 3 ∷ 1 ∷ many ∷ name

checkings : List Checking
checkings =
    -- 1: empty, another version; then nothing else is looked at
    ([], checks.Refused Version 0) ∷
    (2 ∷ [], checks.Refused Version 0) ∷
    (0 ∷ a ++ saying 0 [], checks.Refused Version 0) ∷
    -- sound: the version alone, one entry, three
    (1 ∷ [], checks.Sound) ∷
    (1 ∷ a, checks.Sound) ∷
    (1 ∷ a ++ bc ++ d, checks.Sound) ∷
    -- 2: cut in the head, behind it, in the name; as first, middle and last entry
    (1 ∷ 3 ∷ [], checks.Refused Cut 1) ∷
    (1 ∷ 3 ∷ 1 ∷ [], checks.Refused Cut 1) ∷
    (1 ∷ saying 2 [], checks.Refused Cut 1) ∷
    (1 ∷ a ++ saying 2 (66 ∷ []), checks.Refused Cut 2) ∷
    (1 ∷ a ++ saying 9 (66 ∷ 67 ∷ []) ++ d, checks.Refused Cut 2) ∷
    (1 ∷ a ++ bc ++ 18 ∷ [], checks.Refused Cut 3) ∷
    -- 3: no octets, 41, and 1 and 40 that are right
    (1 ∷ saying 0 [] ++ d, checks.Refused Name 1) ∷
    (1 ∷ a ++ saying 0 [] ++ d, checks.Refused Name 2) ∷
    (1 ∷ a ++ saying 0 [], checks.Refused Name 2) ∷
    (1 ∷ a ++ saying 41 (replicate 41 66), checks.Refused Name 2) ∷
    (1 ∷ a ++ saying 40 (replicate 40 66) ++ d, checks.Sound) ∷
    -- 4: the same code, SPQ fallen, SPA fallen with a risen SPQ; SPQ 127 and 128 rise
    (1 ∷ a ++ a, checks.Refused Order 2) ∷
    (1 ∷ a ++ 1 ∷ 1 ∷ 1 ∷ 65 ∷ [], checks.Refused Order 2) ∷
    (1 ∷ bc ++ a ++ d, checks.Refused Order 2) ∷
    (1 ∷ a ++ d ++ bc, checks.Refused Order 3) ∷
    (1 ∷ 1 ∷ 127 ∷ 1 ∷ 65 ∷ 1 ∷ 128 ∷ 1 ∷ 65 ∷ [], checks.Sound) ∷
    -- two faults: the earlier entry; at one entry 2 before 3 before 4
    (1 ∷ a ++ saying 0 [] ++ a, checks.Refused Name 2) ∷
    (1 ∷ a ++ a ++ saying 0 [], checks.Refused Order 2) ∷
    (1 ∷ d ++ saying 41 (66 ∷ []), checks.Refused Cut 2) ∷
    (1 ∷ d ++ saying 0 [], checks.Refused Name 2) ∷
    []

check_cases : map (λ (c : Checking). checked c.0) checkings ≡ map (λ (c : Checking). c.1) checkings
unfolding checkings checked first_fault fault_of in_order rises_to code_of entries_of entries walk
check_cases = refl

-- a code, the two books, what is shown and the name
record Looking : Type 0 where
  wanted : Code
  chosen : List ℕ
  italian : List ℕ
  shown : Shown
  name : List ℕ

abbrev looking : Code → List ℕ → List ℕ → Shown → List ℕ → Looking
looking wanted chosen italian shown name = record { wanted = wanted; chosen = chosen; italian = italian; shown = shown; name = name }

-- German: 1/2 "A", 3/1 "BC"; Italian: 1/2 "E", 2/9 "F", 3/1 "G"
abbrev german : List ℕ
german = 1 ∷ a ++ bc

abbrev italian_book : List ℕ
italian_book = 1 ∷ 1 ∷ 2 ∷ 1 ∷ 69 ∷ 2 ∷ 9 ∷ 1 ∷ 70 ∷ 3 ∷ 1 ∷ 1 ∷ 71 ∷ []

lookings : List Looking
lookings =
    -- in both, in the Italian one, in neither
    looking (code 3 1) german italian_book (Chosen 2) (66 ∷ 67 ∷ []) ∷
    looking (code 2 9) german italian_book (Italian 2) (70 ∷ []) ∷
    looking (code 2 8) german italian_book Nothing [] ∷
    -- in the chosen one only; an Italian book without entries
    looking (code 1 2) german (1 ∷ []) (Chosen 1) (65 ∷ []) ∷
    -- an event's octet: SPQ 1 with SPI 1 and with SPI 0
    looking (code_of_event 3 3) german italian_book (Chosen 2) (66 ∷ 67 ∷ []) ∷
    looking (code_of_event 3 2) german italian_book (Chosen 2) (66 ∷ 67 ∷ []) ∷
    -- other names, the same codes: the same entry
    looking (code 3 1) (1 ∷ 1 ∷ 2 ∷ 2 ∷ 90 ∷ 90 ∷ 3 ∷ 1 ∷ 1 ∷ 65 ∷ []) italian_book (Chosen 2) (65 ∷ []) ∷
    -- the chosen book refused; the Italian one, though the chosen one has the name; both: the chosen one is named
    looking (code 1 2) [] italian_book (Refused which.Chosen Version 0) [] ∷
    looking (code 3 1) german (1 ∷ a ++ a) (Refused which.Italian Order 2) [] ∷
    looking (code 3 1) (1 ∷ saying 0 []) (1 ∷ a ++ a) (Refused which.Chosen Name 1) [] ∷
    []

abbrev is_shown : Looking → Shown × List ℕ
is_shown l = (shown_of (looked_up l.wanted l.chosen l.italian), name_shown l.wanted l.chosen l.italian)

look_up_cases : map is_shown lookings ≡ map (λ (l : Looking). (l.shown, l.name)) lookings
unfolding lookings code_of_event name_shown name_of_shown name_in name_of looked_up unless_refused from_either find find_in same_code checked first_fault fault_of in_order rises_to code_of entries_of entries walk
look_up_cases = refl
