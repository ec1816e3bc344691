-- Document 02, #103, sentence by sentence, as statements over any check and any look-up, so that wrong ones can be shut out (`Wrong`). What a book is
-- stands here a second time, without a walk over octets: entries laid one after the other. Assumes nothing.
use Rattle.std.specs.Prelude.{ℕ, ◌+◌, ◌-◌, ◌≤◌, ◌<◌, ◌⊎◌, ◌≡◌, length, get_or, take, Some, None, Ok, Err}
use mathlib.Core.List.{List, [], ◌∷◌, ◌++◌, flatten}
use Rattle.names.specs.declared.Code.{Code}
use Rattle.names.specs.declared.Fault.{Fault}
use Rattle.names.specs.declared.Fault.TheVariants as faults
use Rattle.names.specs.declared.Which.TheVariants as which
use Rattle.names.specs.Book.{code_of, length_of, name_of, entries_of, number_of, Checked, checked}
use Rattle.names.specs.Book as checks
use Rattle.names.specs.LookUp.{LookedUp, Shown, Refused, Chosen, Italian, Nothing, shown_of, looked_up, name_shown, cut_out}
use Rattle.names.specs.LookUp as looks
use Rattle.names.specs.Answers.{book_number}

-- "entries of SPA, SPQ, name length in one octet and the name, 1 to 40 octets"
pub record Right (e : List ℕ) : Type 0 where
  pub whole : length e ≡ 3 + length_of e
  pub some : 1 ≤ length_of e
  pub most : length_of e ≤ 40

-- "rising by SPA and SPQ without equals"
abbrev pub Rises : Code → Code → Type 0
Rises a b = (a.spa < b.spa) ⊎ ((a.spa ≡ b.spa) × (a.spq < b.spq))

-- the code of the entry at an index
abbrev pub code_at : List (List ℕ) → ℕ → Code
code_at es n = code_of (get_or es n [])

pub record InOrder (es : List (List ℕ)) : Type 0 where
  pub right : (n : ℕ) → n < length es → Right (get_or es n [])
  pub rising : (m n : ℕ) → m < n → n < length es → Rises (code_at es m) (code_at es n)

-- "version 1, then entries"
abbrev pub book_of : List (List ℕ) → List ℕ
book_of es = 1 ∷ flatten es

pub record SoundBook (book : List ℕ) : Type 0 where
  pub its : List (List ℕ)
  pub laid : book ≡ book_of its
  pub in_order : InOrder its

-- any check of a book, and any look-up, as which book and entry it shows
abbrev pub Check : Type 0
Check = List ℕ → Checked

abbrev pub LookUp : Type 0
LookUp = Code → List ℕ → List ℕ → Shown

-- "A second part checks a book": it says Sound of exactly these
pub record SoundOnly (check : Check) : Type 0 where
  pub said : (book : List ℕ) → check book ≡ checks.Sound → SoundBook book
  pub of_all : (book : List ℕ) → SoundBook book → check book ≡ checks.Sound

-- "names its first faulty entry by number from 1": the entries before it are in order, and of refusals 2, 3 and 4 it deserves the first
abbrev pub Deserves : Fault → List (List ℕ) → List ℕ → Type 0
Deserves fault before e =
    ((fault ≡ faults.Cut) × (length e < 3 + length_of e) × (number_of fault ≡ 2))
    ⊎ ((fault ≡ faults.Name) × (length e ≡ 3 + length_of e) × ((length_of e ≡ 0) ⊎ (40 < length_of e)) × (number_of fault ≡ 3))
    ⊎ ((fault ≡ faults.Order) × Right e × (1 ≤ length before) × (Rises (code_at before (length before - 1)) (code_of e) → ⊥) × (number_of fault ≡ 4))

pub record FirstFaulty (book : List ℕ) (fault : Fault) (entry : ℕ) : Type 0 where
  pub from_1 : 1 ≤ entry
  pub there : entry ≤ length (entries_of book)
  pub before_in_order : InOrder (take (entry - 1) (entries_of book))
  pub deserved : Deserves fault (take (entry - 1) (entries_of book)) (get_or (entries_of book) (entry - 1) [])

-- "0 for refusal 1": an empty book or another version
pub record FaultNamed (check : Check) : Type 0 where
  pub version : (book : List ℕ) → (get_or book 0 0 ≡ 1 → ⊥) → check book ≡ checks.Refused faults.Version 0
  pub refusal_1 : number_of faults.Version ≡ 1
  pub entry : (book : List ℕ) (fault : Fault) (entry : ℕ) → get_or book 0 0 ≡ 1 → check book ≡ checks.Refused fault entry → FirstFaulty book fault entry

-- together these leave one check: whatever meets them says what ours says, of any octets
abbrev pub OnlyCheck : Type 0
OnlyCheck = (check : Check) → SoundOnly check → FaultNamed check → (book : List ℕ) → check book ≡ checked book

-- the entries of any octets are these octets, each as long as it says but the last, which may be cut
pub record AllThere : Type 0 where
  pub laid : (book : List ℕ) → get_or book 0 0 ≡ 1 → book ≡ book_of (entries_of book)
  pub no_longer : (book : List ℕ) (n : ℕ) → let e = get_or (entries_of book) n [] in length e ≤ 3 + length_of e
  pub whole_but_last : (book : List ℕ) (n : ℕ) → n + 1 < length (entries_of book) → let e = get_or (entries_of book) n [] in length e ≡ 3 + length_of e

-- what ours shows
abbrev pub shown_for : LookUp
shown_for wanted chosen italian = shown_of (looked_up wanted chosen italian)

-- "a lookup checks the chosen book, then the Italian one", whatever the code
pub record CheckedFirst (look : LookUp) : Type 0 where
  pub chosen_first : (chosen italian : List ℕ) (fault : Fault) (entry : ℕ) → checked chosen ≡ checks.Refused fault entry
      → (wanted : Code) → look wanted chosen italian ≡ Refused which.Chosen fault entry
  pub italian_then : (chosen italian : List ℕ) (fault : Fault) (entry : ℕ) → checked chosen ≡ checks.Sound → checked italian ≡ checks.Refused fault entry
      → (wanted : Code) → look wanted chosen italian ≡ Refused which.Italian fault entry
  pub chosen_number : book_number which.Chosen ≡ 1
  pub italian_number : book_number which.Italian ≡ 2

-- the entry of a number, from 1, has a code
abbrev pub Has : List (List ℕ) → Code → ℕ → Type 0
Has es wanted k = (1 ≤ k) × (k ≤ length es) × (code_at es (k - 1) ≡ wanted)

abbrev pub HasNot : List (List ℕ) → Code → Type 0
HasNot es wanted = (k : ℕ) → Has es wanted k → ⊥

abbrev pub AtMostOne : Type 0
AtMostOne = (book : List ℕ) (b : SoundBook book) (wanted : Code) (j k : ℕ) → Has b.its wanted j → Has b.its wanted k → j ≡ k

-- "the name from the chosen book, or from the Italian book if the chosen one has none"; "a pair in neither book returns no name"
abbrev pub Exactly : Type 0 → Type 0 → Type 0
Exactly P Q = (P → Q) × (Q → P)

pub record Finds (look : LookUp) (chosen italian : List ℕ) (c : SoundBook chosen) (i : SoundBook italian) (wanted : Code) : Type 0 where
  pub from_chosen : (k : ℕ) → Exactly (look wanted chosen italian ≡ Chosen k) (Has c.its wanted k)
  pub from_italian : (k : ℕ) → Exactly (look wanted chosen italian ≡ Italian k) (HasNot c.its wanted × Has i.its wanted k)
  pub no_name : Exactly (look wanted chosen italian ≡ Nothing) (HasNot c.its wanted × HasNot i.its wanted)

abbrev pub FoundExactly : LookUp → Type 0
FoundExactly look = (chosen italian : List ℕ) (c : SoundBook chosen) (i : SoundBook italian) (wanted : Code) → Finds look chosen italian c i wanted

-- together these leave one look-up: whatever meets them shows what ours shows, for every code and any octets as books
abbrev pub OnlyLookUp : Type 0
OnlyLookUp = (look : LookUp) → CheckedFirst look → FoundExactly look → (wanted : Code) (chosen italian : List ℕ)
    → look wanted chosen italian ≡ shown_for wanted chosen italian

-- "changing names in sound books, codes kept, alters no choice of book or entry"
abbrev pub codes : List (List ℕ) → List Code
codes [] = []
codes (e ∷ es) = code_of e ∷ codes es

abbrev pub NamesKept : LookUp → Type 0
NamesKept look = (chosen chosen' italian italian' : List ℕ) (c : SoundBook chosen) (c' : SoundBook chosen') (i : SoundBook italian) (i' : SoundBook italian')
    → codes c.its ≡ codes c'.its → codes i.its ≡ codes i'.its
    → (wanted : Code) → look wanted chosen italian ≡ look wanted chosen' italian'

-- and so it is when a book is translated entry by entry: another name of 1 to 40 octets at each
abbrev pub translated : List (List ℕ) → List (List ℕ) → List (List ℕ)
translated [] names = []
translated (e ∷ es) [] = e ∷ es
translated (e ∷ es) (name ∷ names) = (get_or e 0 0 ∷ get_or e 1 0 ∷ length name ∷ name) ∷ translated es names

abbrev pub Names : List (List ℕ) → Type 0
Names names = (n : ℕ) → n < length names → (1 ≤ length (get_or names n [])) × (length (get_or names n []) ≤ 40)

pub record Translated (check : Check) (look : LookUp) : Type 0 where
  pub still_sound : (book : List ℕ) (b : SoundBook book) (names : List (List ℕ)) → Names names → check (book_of (translated b.its names)) ≡ checks.Sound
  pub same_shown : (chosen italian : List ℕ) (c : SoundBook chosen) (i : SoundBook italian) (names names' : List (List ℕ)) → Names names → Names names'
      → (wanted : Code) → look wanted chosen italian ≡ look wanted (book_of (translated c.its names)) (book_of (translated i.its names'))

-- "shows, without copying, the name": it stands in its book, behind the entries before it, its code and its length, octet for octet
pub record Stands (book : List ℕ) (k : ℕ) (wanted : Code) (at many : ℕ) (name : List ℕ) : Type 0 where
  pub back : List ℕ
  pub stands : book ≡ book_of (take (k - 1) (entries_of book)) ++ (wanted.spa ∷ wanted.spq ∷ length name ∷ name) ++ back
  pub at_so : at ≡ length (book_of (take (k - 1) (entries_of book))) + 3
  pub many_so : many ≡ length name

-- of the book that is shown, at the place that is told; where there is no name, no octets
abbrev pub InItsBook : LookedUp → Code → List ℕ → List ℕ → List ℕ → Type 0
InItsBook (Ok (Some f)) wanted name chosen italian =
    let book = looks.book_of f.book chosen italian in
    (name ≡ name_of (get_or (entries_of book) (f.entry - 1) [])) × Stands book f.entry wanted f.at f.many name
InItsBook (Ok None) wanted name chosen italian = name ≡ []
InItsBook (Err r) wanted name chosen italian = name ≡ []

pub record NameShown : Type 0 where
  pub in_its_book : (wanted : Code) (chosen italian : List ℕ) → InItsBook (looked_up wanted chosen italian) wanted (name_shown wanted chosen italian) chosen italian
  pub cut_out : (wanted : Code) (chosen italian : List ℕ) → cut_out (looked_up wanted chosen italian) chosen italian ≡ name_shown wanted chosen italian
