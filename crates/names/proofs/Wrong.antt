-- The wrong checks and look-ups of `specs/Wrong` are shut out.
-- Each by one pair of small books, worked out. Assumes nothing.
use Prim.Native.Nat.{ℕ}
use mathlib.Core.List.{List, [], ◌∷◌}
use mathlib.Core.Path.{◌≡◌, refl, sym, ap, ◌∙◌}
use native.Mathlib.Omega.{arith}
use Rattle.names.specs.declared.Fault.TheVariants.{Version}
use Rattle.names.specs.Book.{Sound, Refused}
use Rattle.names.specs.LookUp as shows
use Rattle.names.specs.Codes.{code, same_code, rises_to}
use Rattle.names.specs.Book.{code_of, name_of, walk, entries, entries_of, in_order, fault_of, first_fault, checked}
use Rattle.names.specs.LookUp.{find_in, find, unless_refused, from_either, looked_up, name_in}
use Rattle.names.specs.EventNames.{LookUp, SoundBook, SoundOnly, shown_for, FoundExactly, codes, NamesKept}
use Rattle.names.specs.Wrong.{lenient, strict, silent, exchanged, italian_first, same_name, entry_named, by_name}
use Rattle.names.proofs.Books.{sound_only, its_entries}
use Rattle.names.proofs.Order.{not_sound}
use Rattle.names.proofs.EventNames.{entry_shown, apart, found_exactly, names_kept}

-- a book of one entry, 1/2, and of two, 1/2 and 3/1, each with a name of one octet
abbrev one : ℕ → List ℕ
one name = 1 ∷ 1 ∷ 2 ∷ 1 ∷ name ∷ []

abbrev two : ℕ → ℕ → List ℕ
two name other = 1 ∷ 1 ∷ 2 ∷ 1 ∷ name ∷ 3 ∷ 1 ∷ 1 ∷ other ∷ []

one_sound : (name : ℕ) → SoundBook (one name)
unfolding checked first_fault fault_of in_order entries_of entries walk
one_sound name = sound_only.said (one name) refl

two_sound : (name other : ℕ) → SoundBook (two name other)
unfolding checked first_fault fault_of in_order rises_to code_of entries_of entries walk
two_sound name other = sound_only.said (two name other) refl

lenient_shut_out : SoundOnly lenient → ⊥
unfolding lenient checked
lenient_shut_out s = let e : checked [] ≡ Sound = sound_only.of_all [] (s.said [] refl) in not_sound e

strict_shut_out : SoundOnly strict → ⊥
unfolding strict
strict_shut_out s = let e : Refused Version 0 ≡ Sound = s.of_all (one 65) (one_sound 65) in not_sound e

-- in sound books a look-up that finds exactly shows what ours shows
finds_as_ours : (look : LookUp) → FoundExactly look → {k : ℕ} → shown_for (code 1 2) (one 65) (one 66) ≡ shows.Chosen k → look (code 1 2) (one 65) (one 66) ≡ shows.Chosen k
finds_as_ours look f {k} q =
    let c = one_sound 65 in
    let i = one_sound 66 in
    ((f (one 65) (one 66) c i (code 1 2)).from_chosen k).1 (((found_exactly (one 65) (one 66) c i (code 1 2)).from_chosen k).0 q)

ours : shown_for (code 1 2) (one 65) (one 66) ≡ shows.Chosen 1
unfolding looked_up unless_refused from_either find find_in same_code checked first_fault fault_of in_order code_of entries_of entries walk
ours = refl

silent_shut_out : FoundExactly silent → ⊥
unfolding silent
silent_shut_out f = let e : shows.Nothing ≡ shows.Chosen 1 = finds_as_ours silent f ours in apart (λ e. omega arith) e

italian_first_shut_out : FoundExactly italian_first → ⊥
unfolding italian_first exchanged looked_up unless_refused from_either find find_in same_code checked first_fault fault_of in_order code_of entries_of entries walk
italian_first_shut_out f = let e : shows.Italian 1 ≡ shows.Chosen 1 = finds_as_ours italian_first f ours in apart (λ e. omega arith) e

-- both are let through by the statement on names alone
silent_let_through : NamesKept silent
unfolding silent
silent_let_through chosen chosen' italian italian' c c' i i' p q wanted = refl

italian_first_let_through : NamesKept italian_first
unfolding italian_first
italian_first_let_through chosen chosen' italian italian' c c' i i' p q wanted = ap exchanged (names_kept italian italian' chosen chosen' i i' c c' q p wanted)

-- one name corrected: for 1/2 the card that finds by name shows the entry of 3/1, and then that of 1/2
before : by_name (code 1 2) (two 65 66) (two 66 67) ≡ shows.Chosen 2
unfolding by_name entry_named same_name name_in name_of looked_up unless_refused from_either find find_in same_code checked first_fault fault_of in_order rises_to code_of entries_of entries walk
before = refl

behind : by_name (code 1 2) (two 65 68) (two 66 67) ≡ shows.Chosen 1
unfolding by_name entry_named same_name name_in name_of looked_up unless_refused from_either find find_in same_code checked first_fault fault_of in_order rises_to code_of entries_of entries walk
behind = refl

same_codes : codes (two_sound 65 66).its ≡ codes (two_sound 65 68).its
unfolding code_of entries_of entries walk
same_codes = ap codes (sym (its_entries (two_sound 65 66))) ∙ ap codes (its_entries (two_sound 65 68))

by_name_shut_out : NamesKept by_name → ⊥
by_name_shut_out n =
    let i = two_sound 66 67 in
    let e : shows.Chosen 2 ≡ shows.Chosen 1 =
    sym before ∙ n (two 65 66) (two 65 68) (two 66 67) (two 66 67) (two_sound 65 66) (two_sound 65 68) i i same_codes refl (code 1 2) ∙ behind in
    let f : ◌≡◌ {A = ℕ} 2 1 = ap entry_shown e in
    omega arith
