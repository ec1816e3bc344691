-- What the public contracts of this crate do not allow: two wrong outcomes or more of each.
-- By what is proved of books and look-ups where the books are any, by computation where the octets are known. Assumes nothing.
use Prim.Native.Nat.{ℕ, ◌+◌, ◌/◌, ◌%◌, ◌≤◌}
use mathlib.Core.List.{List, [], ◌∷◌}
use mathlib.Core.Path.{◌≡◌, refl, sym, ap, ◌∙◌}
use native.Mathlib.Omega.{arith}
use contract.Lifetimes.{Lfts}
use borrow.Author.Tests.{eq-eqb}
use lib.ListN.{length}
use Rattle.octets.proofs.Outcome.{RuledOut, Place, lent, never}
use Rattle.names.specs.declared.Code.{Code}
use Rattle.names.specs.declared.Entries.{Entries}
use Rattle.std.specs.Prelude.{Some, None, Ok, Err}
use Rattle.names.specs.declared.Fault.{Fault}
use Rattle.names.specs.declared.Fault.TheVariants.{Version, Cut, Name, Order}
use Rattle.names.specs.declared.Found.{Found}
use Rattle.names.specs.declared.Which.{Which}
use Rattle.names.specs.declared.Which.TheVariants as which
use Rattle.names.specs.LookUp as shows
use Rattle.names.specs.Codes.{code, code_of_event, rises_to, same_code}
use Rattle.names.specs.Book.{code_of, name_of, walk, entries, entries_of, in_order, number_of, Checked, Sound, Refused, fault_of, first_fault, checked}
use Rattle.names.specs.LookUp.{LookedUp, Shown, shown_of, find_in, find, unless_refused, from_either, looked_up, name_in, name_of_shown, name_shown, cut_from, cut_out}
use Rattle.names.specs.Answers.{book_number}
use Rattle.names.specs.EventNames.{SoundBook, Has}
use Rattle.names.proofs.Order.{not_sound, not_itself}
use Rattle.names.proofs.Books.{sound_only, said_sound}
use Rattle.names.proofs.EventNames.{entry_shown, apart, checked_first, found_exactly}
use Rattle.names.proofs.Code.of_event.Reads as of_event
use Rattle.names.proofs.Fault.number.Reads as number
use Rattle.names.proofs.Which.number.Reads as book_number_call
use Rattle.names.proofs.check.Reads as check
use Rattle.names.proofs.look_up.Reads as look_up
use Rattle.names.proofs.name_at.Reads as name_at
use Rattle.names.proofs.name.Reads as name
use Rattle.names.proofs.entries_of.Reads as entries_of_call

abbrev found : Which → ℕ → ℕ → ℕ → Found
found book entry at many = record { book = book; entry = entry; at = at; many = many }

abbrev showing : Which → ℕ → ℕ → ℕ → LookedUp
showing book entry at many = Ok (Some (found book entry at many))

abbrev refusing : Which → Fault → ℕ → LookedUp
refusing book fault entry = Err (record { book = book; why = record { fault = fault; entry = entry } })

-- the refusal of a check, and none
abbrev refusal_in : Checked → ℕ
refusal_in (Ok sound) = 0
refusal_in (Err why) = number_of why.fault

abbrev entry_in : Checked → ℕ
entry_in (Ok sound) = 0
entry_in (Err why) = why.entry

module _ (κs : Lfts 0) (spa octet : ℕ) where
  -- the lower seven bits for SPQ, SPI among them, whenever they differ from the upper seven
  of_event_lower : (octet / 2 % 128 ≡ octet % 128 → ⊥) → RuledOut (of_event.Post κs) (spa, (octet, tt)) (code spa (octet % 128))
  unfolding code_of_event
  of_event_lower n s p = n (ap (λ (c : Code). c.spq) (sym p))

  -- the whole octet for SPQ, whenever it is not 0
  of_event_whole : 1 ≤ octet → RuledOut (of_event.Post κs) (spa, (octet, tt)) (code spa octet)
  unfolding code_of_event
  of_event_whole h s p = let e : octet ≡ octet / 2 % 128 = ap (λ (c : Code). c.spq) p in omega arith

module _ (κs : Lfts 0) where
  -- the faults counted from 0
  number_zero : RuledOut (number.Post κs) (Version, tt) 0
  number_zero s p = omega arith

  -- the number of another fault
  number_other : (fault other : Fault) → (number_of other ≡ number_of fault → ⊥) → RuledOut (number.Post κs) (fault, tt) (number_of other)
  number_other fault other n s p = n p

  -- the books counted from 0
  book_number_zero : RuledOut (book_number_call.Post κs) (which.Chosen, tt) 0
  book_number_zero s p = omega arith

  -- the number of the other book
  book_number_other : (book other : Which) → (book_number other ≡ book_number book → ⊥) → RuledOut (book_number_call.Post κs) (book, tt) (book_number other)
  book_number_other book other n s p = n p

module _ (κs : Lfts 1) (x : Place) where
  -- a book said to be sound that is not, whatever it is
  check_sound : (book : List ℕ) → (SoundBook book → ⊥) → RuledOut (check.Post κs) (lent x book, tt) Sound
  check_sound book n s p = n (sound_only.said book (sym p))

  -- a sound book refused, by whatever number and entry
  check_refused : (book : List ℕ) → SoundBook book → (fault : Fault) (entry : ℕ) → RuledOut (check.Post κs) (lent x book, tt) (Refused fault entry)
  check_refused book b fault entry s p = not_sound (p ∙ sound_only.of_all book b)

  -- an empty book said to be sound
  check_empty : RuledOut (check.Post κs) (lent x [], tt) Sound
  unfolding checked
  check_empty s p = let e : ◌≡◌ {A = ℕ} 0 1 = ap refusal_in p in omega arith

  -- two entries of one code said to be sound, whatever the code and the names
  check_equals : (spa spq a b : ℕ) → RuledOut (check.Post κs) (lent x (1 ∷ spa ∷ spq ∷ 1 ∷ a ∷ spa ∷ spq ∷ 1 ∷ b ∷ []), tt) Sound
  unfolding entries_of entries walk code_of
  check_equals spa spq a b s p = not_itself (code spa spq) ((said_sound _ (sym p)).ordered.rising 0 1 (omega arith) (omega arith))

  -- the entry counted from 0
  check_counted : RuledOut (check.Post κs) (lent x (1 ∷ 7 ∷ 2 ∷ 0 ∷ []), tt) (Refused Name 0)
  unfolding checked first_fault fault_of entries_of entries walk
  check_counted s p = never (ap entry_in p)

  -- the length of a name before the name that is cut
  check_length_first : RuledOut (check.Post κs) (lent x (1 ∷ 7 ∷ 2 ∷ 41 ∷ 65 ∷ []), tt) (Refused Name 1)
  unfolding checked first_fault fault_of entries_of entries walk
  check_length_first s p = let e : ◌≡◌ {A = ℕ} 3 2 = ap refusal_in p in omega arith

  -- the order before the length of a name
  check_order_first : RuledOut (check.Post κs) (lent x (1 ∷ 7 ∷ 2 ∷ 1 ∷ 65 ∷ 7 ∷ 1 ∷ 0 ∷ []), tt) (Refused Order 2)
  unfolding checked first_fault fault_of in_order rises_to code_of entries_of entries walk
  check_order_first s p = let e : ◌≡◌ {A = ℕ} 4 3 = ap refusal_in p in omega arith

  -- a later fault for an earlier one
  check_later : RuledOut (check.Post κs) (lent x (1 ∷ 7 ∷ 2 ∷ 0 ∷ 7 ∷ 3 ∷ 2 ∷ 65 ∷ []), tt) (Refused Cut 2)
  unfolding checked first_fault fault_of entries_of entries walk
  check_later s p = let e : ◌≡◌ {A = ℕ} 2 3 = ap refusal_in p in omega arith

-- the number of the book that is refused, and none
abbrev refused_book : Shown → ℕ
refused_book (Ok n) = 0
refused_book (Err r) = book_number r.book

not_refused : (book : Which) → ◌≡◌ {A = ℕ} (book_number book) 3 → ⊥
not_refused which.Chosen e = omega arith
not_refused which.Italian e = omega arith

module _ (κs : Lfts 2) (x y : Place) (chosen italian : List ℕ) (wanted : Code) where
  -- the name from the Italian book where the chosen one has it, whatever two sound books they are
  look_up_italian : (c : SoundBook chosen) → SoundBook italian → (k : ℕ) → Has c.its wanted k → (j at many : ℕ)
      → RuledOut (look_up.Post κs) (lent x chosen, (lent y italian, (wanted, tt))) (showing which.Italian j at many)
  look_up_italian c i k h j at many s p =
      let e : shows.Italian j ≡ shows.Chosen k = ap shown_of p ∙ ((found_exactly chosen italian c i wanted).from_chosen k).1 h in
      apart (λ e. omega arith) e

  -- no name where the Italian book has it, whatever two sound books they are
  look_up_none : (c : SoundBook chosen) (i : SoundBook italian) (k : ℕ) → Has i.its wanted k
      → RuledOut (look_up.Post κs) (lent x chosen, (lent y italian, (wanted, tt))) (Ok None)
  look_up_none c i k h s p = ((found_exactly chosen italian c i wanted).no_name.0 (ap shown_of (sym p))).1 k h

  -- an entry next to the one that has the code, whatever two sound books they are
  look_up_next : (c : SoundBook chosen) → SoundBook italian → (k : ℕ) → Has c.its wanted k → (at many : ℕ)
      → RuledOut (look_up.Post κs) (lent x chosen, (lent y italian, (wanted, tt))) (showing which.Chosen (k + 1) at many)
  look_up_next c i k h at many s p =
      let e : shows.Chosen (k + 1) ≡ shows.Chosen k = ap shown_of p ∙ ((found_exactly chosen italian c i wanted).from_chosen k).1 h in
      let f : k + 1 ≡ k = ap entry_shown e in
      omega arith

  -- a name from either book, where the Italian one is faulty
  look_up_unchecked : (fault : Fault) (entry : ℕ) → checked chosen ≡ Sound → checked italian ≡ Refused fault entry → (book : Which) (k at many : ℕ)
      → RuledOut (look_up.Post κs) (lent x chosen, (lent y italian, (wanted, tt))) (showing book k at many)
  look_up_unchecked fault entry c q book k at many s p =
      let e : shown_of (showing book k at many) ≡ shows.Refused which.Italian fault entry = ap shown_of p ∙ checked_first.italian_then chosen italian fault entry c q wanted in
      apart (not_refused book) e

  -- the Italian book named where the chosen one is faulty, be the Italian one faulty or not
  look_up_other : (fault : Fault) (entry : ℕ) → checked chosen ≡ Refused fault entry → (fault' : Fault) (entry' : ℕ)
      → RuledOut (look_up.Post κs) (lent x chosen, (lent y italian, (wanted, tt))) (refusing which.Italian fault' entry')
  look_up_other fault entry q fault' entry' s p =
      let e : shows.Refused which.Italian fault' entry' ≡ shows.Refused which.Chosen fault entry = ap shown_of p ∙ checked_first.chosen_first chosen italian fault entry q wanted in
      let f : ◌≡◌ {A = ℕ} 2 1 = ap refused_book e in
      omega arith

  -- a name found where the chosen book is refused
  look_up_placed : (fault : Fault) (entry : ℕ) → checked chosen ≡ Refused fault entry → (book : Which) (k at many : ℕ)
      → RuledOut (look_up.Post κs) (lent x chosen, (lent y italian, (wanted, tt))) (showing book k at many)
  look_up_placed fault entry q book k at many s p =
      let e : shown_of (showing book k at many) ≡ shows.Refused which.Chosen fault entry = ap shown_of p ∙ checked_first.chosen_first chosen italian fault entry q wanted in
      apart (not_refused book) e

-- a book of one entry, whose name has two octets
abbrev one_entry : Code → ℕ → ℕ → List ℕ
one_entry c a b = 1 ∷ c.spa ∷ c.spq ∷ 2 ∷ a ∷ b ∷ []

one_found : (wanted : Code) (a b c d : ℕ) → looked_up wanted (one_entry wanted a b) (one_entry wanted c d) ≡ showing which.Chosen 1 4 2
unfolding looked_up unless_refused from_either find find_in same_code checked first_fault fault_of in_order entries_of entries walk code_of
one_found wanted a b c d = rw (eq-eqb wanted.spa wanted.spa refl, eq-eqb wanted.spq wanted.spq refl)

one_name : (wanted : Code) (a b c d : ℕ) → name_shown wanted (one_entry wanted a b) (one_entry wanted c d) ≡ a ∷ b ∷ []
unfolding name_shown name_of_shown name_in name_of entries_of entries walk
one_name wanted a b c d = ap (λ (l : LookedUp). name_of_shown (shown_of l) (one_entry wanted a b) (one_entry wanted c d)) (one_found wanted a b c d)

module _ (κs : Lfts 1) (x y z : Place) where
  -- octets of the other book, whenever the two that lie there differ
  name_at_other : (a b k : ℕ) → (a ≡ b → ⊥) → RuledOut (name_at.Post κs) (lent x (a ∷ []), (lent y (b ∷ []), (Ok (Some (found which.Chosen k 0 1)), tt))) (lent z (b ∷ []))
  unfolding cut_out cut_from
  name_at_other a b k n s p = n cc

  -- all octets to the end of the book, where one is told
  name_at_end : (a b k : ℕ) (chosen : List ℕ)
      → RuledOut (name_at.Post κs) (lent x chosen, (lent y (a ∷ b ∷ []), (Ok (Some (found which.Italian k 0 1)), tt))) (lent z (a ∷ b ∷ []))
  unfolding cut_out cut_from
  name_at_end a b k chosen s p = never (omega (arith, ap length p))

  -- anything where there is no name, whatever the books
  name_at_some : (chosen italian : List ℕ) (octet : ℕ) (others : List ℕ)
      → RuledOut (name_at.Post κs) (lent x chosen, (lent y italian, (Ok None, tt))) (lent z (octet ∷ others))
  unfolding cut_out
  name_at_some chosen italian octet others s p = never (omega (arith, ap length p))

  module _ (wanted : Code) (a b c d : ℕ) where
    -- the Italian name where the chosen book has one, whenever the two differ
    name_italian : (a ≡ c → ⊥) → RuledOut (name.Post κs) (lent x (one_entry wanted a b), (lent y (one_entry wanted c d), (wanted, tt))) (lent z (c ∷ d ∷ []))
    name_italian n s p = let e : c ∷ d ∷ [] ≡ a ∷ b ∷ [] = p ∙ one_name wanted a b c d in n cc

    -- the name's length in front of it
    name_length : RuledOut (name.Post κs) (lent x (one_entry wanted a b), (lent y (one_entry wanted c d), (wanted, tt))) (lent z (2 ∷ a ∷ b ∷ []))
    name_length s p = never (omega (arith, ap length (p ∙ one_name wanted a b c d)))

    -- nothing where the chosen book has a name
    name_nothing : RuledOut (name.Post κs) (lent x (one_entry wanted a b), (lent y (one_entry wanted c d), (wanted, tt))) (lent z [])
    name_nothing s p = never (omega (arith, ap length (p ∙ one_name wanted a b c d)))

  -- a name where a book is refused, whatever the books
  name_refused : (chosen italian : List ℕ) (wanted : Code) (fault : Fault) (entry : ℕ) → checked chosen ≡ Refused fault entry → (octet : ℕ) (others : List ℕ)
      → RuledOut (name.Post κs) (lent x chosen, (lent y italian, (wanted, tt))) (lent z (octet ∷ others))
  unfolding name_shown name_of_shown
  name_refused chosen italian wanted fault entry q octet others s p =
      let e : octet ∷ others ≡ [] = p ∙ ap (λ (t : Shown). name_of_shown t chosen italian) (checked_first.chosen_first chosen italian fault entry q wanted) in
      never (omega (arith, ap length e))

  -- a name where neither book has one
  name_none : (chosen italian : List ℕ) (wanted : Code) → looked_up wanted chosen italian ≡ Ok None → (octet : ℕ) (others : List ℕ)
      → RuledOut (name.Post κs) (lent x chosen, (lent y italian, (wanted, tt))) (lent z (octet ∷ others))
  unfolding name_shown name_of_shown
  name_none chosen italian wanted q octet others s p =
      let e : octet ∷ others ≡ [] = p ∙ ap (λ (l : LookedUp). name_of_shown (shown_of l) chosen italian) q in
      never (omega (arith, ap length e))

module _ (κs : Lfts 1) (x : Place) (book : List ℕ) (r : Entries) where
  -- the version taken for the first entry's SPA
  entries_of_version : r.at ≡ 0 → RuledOut (entries_of_call.Post κs) (lent x book, tt) r
  entries_of_version e s p = omega (arith, p.1)

  -- the entries of other octets than the book's
  entries_of_other : (r.book.now ≡ book → ⊥) → RuledOut (entries_of_call.Post κs) (lent x book, tt) r
  entries_of_other n s p = n p.0
