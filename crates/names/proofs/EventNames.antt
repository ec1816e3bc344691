-- What #103 asks of look-ups: which book and entry are shown, that names have no part in it, and that what is shown stands in its book.
-- In sound books what is shown goes by the number of the code's entry in each; that number goes by the codes alone. Assumes nothing.
use Prim.Native.Nat.{ℕ, zero, suc, ◌+◌, ◌-◌, ◌≤◌, ◌<◌}
use mathlib.Core.Bool.{Bool, true, false}
use mathlib.Core.List.{List, [], ◌∷◌, ◌++◌, flatten, append_assoc}
use mathlib.Core.Path.{◌≡◌, refl, sym, ap, ◌∙◌}
use native.Mathlib.Omega.{arith}
use borrow.Author.Tests.{lt-ltb, ltb-true, ltb-false}
use lib.Dec.{ltb}
use lib.ListN.{length, get_or, take, drop, length-drop, take-append-drop}
use lib.Seq.{length-take-le}
use Rattle.octets.specs.Choice.{when◌then◌else◌}
use Rattle.octets.proofs.Choice.{either, if_both}
use Rattle.octets.proofs.Outcome.{never}
use Rattle.names.specs.declared.Code.{Code}
use Rattle.names.specs.declared.Fault.{Fault}
use Rattle.names.specs.declared.Place.{Place}
use Rattle.names.specs.declared.Which.TheVariants as which
use Rattle.std.specs.Prelude.{Option, Some, None, Ok, Err}
use Rattle.names.specs.Codes.{same_code}
use Rattle.names.specs.Book.{code_of, length_of, size_of, name_of, entries_of, Checked, checked}
use Rattle.names.specs.Book as checks
use Rattle.names.specs.LookUp.{LookedUp, Shown, Refused, Chosen, Italian, Nothing, shown_of, find_in, find, number_found, unless_refused, from_either, looked_up, name_in, name_of_shown, name_shown}
use Rattle.names.specs.Answers.{book_number}
use Rattle.names.specs.working.Pass.{entry_at}
use Rattle.names.specs.EventNames.{LookUp, Right, Rises, code_at, InOrder, book_of, SoundBook, shown_for, CheckedFirst, Has, HasNot, AtMostOne, Finds, FoundExactly, OnlyLookUp, codes, NamesKept, translated, Names, Translated, Stands, InItsBook, NameShown}
use Rattle.names.proofs.Standing.{entry_most}
use Rattle.names.proofs.Places.{at_found, many_found, Numbered, find_numbered, found_numbered, missed, found_in}
use Rattle.names.proofs.Shows.{by_shown, cut_is_name}
use Rattle.names.proofs.Order.{not_itself}
use Rattle.names.proofs.Books.{sound_only, said_sound, its_entries}

-- ---- the books are checked first ----

module _ (wanted : Code) (chosen italian : List ℕ) where
  pub chosen_refused : {fault : Fault} {entry : ℕ} → checked chosen ≡ checks.Refused fault entry → shown_of (looked_up wanted chosen italian) ≡ Refused which.Chosen fault entry
  unfolding looked_up unless_refused
  chosen_refused q = rw q

  italian_refused : {fault : Fault} {entry : ℕ} → checked chosen ≡ checks.Sound → checked italian ≡ checks.Refused fault entry
      → shown_of (looked_up wanted chosen italian) ≡ Refused which.Italian fault entry
  unfolding looked_up unless_refused
  italian_refused c q = rw (c, q)

  both_sound : checked chosen ≡ checks.Sound → checked italian ≡ checks.Sound
      → looked_up wanted chosen italian ≡ from_either (find wanted chosen) (find wanted italian)
  unfolding looked_up unless_refused
  both_sound c i = rw (c, i)

pub checked_first : CheckedFirst shown_for
checked_first = record {
  chosen_first = λ chosen italian fault entry q wanted. chosen_refused wanted chosen italian q;
  italian_then = λ chosen italian fault entry c q wanted. italian_refused wanted chosen italian c q;
  chosen_number = refl;
  italian_number = refl;
}

-- ---- one entry of a code at most ----

not_before : (es : List (List ℕ)) → InOrder es → (wanted : Code) (j k : ℕ) → Has es wanted j → Has es wanted k → j < k → ⊥
not_before es o wanted j k h g l =
    let r : Rises (code_at es (j - 1)) (code_at es (k - 1)) = o.rising (j - 1) (k - 1) (omega (arith, h.0, g.0)) (omega (arith, g.0, g.1)) in
    not_itself wanted (rw (h.2, g.2) at r)

pub at_most_one : AtMostOne
at_most_one book b wanted j k h g = by_tests (ltb j k) refl (ltb k j) refl
  where
    by_tests : (t : Bool) → ltb j k ≡ t → (u : Bool) → ltb k j ≡ u → j ≡ k
    by_tests true p u q = absurd (not_before b.its b.in_order wanted j k h g (ltb-true _ _ p))
    by_tests false p true q = absurd (not_before b.its b.in_order wanted k j g h (ltb-true _ _ q))
    by_tests false p false q = omega (arith, ltb-false j k p, ltb-false k j q)

-- ---- what is found in a sound book ----

module _ (wanted : Code) {book : List ℕ} (b : SoundBook book) where
  found_has : 0 < number_found (find wanted book) → Has b.its wanted (number_found (find wanted book))
  found_has h =
      let l = found_in wanted book h in
      let same = its_entries b in
      let most : number_found (find wanted book) ≤ length (entries_of book) = omega (arith, l.to) in
      (l.from, rw same at most, rw same at l.code_so)

  none_has : number_found (find wanted book) ≡ 0 → HasNot b.its wanted
  none_has q k h =
      let same = its_entries b in
      missed wanted 1 1 (entries_of book) (omega arith) (unfold find in q) (k - 1) (rw same (omega (arith, h.0, h.1))) (rw same h.2)

  has_found : (k : ℕ) → Has b.its wanted k → number_found (find wanted book) ≡ k
  has_found k h = by_test (ltb 0 (number_found (find wanted book))) refl
    where
      by_test : (t : Bool) → ltb 0 (number_found (find wanted book)) ≡ t → number_found (find wanted book) ≡ k
      by_test true f = at_most_one book b wanted (number_found (find wanted book)) k (found_has (ltb-true _ _ f)) h
      by_test false f = absurd (none_has (omega (arith, ltb-false 0 (number_found (find wanted book)) f)) k h)

  has_not_found : HasNot b.its wanted → number_found (find wanted book) ≡ 0
  has_not_found n = by_test (ltb 0 (number_found (find wanted book))) refl
    where
      by_test : (t : Bool) → ltb 0 (number_found (find wanted book)) ≡ t → number_found (find wanted book) ≡ 0
      by_test true f = absurd (n (number_found (find wanted book)) (found_has (ltb-true _ _ f)))
      by_test false f = omega (arith, ltb-false 0 (number_found (find wanted book)) f)

-- ---- what is shown ----

-- by the numbers of the code's entries alone
by_numbers : ℕ → ℕ → Shown
by_numbers m n = when ltb 0 m then Chosen m else when ltb 0 n then Italian n else Nothing

shown_by : (p q : Option Place) → Numbered p → Numbered q → shown_of (from_either p q) ≡ by_numbers (number_found p) (number_found q)
unfolding from_either by_numbers
shown_by (Some p) q n m = rw (lt-ltb 0 p.number n) refl
shown_by None (Some q) n m = rw (lt-ltb 0 q.number m) refl
shown_by None None n m = refl

sound_shown : (wanted : Code) {chosen italian : List ℕ} → SoundBook chosen → SoundBook italian
    → shown_for wanted chosen italian ≡ by_numbers (number_found (find wanted chosen)) (number_found (find wanted italian))
sound_shown wanted {chosen} {italian} c i =
    ap shown_of (both_sound wanted chosen italian (sound_only.of_all chosen c) (sound_only.of_all italian i))
    ∙ shown_by (find wanted chosen) (find wanted italian) (find_numbered wanted chosen) (find_numbered wanted italian)

-- three cases
data Case (m n : ℕ) : Shown → Type 0 where
  in_chosen : 0 < m → Case m n (Chosen m)
  in_italian : m ≡ 0 → 0 < n → Case m n (Italian n)
  in_neither : m ≡ 0 → n ≡ 0 → Case m n Nothing

case : (m n : ℕ) → Case m n (by_numbers m n)
unfolding by_numbers
case m n =
    either (Case m n) (ltb 0 m) (λ f. in_chosen (ltb-true _ _ f))
    (λ f. either (Case m n) (ltb 0 n) (λ g. in_italian (omega (arith, ltb-false 0 m f)) (ltb-true _ _ g)) (λ g. in_neither (omega (arith, ltb-false 0 m f)) (omega (arith, ltb-false 0 n g))))

-- what is shown, told apart: the book that has the name, and the entry
abbrev pub kind : Shown → ℕ
kind (Ok (Some n)) = book_number n.book
kind (Ok None) = 0
kind (Err r) = 3

abbrev pub entry_shown : Shown → ℕ
entry_shown (Ok (Some n)) = n.entry
entry_shown (Ok None) = 0
entry_shown (Err r) = r.why.entry

pub apart : {s t : Shown} → (kind s ≡ kind t → ⊥) → s ≡ t → ⊥
apart n e = n (ap kind e)

module _ (m n k : ℕ) where
  is_chosen : {s : Shown} → Case m n s → s ≡ Chosen k → (0 < m) × (m ≡ k)
  is_chosen (in_chosen h) q = (h, ap entry_shown q)
  is_chosen (in_italian h g) q = absurd (apart (λ e. omega arith) q)
  is_chosen (in_neither h g) q = absurd (apart (λ e. omega arith) q)

  is_italian : {s : Shown} → Case m n s → s ≡ Italian k → (m ≡ 0) × (0 < n) × (n ≡ k)
  is_italian (in_chosen h) q = absurd (apart (λ e. omega arith) q)
  is_italian (in_italian h g) q = (h, g, ap entry_shown q)
  is_italian (in_neither h g) q = absurd (apart (λ e. omega arith) q)

is_nothing : {m n : ℕ} {s : Shown} → Case m n s → s ≡ Nothing → (m ≡ 0) × (n ≡ 0)
is_nothing (in_chosen h) q = absurd (apart (λ e. omega arith) q)
is_nothing (in_italian h g) q = absurd (apart (λ e. omega arith) q)
is_nothing (in_neither h g) q = (h, g)

module _ (chosen italian : List ℕ) (c : SoundBook chosen) (i : SoundBook italian) (wanted : Code) where
  abbrev in_first : ℕ
  in_first = (number_found (find wanted chosen))

  abbrev in_second : ℕ
  in_second = (number_found (find wanted italian))

  is_shown_law : {s : Shown} → shown_for wanted chosen italian ≡ s → by_numbers in_first in_second ≡ s
  is_shown_law q = sym (sound_shown wanted c i) ∙ q

  finds : Finds shown_for chosen italian c i wanted
  unfolding by_numbers
  finds = record {
    from_chosen = λ k. (
      λ q. let f = is_chosen in_first in_second k (case in_first in_second) (is_shown_law q) in rw f.1 at (found_has wanted c f.0),
      λ h. sound_shown wanted c i ∙ rw (has_found wanted c k h, lt-ltb 0 k h.0),
    );
    from_italian = λ k. (
      λ q. let f = is_italian in_first in_second k (case in_first in_second) (is_shown_law q) in (none_has wanted c f.0, rw f.2 at (found_has wanted i f.1)),
      λ h. sound_shown wanted c i ∙ rw (has_not_found wanted c h.0, has_found wanted i k h.1, lt-ltb 0 k h.1.0),
    );
    no_name = (
      λ q. let f = is_nothing (case in_first in_second) (is_shown_law q) in (none_has wanted c f.0, none_has wanted i f.1),
      λ h. sound_shown wanted c i ∙ rw (has_not_found wanted c h.0, has_not_found wanted i h.1),
    );
  }

pub found_exactly : FoundExactly shown_for
found_exactly = finds

-- ---- no other look-up ----

module _ (look : LookUp) (first : CheckedFirst look) (exactly : FoundExactly look) (wanted : Code) (chosen italian : List ℕ) where
  agrees : (c : SoundBook chosen) (i : SoundBook italian) {s : Shown} → Case (number_found (find wanted chosen)) (number_found (find wanted italian)) s → look wanted chosen italian ≡ s
  agrees c i (in_chosen h) = ((exactly chosen italian c i wanted).from_chosen _).1 (found_has wanted c h)
  agrees c i (in_italian h g) = ((exactly chosen italian c i wanted).from_italian _).1 (none_has wanted c h, found_has wanted i g)
  agrees c i (in_neither h g) = (exactly chosen italian c i wanted).no_name.1 (none_has wanted c h, none_has wanted i g)

  by_checks : (v w : Checked) → checked chosen ≡ v → checked italian ≡ w → look wanted chosen italian ≡ shown_for wanted chosen italian
  by_checks (Err v) w p q =
      first.chosen_first chosen italian v.fault v.entry p wanted ∙ sym (checked_first.chosen_first chosen italian v.fault v.entry p wanted)
  by_checks (Ok v) (Err w) p q =
      first.italian_then chosen italian w.fault w.entry p q wanted ∙ sym (checked_first.italian_then chosen italian w.fault w.entry p q wanted)
  by_checks (Ok v) (Ok w) p q =
      let c = sound_only.said chosen p in
      let i = sound_only.said italian q in
      agrees c i (case (number_found (find wanted chosen)) (number_found (find wanted italian))) ∙ sym (sound_shown wanted c i)

pub only_look_up : OnlyLookUp
only_look_up look first exactly wanted chosen italian = by_checks look first exactly wanted chosen italian (checked chosen) (checked italian) refl refl

-- ---- names have no part in it ----

number_by_codes : (wanted : Code) (number at at' : ℕ) (es es' : List (List ℕ)) → codes es ≡ codes es'
    → number_found (find_in wanted number at es) ≡ number_found (find_in wanted number at' es')
unfolding find_in
number_by_codes wanted number at at' [] [] q = refl
number_by_codes wanted number at at' [] (e ∷ es) q = absurd (never cc)
number_by_codes wanted number at at' (e ∷ es) [] q = absurd (never cc)
number_by_codes wanted number at at' (e ∷ es) (e' ∷ es') q =
    let same : code_of e ≡ code_of e' = cc in
    let others : codes es ≡ codes es' = cc in
    rw same
    (if_both (λ (p p' : Option Place). number_found p ≡ number_found p') (same_code (code_of e') wanted) (λ f. refl)
    (λ f. number_by_codes wanted (number + 1) (at + size_of e) (at' + size_of e') es es' others))

same_find : (wanted : Code) {book book' : List ℕ} (b : SoundBook book) (b' : SoundBook book') → codes b.its ≡ codes b'.its
    → number_found (find wanted book) ≡ number_found (find wanted book')
unfolding find
same_find wanted b b' q = rw (its_entries b, its_entries b') (number_by_codes wanted 1 1 1 b.its b'.its q)

pub names_kept : NamesKept shown_for
names_kept chosen chosen' italian italian' c c' i i' p q wanted =
    sound_shown wanted c i ∙ rw (same_find wanted c c' p, same_find wanted i i' q) (sym (sound_shown wanted c' i'))

-- ---- a book translated ----

translated_codes : (es names : List (List ℕ)) → codes (translated es names) ≡ codes es
unfolding code_of
translated_codes [] names = refl
translated_codes (e ∷ es) [] = refl
translated_codes (e ∷ es) (name ∷ names) = ap (code_of e ∷◌) (translated_codes es names)

translated_code : (es names : List (List ℕ)) (n : ℕ) → code_at (translated es names) n ≡ code_at es n
translated_code [] names n = refl
translated_code (e ∷ es) [] n = refl
translated_code (e ∷ es) (name ∷ names) zero = unfold code_of in refl
translated_code (e ∷ es) (name ∷ names) (suc n) = translated_code es names n

translated_length : (es names : List (List ℕ)) → length (translated es names) ≡ length es
translated_length [] names = refl
translated_length (e ∷ es) [] = refl
translated_length (e ∷ es) (name ∷ names) = ap suc (translated_length es names)

translated_right : (es names : List (List ℕ)) → ((n : ℕ) → n < length es → Right (get_or es n [])) → Names names
    → (n : ℕ) → n < length es → Right (get_or (translated es names) n [])
translated_right [] names r s n h = r n h
translated_right (e ∷ es) [] r s n h = r n h
translated_right (e ∷ es) (name ∷ names) r s zero h = let own = s 0 (omega arith) in record { whole = omega arith; some = own.0; most = own.1 }
translated_right (e ∷ es) (name ∷ names) r s (suc n) h = translated_right es names (λ k l. r (suc k) (omega arith)) (λ k l. s (suc k) (omega arith)) n (omega arith)

translated_sound : {book : List ℕ} (b : SoundBook book) (names : List (List ℕ)) → Names names → SoundBook (book_of (translated b.its names))
translated_sound b names s =
    let es = b.its in
    let same = translated_length es names in
    record {
      its = translated es names;
      laid = refl;
      in_order = record {
        right = λ n h. translated_right es names b.in_order.right s n (rw same at h);
        rising = λ j k l h. rw (translated_code es names j, translated_code es names k) (b.in_order.rising j k l (rw same at h));
      };
    }

pub a_book_translated : Translated checked shown_for
unfolding translated_sound
a_book_translated = record {
  still_sound = λ book b names s. sound_only.of_all _ (translated_sound b names s);
  same_shown = λ chosen italian c i names names' s s' wanted.
      names_kept _ _ _ _ c (translated_sound c names s) i (translated_sound i names' s') (sym (translated_codes c.its names)) (sym (translated_codes i.its names')) wanted;
}

-- ---- what is shown stands in its book ----

-- an entry that is right, spelled: its code, the length of its name, its name
spelled : (e : List ℕ) → length e ≡ 3 + length_of e → e ≡ (code_of e).spa ∷ (code_of e).spq ∷ length (name_of e) ∷ name_of e
unfolding code_of name_of
spelled [] h = absurd (omega arith)
spelled (a ∷ []) h = absurd (omega arith)
spelled (a ∷ b ∷ []) h = absurd (omega arith)
spelled (a ∷ b ∷ many ∷ name) h = let q : many ≡ length name = omega arith in ap (λ (x : ℕ). a ∷ b ∷ x ∷ name) q

-- the entry at a place, between what stands before it and behind it
record Standing (book : List ℕ) (wanted : Code) (start : ℕ) : Type 0 where
  back : List ℕ
  stands : book ≡ take start book ++ (wanted.spa ∷ wanted.spq ∷ length (name_of (entry_at book start)) ∷ name_of (entry_at book start)) ++ back
  start_so : start ≡ length (take start book)
  many_so : length_of (entry_at book start) ≡ length (name_of (entry_at book start))

entry_stands : (wanted : Code) (book : List ℕ) (start : ℕ) → Right (entry_at book start) → code_of (entry_at book start) ≡ wanted → Standing book wanted start
unfolding entry_at name_of
entry_stands wanted book start right own =
    let e = entry_at book start in
    let size = size_of (drop start book) in
    let back = drop size (drop start book) in
    let written : e ≡ wanted.spa ∷ wanted.spq ∷ length (name_of e) ∷ name_of e =
    spelled e right.whole ∙ ap (λ (c : Code). c.spa ∷ c.spq ∷ length (name_of e) ∷ name_of e) own in
    record {
      back = back;
      stands = sym (take-append-drop start book) ∙ ap (take start book ++◌) (sym (take-append-drop size (drop start book)) ∙ ap (◌++ back) written)
          ∙ sym (append_assoc (take start book) (wanted.spa ∷ wanted.spq ∷ length (name_of e) ∷ name_of e) back);
      start_so = sym (length-take-le start book (omega (arith, entry_most book start, right.whole)));
      many_so = omega (arith, right.whole, length-drop 3 e);
    }

first_octet_law : (s : List ℕ) → get_or s 0 0 ≡ 1 → take 1 s ≡ 1 ∷ []
first_octet_law [] e = absurd (omega arith)
first_octet_law (x ∷ s) e = ap (◌∷ []) e

as_told : (book : List ℕ) (k : ℕ) (wanted : Code) {at many : ℕ} {name own front : List ℕ} → name ≡ own → front ≡ book_of (take (k - 1) (entries_of book)) → (back : List ℕ)
    → book ≡ front ++ (wanted.spa ∷ wanted.spq ∷ length own ∷ own) ++ back → at ≡ length front + 3 → many ≡ length own → Stands book k wanted at many name
as_told book k wanted {name = name} {own = own} n f back s a m = record {
  back = back;
  stands = rw n (s ∙ ap (λ (x : List ℕ). x ++ (wanted.spa ∷ wanted.spq ∷ length own ∷ own) ++ back) f);
  at_so = a ∙ ap (λ (x : List ℕ). length x + 3) f;
  many_so = m ∙ ap length (sym n);
}

name_stands : (wanted : Code) (book : List ℕ) → checked book ≡ checks.Sound → 0 < number_found (find wanted book)
    → let p = find wanted book in Stands book (number_found p) wanted (at_found p) (many_found p) (name_in (number_found p) book)
unfolding name_in
name_stands wanted book q h =
    let p = find wanted book in
    let b = said_sound book q in
    let l = found_in wanted book h in
    let right : Right (get_or (entries_of book) (number_found p - 1) []) = b.ordered.right (number_found p - 1) (omega (arith, l.from, l.to)) in
    let own : code_of (entry_at book l.start) ≡ wanted = ap code_of (sym l.entry_so) ∙ l.code_so in
    let s = entry_stands wanted book l.start (rw l.entry_so at right) own in
    let front : take l.start book ≡ book_of (take (number_found p - 1) (entries_of book)) = l.front_so ∙ ap (◌++ flatten (take (number_found p - 1) (entries_of book))) (first_octet_law book b.version) in
    as_told book (number_found p) wanted (ap name_of l.entry_so) front s.back s.stands (l.at_so ∙ ap (◌+ 3) s.start_so) (l.many_so ∙ s.many_so)

pub name_shown_law : NameShown
unfolding name_shown name_of_shown name_in
name_shown_law = record {
  in_its_book = λ wanted chosen italian.
      by_shown (λ (l : LookedUp). InItsBook l wanted (name_of_shown (shown_of l) chosen italian) chosen italian) (λ book why. refl) wanted chosen italian refl
      (λ c p e. (refl, rw e at (name_stands wanted chosen c (found_numbered wanted _ e))))
      (λ i p e. (refl, rw e at (name_stands wanted italian i (found_numbered wanted _ e))));
  cut_out = cut_is_name;
}
