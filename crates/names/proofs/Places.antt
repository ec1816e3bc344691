-- What `find` finds: an entry of the code, by its number, at its place; or nothing, and no entry has the code.
-- By recursion on the entries. Assumes nothing.
use Prim.Native.Nat.{ℕ, zero, suc, ◌+◌, ◌-◌, ◌≤◌, ◌<◌}
use mathlib.Core.Bool.{Bool, true, false}
use mathlib.Core.List.{List, [], ◌∷◌, ◌++◌, flatten, append-nil, append_assoc}
use mathlib.Core.Path.{◌≡◌, refl, sym, ap, ◌∙◌}
use native.Mathlib.Omega.{arith}
use borrow.Author.Tests.{leb-true, leb-false, eq-eqb, eqb-true}
use lib.Dec.{leb, eqb}
use lib.ListN.{length, get_or, take, drop}
use lib.Seq.{get_or-take, take-add}
use Rattle.octets.specs.Choice.{when◌then◌else◌}
use Rattle.octets.proofs.Choice.{either, not_both}
use Rattle.octets.proofs.Outcome.{never}
use Rattle.names.specs.declared.Code.{Code}
use Rattle.names.specs.declared.Place.{Place}
use Rattle.std.specs.Prelude.{Option, Some, None}
use Rattle.names.specs.Codes.{code, same_code}
use Rattle.names.specs.Book.{code_of, length_of, size_of, entries_of}
use Rattle.names.specs.LookUp.{find_in, find, number_found, name_in}
use Rattle.names.specs.working.Pass.{entry_at, entries_from}
use Rattle.names.proofs.Standing.{entries_end, entries_more, length_of_law, name_there}

-- codes are the same by their parts
pub same_code_law : (a b : Code) → same_code a b ≡ true → a ≡ b
unfolding same_code
same_code_law a b e = by_test (eqb a.spa b.spa) refl e
  where
    by_test : (t : Bool) → eqb a.spa b.spa ≡ t → (when t then eqb a.spq b.spq else false) ≡ true → a ≡ b
    by_test true f e = ap (λ (x : ℕ). code x a.spq) (eqb-true a.spa b.spa f) ∙ ap (code b.spa) (eqb-true a.spq b.spq e)
    by_test false f e = absurd (not_both refl e)

pub is_same : (a : Code) → same_code a a ≡ true
unfolding same_code
is_same a = rw (eq-eqb a.spa a.spa refl, eq-eqb a.spq a.spq refl)

-- the first of the entries from a place on, and the others
record First (s : List ℕ) (at : ℕ) (e : List ℕ) (es : List (List ℕ)) : Type 0 where
  here : e ≡ entry_at s at
  rest : es ≡ entries_from s (at + size_of e)

first : {s : List ℕ} {at : ℕ} {e : List ℕ} {es : List (List ℕ)} → e ∷ es ≡ entries_from s at → First s at e es
first {s} {at} {e} {es} q = by_test (leb (length s) at) refl
  where
    by_test : (t : Bool) → leb (length s) at ≡ t → First s at e es
    by_test true f = let gone : e ∷ es ≡ [] = q ∙ entries_end s at (leb-true _ _ f) in absurd (never cc)
    by_test false f =
        let more : e ∷ es ≡ entry_at s at ∷ entries_from s (at + size_of (entry_at s at)) = q ∙ entries_more s at (leb-false _ _ f) in
        let same : e ≡ entry_at s at = cc in
        let others : es ≡ entries_from s (at + size_of (entry_at s at)) = cc in
        record { here = same; rest = others ∙ ap (λ (x : List ℕ). entries_from s (at + size_of x)) (sym same) }

-- the octets up to the next entry are those up to an entry and its own
through : (s : List ℕ) (at : ℕ) → take (at + size_of (entry_at s at)) s ≡ take at s ++ entry_at s at
unfolding entry_at
through s at =
    let size : size_of (take (size_of (drop at s)) (drop at s)) ≡ size_of (drop at s) = ap (3 +◌) (get_or-take (size_of (drop at s)) (drop at s) 2 0 (omega arith)) in
    rw size (take-add at (size_of (drop at s)) s)

-- where the name lies of an entry that is found, and with how many octets
abbrev pub at_found : Option Place → ℕ
at_found None = 0
at_found (Some p) = p.at

abbrev pub many_found : Option Place → ℕ
many_found None = 0
many_found (Some p) = p.many

-- an entry's number is over 0
abbrev pub Numbered : Option Place → Type 0
Numbered None = Unit
Numbered (Some p) = 0 < p.number

module _ (wanted : Code) where
  find_in_numbered : (number at : ℕ) (es : List (List ℕ)) → 0 < number → Numbered (find_in wanted number at es)
  unfolding find_in
  find_in_numbered number at [] h = tt
  find_in_numbered number at (e ∷ es) h =
      either Numbered (same_code (code_of e) wanted) (λ f. h) (λ f. find_in_numbered (number + 1) (at + size_of e) es (omega arith))

  pub find_numbered : (book : List ℕ) → Numbered (find wanted book)
  unfolding find
  find_numbered book = find_in_numbered 1 1 (entries_of book) (omega arith)

  pub found_numbered : (book : List ℕ) {p : Place} → find wanted book ≡ Some p → 0 < number_found (find wanted book)
  found_numbered book e = rw e (rw e at (find_numbered book))

  -- nothing is found: no entry has the code
  pub missed : (number at : ℕ) (es : List (List ℕ)) → 0 < number → number_found (find_in wanted number at es) ≡ 0
      → (n : ℕ) → n < length es → code_of (get_or es n []) ≡ wanted → ⊥
  unfolding find_in
  missed number at [] h = λ q n k c. omega arith
  missed number at (e ∷ es) h =
      either (λ (p : Option Place). number_found p ≡ 0 → (n : ℕ) → n < length (e ∷ es) → code_of (get_or (e ∷ es) n []) ≡ wanted → ⊥) (same_code (code_of e) wanted)
      (λ f q n k c. omega arith)
      (λ f q. one_more f (missed (number + 1) (at + size_of e) es (omega arith) q))
    where
      one_more : same_code (code_of e) wanted ≡ false → ((n : ℕ) → n < length es → code_of (get_or es n []) ≡ wanted → ⊥)
          → (n : ℕ) → n < length (e ∷ es) → code_of (get_or (e ∷ es) n []) ≡ wanted → ⊥
      one_more f others zero k c = not_both f (ap (λ (x : Code). same_code x wanted) c ∙ is_same wanted)
      one_more f others (suc n) k c = others n (omega arith) c

  -- an entry is found among those that stand in octets from a place on: which of them, and where it stands
  pub record Found (s : List ℕ) (number at : ℕ) (es : List (List ℕ)) (p : Option Place) : Type 0 where
    pub from : number ≤ number_found p
    pub to : number_found p < number + length es
    pub code_so : code_of (get_or es (number_found p - number) []) ≡ wanted
    pub start : ℕ
    pub front_so : take start s ≡ take at s ++ flatten (take (number_found p - number) es)
    pub entry_so : get_or es (number_found p - number) [] ≡ entry_at s start
    pub at_so : at_found p ≡ start + 3
    pub many_so : many_found p ≡ length_of (entry_at s start)

  found : (s : List ℕ) (number at : ℕ) (es : List (List ℕ)) → es ≡ entries_from s at → 0 < number_found (find_in wanted number at es)
      → Found s number at es (find_in wanted number at es)
  unfolding find_in flatten
  found s number at [] q = λ h. absurd (omega arith)
  found s number at (e ∷ es) q =
      either (λ (p : Option Place). 0 < number_found p → Found s number at (e ∷ es) p) (same_code (code_of e) wanted)
      (λ f h.
      let zeroth : number - number ≡ 0 = omega arith in
      record {
        from = omega arith;
        to = omega arith;
        code_so = rw zeroth (same_code_law (code_of e) wanted f);
        start = at;
        front_so = rw zeroth (sym (append-nil (take at s)));
        entry_so = rw zeroth (first q).here;
        at_so = refl;
        many_so = ap length_of (first q).here;
      })
      (λ f h.
      let p = find_in wanted (number + 1) (at + size_of e) es in
      let l = found s (number + 1) (at + size_of e) es (first q).rest h in
      let next : number_found p - number ≡ suc (number_found p - (number + 1)) = omega (arith, l.from) in
      let others = flatten (take (number_found p - (number + 1)) es) in
      let own : take (at + size_of e) s ≡ take at s ++ e = rw (first q).here (through s at) in
      record {
        from = omega (arith, l.from);
        to = omega (arith, l.to);
        code_so = rw next l.code_so;
        start = l.start;
        front_so = rw next (l.front_so ∙ ap (◌++ others) own ∙ append_assoc (take at s) e others);
        entry_so = rw next l.entry_so;
        at_so = l.at_so;
        many_so = l.many_so;
      })

  -- in a book, with its name where it says
  pub found_in : (book : List ℕ) → 0 < number_found (find wanted book) → Found book 1 1 (entries_of book) (find wanted book)
  unfolding find entries_of
  found_in book h = found book 1 1 (entries_of book) (unfold entries_from in refl) h

  pub name_found : (book : List ℕ) → 0 < number_found (find wanted book) → let p = find wanted book in take (many_found p) (drop (at_found p) book) ≡ name_in (number_found p) book
  unfolding name_in
  name_found book h =
      let l = found_in book h in
      rw (l.entry_so, l.at_so, l.many_so, length_of_law book l.start) (sym (name_there book l.start))
