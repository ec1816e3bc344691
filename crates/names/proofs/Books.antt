-- The check says Sound of sound books and of no others, and else names the first faulty entry.
-- A book is its version and its entries laid one after the other; the entries before the one that is named pass by themselves. Assumes nothing.
use Prim.Native.Nat.{ℕ, suc, ◌+◌, ◌-◌, ◌≤◌, ◌<◌}
use mathlib.Core.Bool.{Bool, true, false}
use mathlib.Core.List.{List, [], ◌∷◌}
use mathlib.Core.Logic.{◌⊎◌, inl, inr}
use mathlib.Core.Path.{◌≡◌, refl, sym, ap, ◌∙◌}
use native.Mathlib.Omega.{arith}
use borrow.Author.Tests.{ltb-true, ltb-false, eq-eqb, ne_eqb, eqb-true, eqb-false}
use lib.Dec.{ltb, eqb}
use lib.ListN.{length, get_or, take, drop, length-take}
use lib.Seq.{get_or-take, length-take-le, take_all}
use Rattle.octets.proofs.Choice.{either, not_both}
use Rattle.names.specs.declared.Code.{Code}
use Rattle.names.specs.declared.Fault.{Fault}
use Rattle.std.specs.Prelude.{Option, Some, None, Ok, Err}
use Rattle.names.specs.Codes.{code}
use Rattle.names.specs.Book.{code_of, length_of, entries, entries_of, in_order, Checked, Sound, Refused, unless_faulty, fault_of, first_fault, checked}
use Rattle.names.specs.EventNames.{Right, Rises, code_at, InOrder, book_of, SoundBook, Check, SoundOnly, OnlyCheck, Deserves, FirstFaulty, FaultNamed, AllThere}
use Rattle.names.proofs.Order.{not_sound, so_rises, Verdict, cut, unnamed, unordered, verdict, fine, so_sound, any_rise, each_fine, so_passes}
use Rattle.names.proofs.Laid.{laid_again, no_longer, whole_but_last, found_again}

-- ---- a book and its entries ----

version_laid : (book : List ℕ) → get_or book 0 0 ≡ 1 → book ≡ 1 ∷ drop 1 book
version_laid [] e = absurd (omega arith)
version_laid (x ∷ s) e = ap (◌∷ s) e

pub all_there : AllThere
unfolding entries_of
all_there = record {
  laid = λ book e. version_laid book e ∙ ap (1 ∷◌) (sym (laid_again (drop 1 book)));
  no_longer = λ book n. no_longer (drop 1 book) n;
  whole_but_last = λ book n h. whole_but_last (drop 1 book) n h;
}

pub entries_again : (es : List (List ℕ)) → InOrder es → entries_of (book_of es) ≡ es
unfolding entries_of
entries_again es o = found_again es (λ n h. (o.right n h).whole)

pub its_entries : {book : List ℕ} (b : SoundBook book) → entries_of book ≡ b.its
its_entries b = ap entries_of b.laid ∙ entries_again b.its b.in_order

-- of the first so many entries of octets, those that pass are in order
in_order_law : (s : List ℕ) (many : ℕ) → first_fault 1 (code 0 0) (take many (entries s)) ≡ Sound → InOrder (take many (entries s))
in_order_law s many q = record {
  right = λ n h.
      let f = each_fine 1 (code 0 0) (take many (entries s)) q n h in
      let least : n < many = omega (arith, length-take many (entries s)) in
      let e : get_or (take many (entries s)) n [] ≡ get_or (entries s) n [] = get_or-take many (entries s) n [] least in
      record { whole = rw e (omega (arith, no_longer s n, (rw e at f).0)); some = f.1; most = f.2 };
  rising = any_rise 1 (code 0 0) (take many (entries s)) (omega arith) q;
}

-- ---- sound ----

all_of : (es : List (List ℕ)) → take (length es) es ≡ es
all_of es = take_all (length es) es (omega arith)

entries_in_order : (book : List ℕ) → first_fault 1 (code 0 0) (entries_of book) ≡ Sound → InOrder (entries_of book)
unfolding entries_of
entries_in_order book q =
    let es = entries (drop 1 book) in
    rw (all_of es) at (in_order_law (drop 1 book) (length es) (rw (all_of es) q))

-- the entries of a book that is said to be sound are in order
pub record SaidSound (book : List ℕ) : Type 0 where
  pub version : get_or book 0 0 ≡ 1
  pub ordered : InOrder (entries_of book)

pub said_sound : (book : List ℕ) → checked book ≡ Sound → SaidSound book
unfolding checked
said_sound book =
    either (λ (v : Checked). v ≡ Sound → SaidSound book) (eqb (get_or book 0 0) 1)
    (λ f q. record { version = eqb-true _ _ f; ordered = entries_in_order book q }) (λ f q. absurd (not_sound q))

pub sound_only : SoundOnly checked
unfolding checked
sound_only = record {
  said = λ book q. let b = said_sound book q in record { its = entries_of book; laid = all_there.laid book b.version; in_order = b.ordered };
  of_all = λ book b.
      rw (b.laid, entries_again b.its b.in_order) (so_passes 1 (code 0 0) b.its (omega arith) b.in_order (λ l h. absurd (omega arith)));
}

-- ---- the first faulty entry ----

-- the code of the last entry, or the one before them all
abbrev last_code : Code → List (List ℕ) → Code
last_code before [] = before
last_code before (e ∷ es) = last_code (code_of e) es

last_code_law : (before : Code) (e : List ℕ) (es : List (List ℕ)) → last_code before (e ∷ es) ≡ code_at (e ∷ es) (length es)
last_code_law before e [] = refl
last_code_law before e (f ∷ es) = last_code_law (code_of e) f es

-- entries of which one is refused: those before it pass, and it does not
record Faulty (number : ℕ) (before : Code) (es : List (List ℕ)) (fault : Fault) (k : ℕ) : Type 0 where
  from : number ≤ k
  to : k < number + length es
  prior : first_fault number before (take (k - number) es) ≡ Sound
  found : Verdict k (last_code before (take (k - number) es)) (get_or es (k - number) []) (Some fault)

sound_refused : {fault : Fault} {k : ℕ} → Sound ≡ Refused fault k → ⊥
sound_refused q = cc

abbrev fault_or : Fault → Checked → Fault
fault_or other (Ok v) = other
fault_or other (Err why) = why.fault

abbrev entry_or : Checked → ℕ
entry_or (Ok v) = 0
entry_or (Err why) = why.entry

same_fault : {fault fault' : Fault} {k k' : ℕ} → Refused fault k ≡ Refused fault' k' → (fault ≡ fault') × (k ≡ k')
same_fault {fault} q = (ap (fault_or fault) q, ap entry_or q)

faulty : (number : ℕ) (before : Code) (es : List (List ℕ)) {fault : Fault} {k : ℕ} → first_fault number before es ≡ Refused fault k → Faulty number before es fault k
unfolding first_fault
faulty number before [] = λ q. absurd (sound_refused q)
faulty number before (e ∷ es) {fault} {k} = by_fault (λ q. faulty (number + 1) (code_of e) es q) (fault_of number before e) refl
  where
    later : fault_of number before e ≡ None → Faulty (number + 1) (code_of e) es fault k → Faulty number before (e ∷ es) fault k
    later f l =
        let next : k - number ≡ suc (k - (number + 1)) = omega (arith, l.from) in
        record {
          from = omega (arith, l.from);
          to = omega (arith, l.to);
          prior = rw next (so_sound number before e (take (k - (number + 1)) es) (fine number before e f) l.prior);
          found = rw next l.found;
        }

    here : fault_of number before e ≡ Some fault → number ≡ k → Faulty number before (e ∷ es) fault k
    here q r =
        let zeroth : k - number ≡ 0 = omega arith in
        record {
          from = omega arith;
          to = omega arith;
          prior = rw zeroth refl;
          found = rw (zeroth, ← r, ← q) (verdict number before e);
        }

    by_fault : (first_fault (number + 1) (code_of e) es ≡ Refused fault k → Faulty (number + 1) (code_of e) es fault k)
        → (v : Option Fault) → fault_of number before e ≡ v → unless_faulty v number (first_fault (number + 1) (code_of e) es) ≡ Refused fault k
        → Faulty number before (e ∷ es) fault k
    by_fault behind None f q = later f (behind q)
    by_fault behind (Some own) f q = let same = same_fault q in here (f ∙ ap (λ (x : Fault). Some x) same.0) same.1

-- an entry that is out of order is not the first, and does not rise
out_of_order : (k : ℕ) (before own : Code) → in_order k before own ≡ false → (k ≡ 1 → ⊥) × (Rises before own → ⊥)
unfolding in_order
out_of_order k before own o =
    (λ e. not_both o (rw (eq-eqb k 1 e)), λ r. not_both o (either (λ (t : Bool). t ≡ true) (eqb k 1) (λ f. refl) (λ f. so_rises before own r)))

-- of the entries of octets, the one that is refused deserves it
module _ (s : List ℕ) (fault : Fault) (k : ℕ) (l : Faulty 1 (code 0 0) (entries s) fault k) where
  abbrev front : List (List ℕ)
  front = take (k - 1) (entries s)

  abbrev own : List ℕ
  own = get_or (entries s) (k - 1) []

  front_length : length front ≡ k - 1
  front_length = length-take-le (k - 1) (entries s) (omega (arith, l.from, l.to))

  -- behind the first entry the code before is that of the last of those in front
  code_before : (es : List (List ℕ)) → 1 ≤ length es → last_code (code 0 0) es ≡ code_at es (length es - 1)
  code_before [] h = absurd (omega arith)
  code_before (e ∷ es) h = let less : length (e ∷ es) - 1 ≡ length es = omega arith in rw less (last_code_law (code 0 0) e es)

  deserves : {n : Fault} → Verdict k (last_code (code 0 0) front) own (Some n) → Deserves n front own
  deserves (cut h) = inl (refl, h, refl)
  deserves (unnamed h m) = inr (inl (refl, omega (arith, no_longer s (k - 1)), m, refl))
  deserves (unordered h some most o) =
      let wrong = out_of_order k (last_code (code 0 0) front) (code_of own) o in
      let behind : 1 ≤ length front = omega (arith, front_length, l.from, wrong.0) in
      inr
      (inr
      (refl, record { whole = omega (arith, no_longer s (k - 1)); some = some; most = most }, behind, λ r. wrong.1 (rw (code_before front behind) r), refl))

named : (book : List ℕ) (fault : Fault) (k : ℕ) → get_or book 0 0 ≡ 1 → checked book ≡ Refused fault k → FirstFaulty book fault k
unfolding checked entries_of
named book fault k e q =
    let l = faulty 1 (code 0 0) (entries (drop 1 book)) (rw (eq-eqb (get_or book 0 0) 1 e) at q) in
    record {
      from_1 = l.from;
      there = omega (arith, l.to);
      before_in_order = in_order_law (drop 1 book) (k - 1) l.prior;
      deserved = deserves (drop 1 book) fault k l l.found;
    }

pub fault_named : FaultNamed checked
unfolding checked
fault_named = record { version = λ book n. rw (ne_eqb (get_or book 0 0) 1 n); refusal_1 = refl; entry = named }

-- ---- no other check ----

-- a name that is empty or too long is not right
unnamed_right : {e : List ℕ} → (length_of e ≡ 0) ⊎ (40 < length_of e) → Right e → ⊥
unnamed_right (inl h) r = omega (arith, r.some)
unnamed_right (inr h) r = omega (arith, r.most)

-- no entry deserves two refusals, and none that is right and rises deserves one
one_deserved : (m n : Fault) (before : List (List ℕ)) (e : List ℕ) → Deserves m before e → Deserves n before e → m ≡ n
one_deserved m n before e (inl a) (inl b) = a.0 ∙ sym b.0
one_deserved m n before e (inl a) (inr (inl b)) = absurd (omega (arith, a.1, b.1))
one_deserved m n before e (inl a) (inr (inr b)) = absurd (omega (arith, a.1, b.1.whole))
one_deserved m n before e (inr (inl a)) (inl b) = absurd (omega (arith, b.1, a.1))
one_deserved m n before e (inr (inl a)) (inr (inl b)) = a.0 ∙ sym b.0
one_deserved m n before e (inr (inl a)) (inr (inr b)) = absurd (unnamed_right a.2 b.1)
one_deserved m n before e (inr (inr a)) (inl b) = absurd (omega (arith, b.1, a.1.whole))
one_deserved m n before e (inr (inr a)) (inr (inl b)) = absurd (unnamed_right b.2 a.1)
one_deserved m n before e (inr (inr a)) (inr (inr b)) = a.0 ∙ sym b.0

none_deserved : (n : Fault) (before : List (List ℕ)) (e : List ℕ) → Right e → (1 ≤ length before → Rises (code_at before (length before - 1)) (code_of e))
    → Deserves n before e → ⊥
none_deserved n before e r rise (inl a) = omega (arith, a.1, r.whole)
none_deserved n before e r rise (inr (inl a)) = unnamed_right a.2 r
none_deserved n before e r rise (inr (inr a)) = a.3 (rise a.2)

-- of two entries that are named the earlier would be in order
not_earlier : (book : List ℕ) (m n : Fault) (j k : ℕ) → FirstFaulty book m j → FirstFaulty book n k → j < k → ⊥
not_earlier book m n j k f g h =
    let es = entries_of book in
    let o = g.before_in_order in
    let many : length (take (k - 1) es) ≡ k - 1 = length-take-le (k - 1) es (omega (arith, g.there, g.from_1)) in
    let short : length (take (j - 1) es) ≡ j - 1 = length-take-le (j - 1) es (omega (arith, f.there, f.from_1)) in
    let at_j : get_or (take (k - 1) es) (j - 1) [] ≡ get_or es (j - 1) [] = get_or-take (k - 1) es (j - 1) [] (omega (arith, f.from_1)) in
    none_deserved m (take (j - 1) es) (get_or es (j - 1) []) (rw at_j at (o.right (j - 1) (omega (arith, f.from_1))))
    (λ l.
    let place : length (take (j - 1) es) - 1 ≡ j - 2 = omega arith in
    let last : get_or (take (j - 1) es) (length (take (j - 1) es) - 1) [] ≡ get_or (take (k - 1) es) (j - 2) [] =
    ap (λ (at : ℕ). get_or (take (j - 1) es) at []) place ∙ get_or-take (j - 1) es (j - 2) [] (omega arith) ∙ sym (get_or-take (k - 1) es (j - 2) [] (omega arith)) in
    rw (last, ← at_j) (o.rising (j - 2) (j - 1) (omega arith) (omega arith)))
    f.deserved

one_named : (book : List ℕ) (m n : Fault) (j k : ℕ) → FirstFaulty book m j → FirstFaulty book n k → (m ≡ n) × (j ≡ k)
one_named book m n j k f g = by_tests (ltb j k) refl (ltb k j) refl
  where
    same : j ≡ k → m ≡ n
    same e = one_deserved m n (take (k - 1) (entries_of book)) (get_or (entries_of book) (k - 1) []) (rw e at f.deserved) g.deserved

    by_tests : (t : Bool) → ltb j k ≡ t → (u : Bool) → ltb k j ≡ u → (m ≡ n) × (j ≡ k)
    by_tests true p u q = absurd (not_earlier book m n j k f g (ltb-true _ _ p))
    by_tests false p true q = absurd (not_earlier book n m k j g f (ltb-true _ _ q))
    by_tests false p false q = let e : j ≡ k = omega (arith, ltb-false j k p, ltb-false k j q) in (same e, e)

module _ (check : Check) (s : SoundOnly check) (f : FaultNamed check) (book : List ℕ) where
  by_answers : get_or book 0 0 ≡ 1 → (v w : Checked) → check book ≡ v → checked book ≡ w → v ≡ w
  by_answers e (Ok v) (Ok w) p q = refl
  by_answers e (Ok v) (Err w) p q = sym (sound_only.of_all book (s.said book p)) ∙ q
  by_answers e (Err v) (Ok w) p q = sym p ∙ s.of_all book (sound_only.said book q)
  by_answers e (Err v) (Err w) p q =
      let same = one_named book v.fault w.fault v.entry w.entry (f.entry book v.fault v.entry e p) (fault_named.entry book w.fault w.entry e q) in
      ap (λ (x : Fault). Refused x v.entry) same.0 ∙ ap (λ (k : ℕ). Refused w.fault k) same.1

  by_version : (t : Bool) → eqb (get_or book 0 0) 1 ≡ t → check book ≡ checked book
  by_version true v = by_answers (eqb-true _ _ v) (check book) (checked book) refl refl
  by_version false v = let other = eqb-false (get_or book 0 0) 1 v in f.version book other ∙ sym (fault_named.version book other)

pub only_check : OnlyCheck
only_check check s f book = by_version check s f book (eqb (get_or book 0 0) 1) refl
