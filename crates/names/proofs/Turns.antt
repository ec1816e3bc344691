-- The entries that are checked, one turn further; and the pass over them, which comes to the pass over the book.
-- By the entries' two steps, and by recursion on the entries. Assumes nothing.
use Prim.Native.Nat.{ℕ, ◌+◌, ◌≤◌, ◌<◌}
use mathlib.Core.Bool.{Bool, true, false}
use mathlib.Core.List.{List, [], ◌∷◌}
use mathlib.Core.Path.{◌≡◌, refl, sym, ap, ◌∙◌}
use native.Mathlib.Omega.{arith}
use borrow.Author.Tests.{eq-eqb, ne_eqb}
use lib.ListN.{length, get_or}
use Rattle.octets.specs.Choice.{when◌then◌else◌}
use Rattle.names.specs.declared.Code.{Code}
use Rattle.names.specs.declared.BookFault.{BookFault}
use Rattle.names.specs.declared.Entry.{Entry}
use Rattle.names.specs.declared.Place.{Place}
use Rattle.names.specs.declared.Fault.{Fault}
use Rattle.names.specs.declared.Fault.TheVariants.{Version}
use Rattle.std.specs.Prelude.{Option, Some, None, Result, Ok, Err}
use Rattle.names.specs.Codes.{code, same_code}
use Rattle.names.specs.Book.{code_of, length_of, size_of, entries_of, fault_of, Checked, unless_faulty, first_fault, checked}
use Rattle.names.specs.LookUp.{place, find_in, find}
use Rattle.names.specs.working.Pass.{entry_at, entries_from, kept, Passed, read, Judged, unless_at_fault, entry_checked, judged_as, judged, pass_on, passed}
use Rattle.names.proofs.Standing.{entries_end, entries_more, length_of_law, fault_none}

-- what is there is no fault
ok_err : {entry : Entry} {fault : Fault} → ◌≡◌ {A = Result Entry Fault} (Ok entry) (Err fault) → ⊥
ok_err e = cc

-- nothing comes later: what was found counts
pub kept_nothing : (found : Option Place) → kept found None ≡ found
unfolding kept
kept_nothing None = refl
kept_nothing (Some p) = refl

-- found before, or here, or later
pub kept_on : (found : Option Place) (new : Place) (later : Option Place) (here : Bool)
    → kept (kept found (when here then Some new else None)) later ≡ kept found (when here then Some new else later)
unfolding kept
kept_on (Some p) new later here = refl
kept_on None new later true = refl
kept_on None new later false = refl

abbrev refused : Fault → ℕ → Passed
refused fault entry = Err (record { fault = fault; entry = entry })

-- an entry that is checked: what it is, and that nothing is wrong with it
record IsChecked (number at : ℕ) (before : Code) (e : List ℕ) (entry : Entry) : Type 0 where
  is : entry ≡ record { code = code_of e; place = place number (at + 3) (length_of e) }
  sound : fault_of number before e ≡ None

is_checked : {number at : ℕ} {before : Code} {e : List ℕ} {entry : Entry} → Ok entry ≡ entry_checked number at before e → IsChecked number at before e entry
unfolding entry_checked
is_checked {number} {at} {before} {e} {entry} = by_fault (fault_of number before e) refl
  where
    by_fault : (f : Option Fault) → fault_of number before e ≡ f
        → Ok entry ≡ unless_at_fault f (record { code = code_of e; place = place number (at + 3) (length_of e) }) → IsChecked number at before e entry
    by_fault None s h = record { is = cc; sound = s }
    by_fault (Some fault) s h = absurd (ok_err h)

-- the entries from a place on: none at the end, a fault that is the last, or one and those behind it
module _ (s : List ℕ) (at number : ℕ) (before : Code) where
  pub judged_end : length s ≤ at → judged number at before (entries_from s at) ≡ []
  unfolding judged
  judged_end h = rw (entries_end s at h)

  pub judged_fault : {fault : Fault} → at < length s → Err fault ≡ entry_checked number at before (entry_at s at)
      → judged number at before (entries_from s at) ≡ Err (record { fault = fault; entry = number }) ∷ []
  unfolding judged
  judged_fault h e = rw (entries_more s at h, ← e)

  pub judged_more : {entry : Entry} → at < length s → Ok entry ≡ entry_checked number at before (entry_at s at)
      → judged number at before (entries_from s at)
      ≡ Ok entry ∷ judged (number + 1) (entry.place.at + entry.place.many) entry.code (entries_from s (entry.place.at + entry.place.many))
  unfolding judged
  judged_more {entry} h e =
      let own = (is_checked e).is in
      let next : entry.place.at + entry.place.many ≡ at + size_of (entry_at s at) = rw own (omega arith) in
      let code_so : entry.code ≡ code_of (entry_at s at) = ap (λ (x : Entry). x.code) own in
      rw (entries_more s at h, ← e, next, code_so)

  -- an entry that is checked has its room
  pub entry_room : {entry : Entry} → at < length s → Ok entry ≡ entry_checked number at before (entry_at s at)
      → (entry.place.at ≡ at + 3) × (entry.place.at + entry.place.many ≤ length s)
  entry_room {entry} h e =
      let w = is_checked e in
      let own = w.is in
      let room = fault_none s at number before (omega arith) w.sound in
      rw own (refl, omega (arith, room, length_of_law s at))

module _ (wanted : Code) where
  pub pass_judged : (number at : ℕ) (before : Code) (found : Option Place) (es : List (List ℕ))
      → pass_on wanted found (judged number at before es) ≡ read (first_fault number before es) (kept found (find_in wanted number at es))
  unfolding entry_checked judged pass_on first_fault find_in read
  pass_judged number at before found [] = ap Ok (sym (kept_nothing found))
  pass_judged number at before found (e ∷ es) =
      by_fault (fault_of number before e) (λ more. pass_judged (number + 1) (at + size_of e) (code_of e) more es)
    where
      own : Place
      own = place number (at + 3) (length_of e)

      later : Option Place
      later = find_in wanted (number + 1) (at + size_of e) es

      others : List Judged
      others = judged (number + 1) (at + size_of e) (code_of e) es

      rest : Checked
      rest = first_fault (number + 1) (code_of e) es

      by_fault : (f : Option Fault) → ((more : Option Place) → pass_on wanted more others ≡ read rest (kept more later))
          → pass_on wanted found (judged_as (unless_at_fault f (record { code = code_of e; place = own })) number others)
          ≡ read (unless_faulty f number rest) (kept found (when same_code (code_of e) wanted then Some own else later))
      by_fault (Some fault) over_rest = refl
      by_fault None over_rest = over_rest _ ∙ ap (read rest) (kept_on found own later (same_code (code_of e) wanted))

  -- turn by turn, by what is left
  module _ (found : Option Place) {left : List Judged} where
    pub pass_end : left ≡ [] → Ok found ≡ pass_on wanted found left
    unfolding pass_on
    pass_end e = rw e

    module _ {later : List Judged} {next : Judged} (e : left ≡ next ∷ later) where
      pub pass_fault : {why : BookFault} → next ≡ Err why → Err why ≡ pass_on wanted found left
      unfolding pass_on
      pass_fault f = rw (e, f)

      pub pass_entry : {entry : Entry} → next ≡ Ok entry
          → pass_on wanted (kept found (when same_code entry.code wanted then Some entry.place else None)) later ≡ pass_on wanted found left
      unfolding pass_on
      pass_entry f = rw (e, f)

  -- over a book
  module _ (s : List ℕ) where
    pub pass_no_version : (get_or s 0 0 ≡ 1 → ⊥) → passed wanted s ≡ refused Version 0
    unfolding passed checked read
    pass_no_version n = rw (ne_eqb (get_or s 0 0) 1 n)

    pub pass_start : get_or s 0 0 ≡ 1 → pass_on wanted None (judged 1 1 (code 0 0) (entries_from s 1)) ≡ passed wanted s
    unfolding passed checked entries_of entries_from find kept
    pass_start e = pass_judged 1 1 (code 0 0) None (entries_from s 1) ∙ rw (eq-eqb (get_or s 0 0) 1 e) refl
