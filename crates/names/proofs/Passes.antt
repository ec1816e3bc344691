-- What a pass over a book tells: that the book is refused, or that it is sound and where the code's entry is; and what a look-up makes of two books.
-- By the cases of the checks. Assumes nothing.
use Prim.Native.Nat.{ℕ}
use mathlib.Core.List.{List}
use mathlib.Core.Path.{◌≡◌, refl}
use Rattle.std.specs.Prelude.{Option, Some, None, Ok, Err}
use Rattle.std.specs.Option.{option_or}
use Rattle.names.specs.declared.Code.{Code}
use Rattle.names.specs.declared.BookFault.{BookFault}
use Rattle.names.specs.declared.Place.{Place}
use Rattle.names.specs.declared.Which.{Which}
use Rattle.names.specs.declared.Which.TheVariants as which
use Rattle.names.specs.declared.Found.{Found}
use Rattle.names.specs.declared.Refusal.{Refusal}
use Rattle.names.specs.Book.{Checked, checked}
use Rattle.names.specs.LookUp.{LookedUp, found, find, found_in, unless_refused, from_either, looked_up}
use Rattle.names.specs.working.Pass.{Passed, read, passed}

abbrev as_checked : Passed → Checked
as_checked (Ok place) = Ok tt
as_checked (Err why) = Err why

abbrev as_found : Which → Passed → LookedUp
as_found book (Ok place) = Ok (found book place)
as_found book (Err why) = Err (record { book = book; why = why })

module _ (wanted : Code) (book : List ℕ) where
  checked_by : checked book ≡ as_checked (passed wanted book)
  unfolding passed read
  checked_by = by_check (checked book)
    where
      by_check : (v : Checked) → v ≡ as_checked (read v (find wanted book))
      by_check (Ok sound) = refl
      by_check (Err why) = refl

  pub is_sound : {place : Option Place} → passed wanted book ≡ Ok place → Ok tt ≡ checked book
  is_sound e = rw (checked_by, e) refl

  pub is_refused : {why : BookFault} → passed wanted book ≡ Err why → Err why ≡ checked book
  is_refused e = rw (checked_by, e) refl

  module _ (which : Which) where
    found_by : found_in which wanted book ≡ as_found which (passed wanted book)
    unfolding found_in passed read unless_refused
    found_by = by_check (checked book)
      where
        by_check : (v : Checked) → unless_refused which v (Ok (found which (find wanted book))) ≡ as_found which (read v (find wanted book))
        by_check (Ok sound) = refl
        by_check (Err why) = refl

    pub finds : {place : Option Place} → passed wanted book ≡ Ok place → Ok (found which place) ≡ found_in which wanted book
    finds e = rw (found_by, e) refl

    pub refuses : {why : BookFault} → passed wanted book ≡ Err why → Err (record { book = which; why = why }) ≡ found_in which wanted book
    refuses e = rw (found_by, e) refl

-- two books
abbrev both : LookedUp → LookedUp → LookedUp
both (Ok first) (Ok second) = Ok (option_or first second)
both (Ok first) (Err r) = Err r
both (Err r) second = Err r

module _ (wanted : Code) (chosen italian : List ℕ) where
  looked_by : looked_up wanted chosen italian ≡ both (found_in which.Chosen wanted chosen) (found_in which.Italian wanted italian)
  unfolding looked_up found_in unless_refused from_either
  looked_by = by_checks (checked chosen) (checked italian) (find wanted chosen) (find wanted italian)
    where
      by_checks : (v w : Checked) (p q : Option Place) → unless_refused which.Chosen v (unless_refused which.Italian w (from_either p q))
          ≡ both (unless_refused which.Chosen v (Ok (found which.Chosen p))) (unless_refused which.Italian w (Ok (found which.Italian q)))
      by_checks (Err why) w p q = refl
      by_checks (Ok sound) (Err why) p q = refl
      by_checks (Ok sound) (Ok sound') None q = refl
      by_checks (Ok sound) (Ok sound') (Some p) q = refl

  pub chosen_refused : {r : Refusal} → found_in which.Chosen wanted chosen ≡ Err r → Err r ≡ looked_up wanted chosen italian
  chosen_refused e = rw (looked_by, e) refl

  pub italian_refused : {first : Option Found} {r : Refusal} → found_in which.Chosen wanted chosen ≡ Ok first → found_in which.Italian wanted italian ≡ Err r
      → Err r ≡ looked_up wanted chosen italian
  italian_refused e f = rw (looked_by, e, f) refl

  pub either_found : {first second : Option Found} → found_in which.Chosen wanted chosen ≡ Ok first → found_in which.Italian wanted italian ≡ Ok second
      → Ok (option_or first second) ≡ looked_up wanted chosen italian
  either_found e f = rw (looked_by, e, f) refl
