-- The octets that lie where a look-up says are the name of the entry that is shown.
-- By the cases of the two checks, and by the places of the names. Assumes nothing.
use Prim.Native.Nat.{ℕ}
use mathlib.Core.List.{List}
use mathlib.Core.Path.{◌≡◌, refl}
use Rattle.std.specs.Prelude.{Option, Some, None, Ok, Err}
use Rattle.names.specs.declared.Code.{Code}
use Rattle.names.specs.declared.BookFault.{BookFault}
use Rattle.names.specs.declared.Place.{Place}
use Rattle.names.specs.declared.Which.{Which}
use Rattle.names.specs.declared.Which.TheVariants as which
use Rattle.names.specs.Book.{Checked, Sound, checked}
use Rattle.names.specs.LookUp.{LookedUp, found, find, unless_refused, from_either, looked_up, shown_of, name_of_shown, name_shown, cut_from, cut_out}
use Rattle.names.proofs.Places.{found_numbered, name_found}

-- what holds of a look-up that is refused, of a name from either book and of none holds of each look-up
module _ (P : LookedUp → Type 0) (refused : (book : Which) (why : BookFault) → P (Err (record { book = book; why = why }))) where
  by_checks : (v w : Checked) {l : LookedUp} → (v ≡ Sound → w ≡ Sound → P l) → P (unless_refused which.Chosen v (unless_refused which.Italian w l))
  unfolding unless_refused
  by_checks (Err why) w other = refused which.Chosen why
  by_checks (Ok v) (Err why) other = refused which.Italian why
  by_checks (Ok v) (Ok w) other = other refl refl

  module _ (wanted : Code) (chosen italian : List ℕ) (none_so : P (Ok None))
      (chosen_so : checked chosen ≡ Sound → (p : Place) → find wanted chosen ≡ Some p → P (Ok (found which.Chosen (Some p))))
      (italian-so : checked italian ≡ Sound → (p : Place) → find wanted italian ≡ Some p → P (Ok (found which.Italian (Some p)))) where
    by_found : checked chosen ≡ Sound → checked italian ≡ Sound → (p q : Option Place) → find wanted chosen ≡ p → find wanted italian ≡ q → P (from_either p q)
    unfolding from_either
    by_found c i (Some p) q e f = chosen_so c p e
    by_found c i None (Some q) e f = italian-so i q f
    by_found c i None None e f = none_so

    pub by_shown : P (looked_up wanted chosen italian)
    unfolding looked_up
    by_shown = by_checks (checked chosen) (checked italian) (λ c i. by_found c i (find wanted chosen) (find wanted italian) refl refl)

pub cut_is_name : (wanted : Code) (chosen italian : List ℕ) → cut_out (looked_up wanted chosen italian) chosen italian ≡ name_shown wanted chosen italian
unfolding cut_out cut_from name_shown name_of_shown
cut_is_name wanted chosen italian =
    by_shown (λ (l : LookedUp). cut_out l chosen italian ≡ name_of_shown (shown_of l) chosen italian) (λ book why. refl) wanted chosen italian refl
    (λ c p e. rw e at (name_found wanted chosen (found_numbered wanted _ e)))
    (λ i p e. rw e at (name_found wanted italian (found_numbered wanted _ e)))
