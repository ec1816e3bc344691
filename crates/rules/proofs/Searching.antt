-- Whether anything is chosen, told by the first place that is found, or by none.
-- There are as many places as chosen records. Assumes nothing.
use Rattle.std.specs.Prelude.{Option, Some, None, is_some, not}
use Prim.Native.Nat.{ℕ, ◌<◌, ◌≤◌}
use mathlib.Core.Bool.{Bool, true, false, false≢true}
use mathlib.Core.List.{List}
use mathlib.Core.Path.{◌≡◌, sym}
use native.Mathlib.Omega.{arith}
use borrow.Author.Tests.{eq-eqb, ne_eqb}
use lib.ListN.{length}
use Rattle.records.specs.Records.{records_from}
use Rattle.records.specs.Said.{how_many, places_of}
use Rattle.records.proofs.Places.{as_many_places}
use Rattle.fields.specs.Answers.{records_of}
use Rattle.choice.specs.declared.Query.{Query}
use Rattle.choice.specs.Choice.{chosen, choice}
use Rattle.choice.specs.Calls.{places_from, nth_place}
use Rattle.choice.proofs.Laws.{found_there, nothing_nth}
use Rattle.rules.specs.Decide.{none_in}

module _ (query : Query) (image : List ℕ) where
  some_chosen : (at : ℕ) → nth_place 0 (places_from query image 1) ≡ Some at → none_in query image ≡ false
  unfolding none_in choice records_of how_many
  some_chosen at e =
      let h : 0 < length (choice query image) = (found_there query image 1 0 at e).counted in
      ne_eqb (length (choice query image)) 0 (λ z. omega (arith, h, z))

  none_chosen : nth_place 0 (places_from query image 1) ≡ None → none_in query image ≡ true
  unfolding none_in choice records_of how_many places_from
  none_chosen e =
      let h : length (places_of (chosen query) 1 (records_from image 1)) ≤ 0 = nothing_nth 0 _ e in
      let z : length (choice query image) ≡ 0 = omega (arith, h, as_many_places (chosen query) 1 (records_from image 1)) in
      eq-eqb (length (choice query image)) 0 z

  -- nothing is chosen exactly where nothing is found
  pub found_none : {none : Bool} (found : Option ℕ) → is_some found ≡ not none → found ≡ nth_place 0 (places_from query image 1) → none ≡ none_in query image
  found_none {none = true} None n e = sym (none_chosen (sym e))
  found_none {none = false} None n e = absurd (false≢true n)
  found_none {none = true} (Some at) n e = absurd (false≢true (sym n))
  found_none {none = false} (Some at) n e = sym (some_chosen at (sym e))
