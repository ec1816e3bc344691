-- A reply is found exactly where one waits, whatever the request, the clock and the image.
-- By what waits. Assumes nothing.
use Rattle.std.specs.Prelude.{Option, Some, None}
use Prim.Native.Nat.{ℕ}
use mathlib.Core.Bool.{true}
use mathlib.Core.List.{List}
use mathlib.Core.Path.{◌≡◌, refl}
use lib.Dec.{eqb}
use Rattle.octets.proofs.Choice.{either}
use Rattle.fields.specs.Answers.{identity_found, dates_found}
use Rattle.octets.specs.declared.Kept.{Kept}
use Rattle.deeds.specs.declared.Waiting.{Waiting}
use Rattle.deeds.specs.declared.Waiting.TheVariants as waiting
use Rattle.deeds.specs.Deeds.{is_waiting}
use Rattle.waiting.specs.declared.Next.{Next}
use Rattle.waiting.specs.NextReply.{firstly, lastly, nothing_found, mirror_with, begin_with, identity_from, dates_from, clock_from, data_from, after_data, next_by, is_given}
use Rattle.fields.specs.declared.Identity.{Identity}
use Rattle.fields.specs.declared.Dates.{Dates}

module _ (request : Kept) (clock image : List ℕ) where
  -- 71 and 131, whatever the image has of them
  identity_found_law : (h : Option Identity) → (is_given (identity_from request h)) ≡ true
  unfolding mirror_with lastly firstly
  identity_found_law (Some h) = refl
  identity_found_law None = refl

  dates_found_law : (d : Option Dates) → (is_given (dates_from request d)) ≡ true
  unfolding mirror_with lastly firstly
  dates_found_law (Some d) = refl
  dates_found_law None = refl

  pub found_waiting : (w : Waiting) → (is_given (next_by request w clock image)) ≡ is_waiting w
  unfolding nothing_found mirror_with lastly firstly begin_with clock_from after_data
  found_waiting waiting.NoReply = refl
  found_waiting (waiting.Mirror cause) = refl
  found_waiting waiting.Denied = refl
  found_waiting waiting.Begin = refl
  found_waiting (waiting.More n) = either (λ (x : Next). is_given x ≡ true) (eqb (data_from request image n).many 0) (λ t. refl) (λ t. refl)
  found_waiting waiting.Type71 = identity_found_law (identity_found image)
  found_waiting waiting.Type72 = refl
  found_waiting waiting.Type131 = dates_found_law (dates_found image)
