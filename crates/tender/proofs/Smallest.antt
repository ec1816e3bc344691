-- Document 01's smallest image is sound, and with a clock of zeros and a buffer of 261 zeros it makes a fit loan.
-- By computation. Assumes nothing.
use Prim.Native.Nat.{ℕ}
use mathlib.Core.Bool.{true}
use mathlib.Core.Path.{◌≡◌, refl}
use native.Mathlib.Omega.{arith}
use lib.ListN.{length-replicate}
use Rattle.image.specs.Image.{sound_image}
use Rattle.tender.specs.Condition3.{Fit}
use Rattle.tender.specs.Cases.{smallest, lent}
use Rattle.tender.proofs.Worked.{everything}

pub image_sound : sound_image smallest ≡ true
unfolding everything
image_sound = refl

pub fit : Fit smallest lent.clock lent
fit = record { sound_image_law = image_sound; one_image = refl; one_clock = refl; full_size = omega (arith, length-replicate {A = ℕ} 261 0) }
