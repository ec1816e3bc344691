-- The family of FT 1.2 frames: what its members choose for themselves.
-- Assumes nothing.
use Rattle.std.specs.Prelude.{ℕ}

pub record Family : Type 0 where
  pub width : ℕ  -- how many octets the address has
  pub least : ℕ  -- the least L

-- the card's: A has two octets, L is 3 to 255
abbrev pub sapr : Family
sapr = record { width = 2; least = 3 }
