-- Records of an image that the rules ask for.
-- Assumes nothing.
use Rattle.std.specs.Prelude.{ℕ, Bool, ◌&&◌, List, eqb}
use Rattle.fields.specs.Parts.{password_of, is_point}

-- a point with this address and this password
unfoldable pub is_opened_by : ℕ → ℕ → List ℕ → Bool
is_opened_by address password r = is_point address r && eqb (password_of r) password
