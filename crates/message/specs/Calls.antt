-- What this crate's own call `are_offered` answers, as numbers. The card's definition does without it.
-- Assumes nothing.
use Rattle.std.specs.Prelude.{◌≤◌}
use Rattle.message.specs.declared.ObjectRange.{ObjectRange}

-- "any first and last with 1 ≤ first ≤ last ≤ 6"
pub record Offered (objects : ObjectRange) : Type 0 where
  pub from_one : 1 ≤ objects.first
  pub rising : objects.first ≤ objects.last
  pub to_six : objects.last ≤ 6
