-- Texts that wait to be written, in the first octets of a block.
-- Assumes nothing.
use Rattle.std.specs.Prelude.{ℕ, ◌+◌, Bool, true, false, List, ◌≡◌, length}
use Rattle.octets.specs.Choice.{when◌then◌else◌}
use Rattle.octets.specs.Over.{over}
use Rattle.octets.specs.Calls.{fits_at, put_into}
use Rattle.stream.specs.declared.Texts.{Texts}

-- `Out texts r`: what waits is written. Whether it could be is the world's answer; but what has stopped does not go on
pub record Out (texts r : Texts) : Type 0 where
  pub none_waits : r.count ≡ 0
  pub stays_stopped : texts.going ≡ false → r.going ≡ false

-- what is left of the block when a text is put behind those that wait, or first
abbrev pub added_to : List ℕ → ℕ → List ℕ → List ℕ
added_to block count text = when fits_at block count text then over block count text else put_into block 0 text

-- `AddedFirst block texts text r left`: the others are written, and the text is the first that waits; one longer than the block is refused, and
-- nothing more goes out
pub record AddedFirst (block : List ℕ) (texts : Texts) (text : List ℕ) (r : Texts) (left : List ℕ) : Type 0 where
  pub count : r.count ≡ (when fits_at block 0 text then length text else 0)
  pub left_so : left ≡ put_into block 0 text
  pub refused : fits_at block 0 text ≡ false → r.going ≡ false
  pub stays_stopped : texts.going ≡ false → r.going ≡ false

-- `Added block texts text r left`: a text that fits stands behind those that wait; else it is the first
pub record Added (block : List ℕ) (texts : Texts) (text : List ℕ) (r : Texts) (left : List ℕ) : Type 0 where
  pub left_so : left ≡ added_to block texts.count text
  pub count_behind : fits_at block texts.count text ≡ true → r ≡ record { count = texts.count + length text; going = texts.going }
  pub else_first : fits_at block texts.count text ≡ false → AddedFirst block texts text r left

-- `Told block texts text more r left`: one more waits; or it was the last, and all is written
pub record Told (block : List ℕ) (texts : Texts) (text : List ℕ) (more : Bool) (r : Texts) (left : List ℕ) : Type 0 where
  pub left_so : left ≡ added_to block texts.count text
  pub goes_on : more ≡ true → Added block texts text r left
  pub ends : more ≡ false → r ≡ record { count = 0; going = false }
