-- What has been read of an input and not taken yet: a window of a space.
-- Assumes nothing.
use Rattle.std.specs.Prelude.{ℕ, ◌+◌, ◌-◌, ◌≤◌, min, Bool, true, ◌&&◌, List, ◌≡◌, leb, length, take, drop}
use Rattle.stream.specs.declared.Window.{Window}

abbrev pub count_of : Window → ℕ
count_of w = w.to - w.from

-- the octets in a window
abbrev pub seen_in : List ℕ → Window → List ℕ
seen_in space w = take (count_of w) (drop w.from space)

-- so many are taken
abbrev pub taken_of : Window → ℕ → Window
taken_of w many = record { from = w.from + min many (count_of w); to = w.to }

-- whether so many stand in a window of the space
abbrev pub has_in : List ℕ → Window → ℕ → Bool
has_in space w size = leb w.to (length space) && leb (w.from + size) w.to

-- `Kept many space left`: a space keeps its length and its first so many octets
pub record Kept (many : ℕ) (space left : List ℕ) : Type 0 where
  pub same_length : length left ≡ length space
  pub first : take many left ≡ take many space

-- `Filled space w size r left`: whatever is read behind the octets in window `w` of the space, they stand first in window `r`, which lies in
-- the space; and where `size` octets stand there already, the window is the same and the space is unchanged. Where too few stand, it is not
-- said that any are read: the input may have ended
pub record Filled (space : List ℕ) (w : Window) (size : ℕ) (r : Window) (left : List ℕ) : Type 0 where
  pub same_length : length left ≡ length space
  pub in_order : r.from ≤ r.to
  pub in_space : r.to ≤ length left
  pub first : take (length (seen_in space w)) (seen_in left r) ≡ seen_in space w
  pub same_window : has_in space w size ≡ true → r ≡ w
  pub unchanged : has_in space w size ≡ true → left ≡ space

-- `FilledAs says space w r left`: it is filled to a size that is said of the octets in window `w`
abbrev pub FilledAs : (List ℕ → ℕ → Type 0) → List ℕ → Window → Window → List ℕ → Type 0
FilledAs says space w r left = (size : ℕ) × says (seen_in space w) size × Filled space w size r left
