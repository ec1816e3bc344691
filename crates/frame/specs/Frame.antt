-- Frames. Document 01, "Frames" (SD1 4.3.2; IEC 870-5-1 FT 1.2): which run is a sound frame and what it says, and how a frame is written.
-- Assumes nothing.
use Rattle.std.specs.Prelude.{ℕ, ◌+◌, ◌-◌, Bool, not, ◌||◌, List, [], ◌∷◌, ◌++◌, length, take, drop, ◌==◌, nat_eq, nat_le, nat_lt, slice_index}
use Rattle.octets.specs.Choice.{when◌then◌else◌}
use Rattle.octets.specs.Conditions.{holds}
use Rattle.octets.specs.Numbers.{low_first, low_octets}
use Rattle.octets.specs.Sum.{checksum}
use Rattle.octets.specs.First.{◌⇒◌▸◌, first_of◌else◌}
use Rattle.frame.specs.declared.Fault.{Fault}
use Rattle.frame.specs.declared.Fault.TheVariants.{Empty, Long, Parity, Malformed, Spoiled}
use Rattle.frame.specs.Family.{Family}

-- what a frame says: control octet, address and, in the variable form, user octets
pub data Frame : Type 0 where
  fixed : ℕ → ℕ → Frame
  variable : ℕ → ℕ → List ℕ → Frame

-- why a run is no sound frame: 1 empty, 2 over 261 octets, 10 a parity bit wrong, 3 not the form of a frame, 4 checksum wrong
abbrev pub fault_number : Fault → ℕ
fault_number Empty = 1
fault_number Long = 2
fault_number Parity = 10
fault_number Malformed = 3
fault_number Spoiled = 4

-- what a run is: no sound frame, and why, or a sound one
pub data Verdict : Type 0 where
  refused : Fault → Verdict
  sound : Frame → Verdict

-- C, A and user data: what stands behind so many start octets and before S and 16
abbrev pub covered : ℕ → List ℕ → List ℕ
covered start run = take (length run - (start + 2)) (drop start run)

-- S is the sum of C, A and user data modulo 256
unfoldable pub sum_right : ℕ → List ℕ → Bool
sum_right start run = checksum (covered start run) == slice_index run (length run - 2)

module _ (k : Family) where
  -- fixed: 10 C A A S 16, exactly 6 octets
  unfoldable pub fixed_form : List ℕ → Bool
  fixed_form run = holds ((length run == k.width + 4) ∷ (slice_index run 0 == 0x10) ∷ (slice_index run (length run - 1) == 0x16) ∷ [])

  -- variable: 68 L L 68 C A A, user data, S 16, exactly L + 6 octets, L 3 to 255; over 261 octets is refused before
  unfoldable pub variable_form : List ℕ → Bool
  variable_form run =
      holds
      ((length run == slice_index run 1 + 6)
      ∷ nat_le k.least (slice_index run 1)
      ∷ (slice_index run 0 == 0x68)
      ∷ (slice_index run 2 == slice_index run 1)
      ∷ (slice_index run 3 == 0x68)
      ∷ (slice_index run (length run - 1) == 0x16)
      ∷ [])

  -- how many octets stand before C
  unfoldable pub start_of : List ℕ → ℕ
  start_of run = when fixed_form run then 1 else 4

  -- A is low octet first
  unfoldable pub said_fixed : List ℕ → Frame
  said_fixed body = fixed (slice_index body 0) (low_first (take k.width (drop 1 body)))

  unfoldable pub said_variable : List ℕ → Frame
  said_variable body = variable (slice_index body 0) (low_first (take k.width (drop 1 body))) (drop k.width (drop 1 body))

  unfoldable pub said : List ℕ → Frame
  said run = when fixed_form run then said_fixed (covered 1 run) else said_variable (covered 4 run)

  -- what the octets decide: 1 empty, 2 over 261 octets, 3 not the form of a frame, 4 checksum wrong
  unfoldable pub judge : List ℕ → Verdict
  judge run =
      first_of
      nat_eq (length run) 0 ⇒ refused Empty ▸
      nat_lt 261 (length run) ⇒ refused Long ▸
      not (fixed_form run || variable_form run) ⇒ refused Malformed ▸
      not (sum_right (start_of run) run) ⇒ refused Spoiled ▸ []
      else sound (said run)

  -- the other way: a frame's octets
  unfoldable pub body_of : Frame → List ℕ
  body_of (fixed c a) = c ∷ low_octets k.width a
  body_of (variable c a user) = c ∷ (low_octets k.width a ++ user)

  unfoldable pub start_with : Frame → List ℕ
  start_with (fixed c a) = 0x10 ∷ []
  start_with (variable c a user) =
      let l = length (body_of (variable c a user)) in
      0x68 ∷ l ∷ l ∷ 0x68 ∷ []

  unfoldable pub written : Frame → List ℕ
  written f = start_with f ++ (body_of f ++ (checksum (body_of f) ∷ 0x16 ∷ []))
