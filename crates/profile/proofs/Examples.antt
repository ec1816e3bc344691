-- A reset in the eleven-bit profile with bits altered: one is 10, two in one character are 4; four can make another sound frame, so three is the most that can be
-- said. By computation. Assumes nothing.
use mathlib.Core.List.{List, [], ◌∷◌}
use mathlib.Core.Path.{◌≡◌, refl}
use Rattle.octets.specs.Conditions.{holds}
use Rattle.octets.specs.Numbers.{low_first}
use Rattle.octets.specs.Sum.{octet_sum, checksum}
use Rattle.frame.specs.declared.Fault.TheVariants.{Parity, Spoiled}
use Rattle.frame.specs.Family.{sapr}
use Rattle.frame.specs.Frame.{Verdict, fixed, refused, sound, sum_right, fixed_form, variable_form, start_of, said_fixed, said, judge}
use Rattle.profile.specs.declared.Character.{Character}
use Rattle.profile.specs.declared.Profile.TheVariants.{Eleven}
use Rattle.profile.specs.Character.{low_bits, bits_of, even_parity, rightly}
use Rattle.profile.specs.Profile.{run_sent, judge_marked, judge_in}
use Rattle.profile.specs.Altered.{Place, with_bit, with_bit_of, altered_at, altered}

abbrev reset : List Character
reset = run_sent Eleven (0x10 ∷ 0x40 ∷ 0x01 ∷ 0x00 ∷ 0x41 ∷ 0x16 ∷ [])

-- with these bits altered
abbrev judged : List Place → Verdict
judged places = judge_in Eleven sapr (altered places reset)

-- the lowest bit of the control octet; its parity bit
abbrev lowest : Place
lowest = record { character = 1; bit = 0 }

abbrev its_parity : Place
its_parity = record { character = 1; bit = 8 }

-- two bits of the control octet, 43 for 40, and two of the checksum, 44 for 41
abbrev four : List Place
four = record { character = 1; bit = 0 } ∷ record { character = 1; bit = 1 } ∷ record { character = 4; bit = 0 } ∷ record { character = 4; bit = 2 } ∷ []

-- none, one of either kind, two, four
table : (judged [] ∷ judged (lowest ∷ []) ∷ judged (its_parity ∷ []) ∷ judged (lowest ∷ its_parity ∷ []) ∷ judged four ∷ [])
    ≡ (sound (fixed 0x40 1) ∷ refused Parity ∷ refused Parity ∷ refused Spoiled ∷ sound (fixed 0x43 1) ∷ [])
unfolding judge_marked judge altered altered_at with_bit with_bit_of even_parity rightly bits_of low_bits octet_sum checksum holds low_first sum_right fixed_form variable_form start_of said_fixed said
table = refl
