-- How the programs' inputs are taken apart. Each definition is over the octets read so far: how many the part has as far as these tell, and
-- what the part is when no more come. Document 01, "The printing program", and the description of the driving face.
-- Assumes nothing.
use Rattle.std.specs.Prelude.{ℕ, ◌+◌, ◌*◌, Bool, true, false, not, ◌&&◌, ◌||◌, List, [], ◌∷◌, ltb, eqb, length, take, drop, get_or, replicate}
use Rattle.octets.specs.Choice.{when◌then◌else◌}
use Rattle.octets.specs.Numbers.{high_first}
use Rattle.octets.specs.Over.{over}
use Rattle.image.specs.Image.{sound_image}
use Rattle.profile.specs.declared.Character.{Character}
use Rattle.profile.specs.declared.Profile.{Profile}
use Rattle.profile.specs.declared.Profile.TheVariants.{Ten, Eleven}
use Rattle.input.specs.declared.Head.{Head}
use Rattle.input.specs.declared.Head.TheVariants as head
use Rattle.input.specs.declared.Run.{Run}
use Rattle.input.specs.declared.Run.TheVariants as run
use Rattle.input.specs.declared.Call.{Call}
use Rattle.input.specs.declared.Call.TheVariants as call

-- the big-endian lengths at an index
unfoldable pub length_of2 : List ℕ → ℕ → ℕ
length_of2 read at = high_first (get_or read at 0 ∷ get_or read (at + 1) 0 ∷ [])

unfoldable pub length_of3 : List ℕ → ℕ → ℕ
length_of3 read at = high_first (get_or read at 0 ∷ get_or read (at + 1) 0 ∷ get_or read (at + 2) 0 ∷ [])

-- seven clock octets from an index on, zeros for what is missing
unfoldable pub clock_at : List ℕ → ℕ → List ℕ
clock_at read at = over (replicate 7 0) 0 (take 7 (drop at read))

-- the head: version 1, 2-octet image length, image, 7 clock octets; of another version only the version is asked for
unfoldable pub head_size : List ℕ → ℕ
head_size read =
    when ltb (length read) 1 then 1 else
    when not (eqb (get_or read 0 0) 1) then 1 else
    when ltb (length read) 3 then 3 else
    10 + length_of2 read 1

unfoldable pub image_in : List ℕ → List ℕ
image_in read = take (length_of2 read 1) (drop 3 read)

unfoldable pub clock_in : List ℕ → List ℕ
clock_in read = clock_at read (3 + length_of2 read 1)

-- empty input is cut; then other version, cut before the clock's end, image unsound
unfoldable pub head_found : List ℕ → Head
head_found read =
    when ltb (length read) 1 then head.Cut else
    when not (eqb (get_or read 0 0) 1) then head.Version else
    when ltb (length read) (head_size read) then head.Cut else
    when not (sound_image (image_in read)) then head.Image else
    head.Whole

-- a run: a 2-octet length and octets
unfoldable pub run_size : List ℕ → ℕ
run_size read = when ltb (length read) 2 then 2 else 2 + length_of2 read 0

unfoldable pub run_found : List ℕ → Run
run_found read =
    when ltb (length read) 1 then run.End else
    when ltb (length read) (run_size read) then run.Cut else
    run.Whole

-- an O and a W have a 2-octet length and octets
abbrev pub takes_octets : ℕ → Bool
takes_octets letter = eqb letter 79 || eqb letter 87

-- a P is a call of an eleven-bit card alone
abbrev pub is_eleven : Profile → Bool
is_eleven Ten = false
is_eleven Eleven = true

abbrev pub takes_characters : Profile → ℕ → Bool
takes_characters p letter = eqb letter 80 && is_eleven p

-- what follows it: pairs of an octet and its parity bit, 00 or 01
unfoldable pub are_bits : List ℕ → Bool
are_bits [] = true
are_bits (octet ∷ []) = true
are_bits (octet ∷ bit ∷ rest) = ltb bit 2 && are_bits rest

unfoldable pub characters_in : List ℕ → List Character
characters_in [] = []
characters_in (octet ∷ []) = []
characters_in (octet ∷ bit ∷ rest) = record { octet = octet; parity = eqb bit 1 } ∷ characters_in rest

-- a call: a letter, and what follows it: I, C, B, O, E, G, W or, of an eleven-bit card, P
unfoldable pub call_size : Profile → List ℕ → ℕ
call_size p read =
    when eqb (get_or read 0 0) 73 then (when ltb (length read) 4 then 4 else when ltb 65600 (length_of3 read 1) then 4 else 4 + length_of3 read 1) else
    when eqb (get_or read 0 0) 67 then 8 else
    when eqb (get_or read 0 0) 66 then 3 else
    when takes_octets (get_or read 0 0) then (when ltb (length read) 3 then 3 else 3 + length_of2 read 1) else
    when takes_characters p (get_or read 0 0) then (when ltb (length read) 3 then 3 else 3 + 2 * length_of2 read 1) else
    1

-- what a whole call is: an unknown letter, an I over 65,600, a B over 300 and a P with another parity bit are none
unfoldable pub whole_call : Profile → List ℕ → Call
whole_call p read =
    when eqb (get_or read 0 0) 73 then (when ltb 65600 (length_of3 read 1) then call.Wrong else call.Image) else
    when eqb (get_or read 0 0) 67 then call.Clock else
    when eqb (get_or read 0 0) 66 then (when ltb 300 (length_of2 read 1) then call.Wrong else call.Room) else
    when eqb (get_or read 0 0) 79 then call.Octets else
    when eqb (get_or read 0 0) 69 then call.ElevenBits else
    when takes_characters p (get_or read 0 0) then (when are_bits (drop 3 read) then call.Characters else call.Wrong) else
    when eqb (get_or read 0 0) 71 then call.Gap else
    when eqb (get_or read 0 0) 87 then call.Why else
    call.Wrong

unfoldable pub call_found : Profile → List ℕ → Call
call_found p read =
    when ltb (length read) 1 then call.End else
    when ltb (length read) (call_size p read) then call.Cut else
    whole_call p read
