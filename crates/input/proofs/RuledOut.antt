-- What the public contracts of this crate do not allow: two wrong outcomes or more of each.
-- By computation, whatever the octets that do not matter. Assumes nothing.
use Prim.Native.Nat.{ℕ, ◌+◌, ◌*◌}
use mathlib.Core.Bool.{Bool, true, false, not}
use mathlib.Core.List.{List, [], ◌∷◌}
use mathlib.Core.Path.{◌≡◌, refl}
use native.Mathlib.Omega.{arith}
use contract.Lifetimes.{Lfts}
use lib.Dec.{ltb, eqb}
use lib.ListN.{length, get_or}
use borrow.Author.Tests.{le-ltb, ne_eqb}
use Rattle.octets.specs.Choice.{when◌then◌else◌}
use Rattle.octets.specs.Numbers.{low_first, high_first}
use Rattle.octets.specs.Over.{over}
use Rattle.octets.proofs.Choice.{not_both}
use Rattle.octets.proofs.Outcome.{RuledOut, Place, lent, never}
use Rattle.image.specs.Image.{sound_image}
use Rattle.profile.specs.declared.Profile.{Profile}
use Rattle.profile.specs.declared.Profile.TheVariants.{Ten, Eleven}
use Rattle.input.specs.declared.Head.TheVariants as head
use Rattle.input.specs.declared.Run.TheVariants as run
use Rattle.input.specs.declared.Call.TheVariants as call
use Rattle.input.specs.Input.{length_of2, length_of3, clock_at, head_size, image_in, clock_in, head_found, run_size, run_found, are_bits, call_size, whole_call, call_found}
use Rattle.input.proofs.length_of_2.Reads as length_of_2
use Rattle.input.proofs.clock_at.Reads as clock_at_call
use Rattle.input.proofs.head_size.Reads as head_size_call
use Rattle.input.proofs.image_in.Reads as image_in_call
use Rattle.input.proofs.clock_in.Reads as clock_in_call
use Rattle.input.proofs.judge_head.Reads as judge_head
use Rattle.input.proofs.run_size.Reads as run_size_call
use Rattle.input.proofs.judge_run.Reads as judge_run
use Rattle.input.proofs.call_size.Reads as call_size_call
use Rattle.input.proofs.judge_call.Reads as judge_call

-- of four tests in a row the last holds where none before it decides
whole_last : (t u v w : Bool)
    → head.Whole ≡ (when t then head.Cut else when u then head.Version else when v then head.Cut else when not w then head.Image else head.Whole) → w ≡ true
whole_last true u v w p = absurd (never (cc))
whole_last false true v w p = absurd (never (cc))
whole_last false false true w p = absurd (never (cc))
whole_last false false false true p = refl
whole_last false false false false p = absurd (never (cc))

-- x, y: where the octets lie
module _ (κs : Lfts 1) (x y : Place) where
  -- a length with the input's first octet for its own, whenever they differ
  length_of_2_first : (a b c : ℕ) → (a ≡ b → ⊥) → RuledOut (length_of_2.Post κs) (lent x (a ∷ b ∷ c ∷ []), (1, tt)) (c + 256 * a)
  unfolding length_of2 high_first low_first
  length_of_2_first a b c n s p = n (omega arith)

  -- a length with its second octet one place on, whenever they differ
  length_of_2_second : (a b c : ℕ) → (b ≡ c → ⊥) → RuledOut (length_of_2.Post κs) (lent x (a ∷ b ∷ c ∷ []), (0, tt)) (c + 256 * a)
  unfolding length_of2 high_first low_first
  length_of_2_second a b c n s p = n (omega arith)

  -- a length low octet first, whenever its octets differ
  length_of_2_swapped : (a b : ℕ) → (a ≡ b → ⊥) → RuledOut (length_of_2.Post κs) (lent x (a ∷ b ∷ []), (0, tt)) (a + 256 * b)
  unfolding length_of2 high_first low_first
  length_of_2_swapped a b n s p = n (omega arith)

  -- a clock from the input's first octet on, whatever the index, whenever its first octet is another
  clock_at_index : (a b c d e f g h : ℕ) → (a ≡ b → ⊥)
      → RuledOut (clock_at_call.Post κs) (lent x (a ∷ b ∷ c ∷ d ∷ e ∷ f ∷ g ∷ h ∷ []), (1, tt)) (a ∷ b ∷ c ∷ d ∷ e ∷ f ∷ g ∷ [])
  unfolding clock_at over
  clock_at_index a b c d e f g h n s p = n (cc)

  -- a clock of which the last octet is missing with another than 0 for it
  clock_at_cut : (a b c d e f g : ℕ) → (0 ≡ g → ⊥)
      → RuledOut (clock_at_call.Post κs) (lent x (a ∷ b ∷ c ∷ d ∷ e ∷ f ∷ []), (0, tt)) (a ∷ b ∷ c ∷ d ∷ e ∷ f ∷ g ∷ [])
  unfolding clock_at over
  clock_at_cut a b c d e f g n s p = n (cc)

  -- a head that ends with the image, whatever its length
  head_size_clock : (a b : ℕ) → RuledOut (head_size_call.Post κs) (lent x (1 ∷ a ∷ b ∷ []), tt) (3 + (b + 256 * a))
  unfolding head_size length_of2 high_first low_first
  head_size_clock a b s p = omega arith

  -- a head with a clock of six octets, whatever the image's length
  head_size_six : (a b : ℕ) → RuledOut (head_size_call.Post κs) (lent x (1 ∷ a ∷ b ∷ []), tt) (9 + (b + 256 * a))
  unfolding head_size length_of2 high_first low_first
  head_size_six a b s p = omega arith

  -- three octets asked for where the version is another, whatever follows it
  head_size_version : (v : ℕ) (rest : List ℕ) → (v ≡ 1 → ⊥) → RuledOut (head_size_call.Post κs) (lent x (v ∷ rest), tt) 3
  unfolding head_size
  head_size_version v rest n s p = omega (arith, rw (le-ltb (length (v ∷ rest)) 1 (omega arith), ne_eqb v 1 n) at p)

  -- an image that starts with its length, whenever its first octet is not 0
  image_in_start : (a b : ℕ) → (0 ≡ a → ⊥) → RuledOut (image_in_call.Post κs) (lent x (1 ∷ 0 ∷ 2 ∷ a ∷ b ∷ []), tt) (lent y (0 ∷ 2 ∷ []))
  unfolding image_in length_of2 high_first low_first
  image_in_start a b n s p = n (cc)

  -- an image with an octet of the clock behind it
  image_in_length : (a b : ℕ) → RuledOut (image_in_call.Post κs) (lent x (1 ∷ 0 ∷ 1 ∷ a ∷ b ∷ []), tt) (lent y (a ∷ b ∷ []))
  unfolding image_in length_of2 high_first low_first
  image_in_length a b s p = never (cc)

  -- a to g: the seven clock octets behind an image of one octet
  module _ (image a b c d e f g : ℕ) where
    -- a clock two octets early, whenever its first octet is not 1
    clock_in_first : (1 ≡ a → ⊥)
        → RuledOut (clock_in_call.Post κs) (lent x (1 ∷ 0 ∷ 1 ∷ image ∷ a ∷ b ∷ c ∷ d ∷ e ∷ f ∷ g ∷ []), tt) (1 ∷ image ∷ a ∷ b ∷ c ∷ d ∷ e ∷ [])
    unfolding clock_in clock_at over length_of2 high_first low_first
    clock_in_first n s p = n (cc)

    -- a clock of six octets and a 0, whenever the seventh is not 0
    clock_in_six : (0 ≡ g → ⊥)
        → RuledOut (clock_in_call.Post κs) (lent x (1 ∷ 0 ∷ 1 ∷ image ∷ a ∷ b ∷ c ∷ d ∷ e ∷ f ∷ g ∷ []), tt) (a ∷ b ∷ c ∷ d ∷ e ∷ f ∷ 0 ∷ [])
    unfolding clock_in clock_at over length_of2 high_first low_first
    clock_in_six n s p = n (cc)

  -- another version called cut, whatever follows it
  judge_head_version : (v : ℕ) (rest : List ℕ) → (v ≡ 1 → ⊥) → RuledOut (judge_head.Post κs) (lent x (v ∷ rest), tt) head.Cut
  unfolding head_found
  judge_head_version v rest n s p = never (cc (le-ltb (length (v ∷ rest)) 1 (omega arith), ne_eqb v 1 n))

  -- an unsound image let through, whatever was read
  judge_head_image : (read : List ℕ) → sound_image (image_in read) ≡ false → RuledOut (judge_head.Post κs) (lent x read, tt) head.Whole
  unfolding head_found
  judge_head_image read unsound s p =
      not_both unsound (whole_last (ltb (length read) 1) (not (eqb (get_or read 0 0) 1)) (ltb (length read) (head_size read)) (sound_image (image_in read)) p)

  -- input cut before the clock's end called an unsound image
  judge_head_cut : RuledOut (judge_head.Post κs) (lent x (1 ∷ 0 ∷ 0 ∷ []), tt) head.Image
  unfolding head_found head_size length_of2 high_first low_first
  judge_head_cut s p = never (cc)

  -- empty input called another version
  judge_head_empty : RuledOut (judge_head.Post κs) (lent x [], tt) head.Version
  unfolding head_found
  judge_head_empty s p = never (cc)

  -- a run's length counted as one octet, whatever it is
  run_size_length : (a b : ℕ) → RuledOut (run_size_call.Post κs) (lent x (a ∷ b ∷ []), tt) (1 + (b + 256 * a))
  unfolding run_size length_of2 high_first low_first
  run_size_length a b s p = omega arith

  -- one octet asked for where a run begins
  run_size_one : RuledOut (run_size_call.Post κs) (lent x [], tt) 1
  unfolding run_size
  run_size_one s p = omega arith

  -- a run's length low octet first, whenever its octets differ
  run_size_swapped : (a b : ℕ) → (a ≡ b → ⊥) → RuledOut (run_size_call.Post κs) (lent x (a ∷ b ∷ []), tt) (2 + (a + 256 * b))
  unfolding run_size length_of2 high_first low_first
  run_size_swapped a b n s p = n (omega arith)

  -- a cut run called the end
  judge_run_cut : (a : ℕ) → RuledOut (judge_run.Post κs) (lent x (a ∷ []), tt) run.End
  unfolding run_found run_size
  judge_run_cut a s p = never (cc)

  -- the end called a cut run
  judge_run_end : RuledOut (judge_run.Post κs) (lent x [], tt) run.Cut
  unfolding run_found
  judge_run_end s p = never (cc)

  -- an empty run called the end
  judge_run_empty : RuledOut (judge_run.Post κs) (lent x (0 ∷ 0 ∷ []), tt) run.End
  unfolding run_found run_size length_of2 high_first low_first
  judge_run_empty s p = never (cc)

  -- a clock call of six octets, whatever they are
  call_size_clock : (q : Profile) (rest : List ℕ) → RuledOut (call_size_call.Post κs) (q, (lent x (67 ∷ rest), tt)) 7
  unfolding call_size
  call_size_clock q rest s p = omega arith

  -- an image of 65,600 octets not read on
  call_size_image : (q : Profile) → RuledOut (call_size_call.Post κs) (q, (lent x (73 ∷ 1 ∷ 0 ∷ 0x40 ∷ []), tt)) 4
  unfolding call_size length_of3 high_first low_first
  call_size_image q s p = omega arith

  -- a cut call called the end
  judge_call_cut : (q : Profile) → RuledOut (judge_call.Post κs) (q, (lent x (73 ∷ []), tt)) call.End
  unfolding call_found call_size
  judge_call_cut q s p = never (cc)

  -- the end called a cut call
  judge_call_end : (q : Profile) → RuledOut (judge_call.Post κs) (q, (lent x [], tt)) call.Cut
  unfolding call_found
  judge_call_end q s p = never (cc)

  -- a reply buffer of 301 octets taken for a call
  judge_call_room : (q : Profile) → RuledOut (judge_call.Post κs) (q, (lent x (66 ∷ 1 ∷ 45 ∷ []), tt)) call.Room
  unfolding call_found call_size whole_call length_of2 high_first low_first
  judge_call_room q s p = never (cc)

  -- an unknown letter taken for a gap
  judge_call_letter : RuledOut (judge_call.Post κs) (Ten, (lent x (88 ∷ []), tt)) call.Gap
  unfolding call_found call_size whole_call
  judge_call_letter s p = never (cc)

  -- a P on a ten-bit card taken
  judge_call_ten : (octet : ℕ) → RuledOut (judge_call.Post κs) (Ten, (lent x (80 ∷ 0 ∷ 1 ∷ octet ∷ 0 ∷ []), tt)) call.Characters
  unfolding call_found call_size whole_call
  judge_call_ten octet s p = never (cc)

  -- a parity bit that is neither 00 nor 01 taken
  judge_call_bit : (octet : ℕ) → RuledOut (judge_call.Post κs) (Eleven, (lent x (80 ∷ 0 ∷ 1 ∷ octet ∷ 2 ∷ []), tt)) call.Characters
  unfolding call_found call_size whole_call are_bits length_of2 high_first low_first
  judge_call_bit octet s p = never (cc)

  -- the message of a W taken for octets of the line
  judge_call_why : (octet : ℕ) → RuledOut (judge_call.Post κs) (Eleven, (lent x (87 ∷ 0 ∷ 1 ∷ octet ∷ []), tt)) call.Octets
  unfolding call_found call_size whole_call length_of2 high_first low_first
  judge_call_why octet s p = never (cc)

  -- a W not waited for
  call_size_why : RuledOut (call_size_call.Post κs) (Ten, (lent x (87 ∷ 0 ∷ 2 ∷ []), tt)) 3
  unfolding call_size length_of2 high_first low_first
  call_size_why s p = omega arith

  -- a P that waits for one octet a character
  call_size_characters : RuledOut (call_size_call.Post κs) (Eleven, (lent x (80 ∷ 0 ∷ 1 ∷ []), tt)) 4
  unfolding call_size length_of2 high_first low_first
  call_size_characters s p = omega arith

  -- a P on a ten-bit card waited for
  call_size_ten : RuledOut (call_size_call.Post κs) (Ten, (lent x (80 ∷ []), tt)) 3
  unfolding call_size
  call_size_ten s p = omega arith
