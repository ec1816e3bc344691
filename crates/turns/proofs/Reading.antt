-- What has been read of an input is enough for a turn once it has as many octets as it tells: what comes behind changes nothing.
-- The lengths stand in the octets that are asked for first, and a part of these octets is a part of all. Assumes nothing.
use Prim.Native.Nat.{ℕ, ◌+◌, ◌≤◌, ◌<◌}
use mathlib.Core.Bool.{Bool, true, false, not}
use mathlib.Core.List.{List, [], ◌++◌}
use mathlib.Core.Path.{◌≡◌, refl, sym, ap, ◌∙◌}
use native.Mathlib.Omega.{arith}
use lib.Dec.{ltb, eqb}
use lib.ListN.{take-append-drop, length, take, drop, get_or, length-append, length-drop, get_or-append}
use lib.Seq.{length-take-le, get_or-take, take-append-le, drop-append-le}
use borrow.Author.Tests.{le-ltb, ltb-false}
use Rattle.octets.specs.Choice.{when◌then◌else◌}
use Rattle.octets.proofs.Choice.{either}
use Rattle.image.specs.Image.{sound_image}
use Rattle.input.specs.declared.Head.{Head}
use Rattle.input.specs.declared.Head.TheVariants as head
use Rattle.input.specs.Input.{length_of2, head_found, head_size, clock_at, image_in, clock_in, run_size}
use Rattle.turns.specs.Printed.{after_head, head_turn, first_run}
use Rattle.turns.proofs.Steps.{run_two}

-- a head's version alone has an octet
head_one : (read : List ℕ) → 1 ≤ head_size read
unfolding head_size
head_one read =
    either (λ (n : ℕ). 1 ≤ n) (ltb (length read) 1) (λ _. omega arith)
    (λ _. either (λ (n : ℕ). 1 ≤ n) (not (eqb (get_or read 0 0) 1)) (λ _. omega arith)
    (λ _. either (λ (n : ℕ). 1 ≤ n) (ltb (length read) 3) (λ _. omega arith) (λ _. omega arith)))

-- the size of a head of version 1 that has its image length
size_of_one : (read : List ℕ) → 3 ≤ length read → eqb (get_or read 0 0) 1 ≡ true → head_size read ≡ 10 + length_of2 read 1
unfolding head_size
size_of_one read long one =
    let some : 1 ≤ length read = omega arith in
    rw (le-ltb (length read) 1 some, one, le-ltb (length read) 3 long)

-- what a head of version 1 is
abbrev of_version1 : List ℕ → Head
of_version1 read =
    when ltb (length read) (head_size read) then head.Cut else
    when not (sound_image (image_in read)) then head.Image else
    head.Whole

-- `read` is what has been read, and `more` comes behind
module _ (read more : List ℕ) where
  -- a length
  length_read : (at : ℕ) → at + 1 < length read → length_of2 (read ++ more) at ≡ length_of2 read at
  unfolding length_of2
  length_read at h = rw (get_or-append read more 0 at (omega arith), get_or-append read more 0 (at + 1) h)

  -- a part
  part_read : (at many : ℕ) → at + many ≤ length read → take many (drop at (read ++ more)) ≡ take many (drop at read)
  part_read at many h =
      rw (drop-append-le at read more (omega arith)) (take-append-le many (drop at read) more (omega (arith, length-drop at read)))

  -- a run and its length
  module _ (enough : run_size read ≤ length read) where
    pub run_size_read : run_size (read ++ more) ≡ run_size read
    unfolding run_size
    run_size_read =
        let two : 2 ≤ length read = omega (arith, run_two read) in
        let longer : 2 ≤ length (read ++ more) = omega (arith, length-append read more) in
        rw (le-ltb (length (read ++ more)) 2 longer, le-ltb (length read) 2 two, length_read 0 (omega arith))

    pub first_run_read : first_run (read ++ more) ≡ first_run read
    first_run_read = rw run_size_read (take-append-le (run_size read) read more enough)

  -- a head
  module _ (enough : head_size read ≤ length read) where
    some : 1 ≤ length read
    some = omega (arith, head_one read)

    longer : length read ≤ length (read ++ more)
    longer = omega (arith, length-append read more)

    version_read : get_or (read ++ more) 0 0 ≡ get_or read 0 0
    version_read = get_or-append read more 0 0 (omega (arith, some))

    -- of version 1 all of it has been read
    module _ (one : eqb (get_or read 0 0) 1 ≡ true) where
      sized : head_size read ≡ (when ltb (length read) 3 then 3 else 10 + length_of2 read 1)
      unfolding head_size
      sized = rw (le-ltb (length read) 1 some, one)

      three : 3 ≤ length read
      three =
          either (λ (n : ℕ). head_size read ≡ n → 3 ≤ length read) (ltb (length read) 3) (λ _ e. omega arith)
          (λ f e. omega (arith, ltb-false (length read) 3 f)) sized

      whole : head_size read ≡ 10 + length_of2 read 1
      whole = size_of_one read three one

      image_length : length_of2 (read ++ more) 1 ≡ length_of2 read 1
      image_length = length_read 1 three

      pub head_size_read : head_size (read ++ more) ≡ head_size read
      head_size_read =
          size_of_one (read ++ more) (omega (arith, three, longer)) (rw version_read one)
          ∙ ap (λ (n : ℕ). 10 + n) image_length
          ∙ sym whole

      pub image_read : image_in (read ++ more) ≡ image_in read
      unfolding image_in
      image_read = rw image_length (part_read 3 (length_of2 read 1) (omega (arith, whole)))

      pub clock_read : clock_in (read ++ more) ≡ clock_in read
      unfolding clock_in clock_at
      clock_read = rw (image_length, part_read (3 + length_of2 read 1) 7 (omega (arith, whole)))

    -- what the head is, by its version
    head_by : (b : Bool) → eqb (get_or read 0 0) 1 ≡ b
        → (when not b then head.Version else of_version1 (read ++ more)) ≡ (when not b then head.Version else of_version1 read)
    head_by false e = refl
    head_by true e =
        rw (head_size_read e, image_read e, le-ltb (length (read ++ more)) (head_size read) (omega (arith, longer)), le-ltb (length read) (head_size read) enough)

    -- so its turn is the same
    pub head_read : head_turn (read ++ more) ≡ head_turn read
    unfolding head_turn head_found
    head_read =
        let much : 1 ≤ length (read ++ more) = omega (arith, some, longer) in
        ap after_head (rw (version_read, le-ltb (length (read ++ more)) 1 much, le-ltb (length read) 1 some) (head_by (eqb (get_or read 0 0) 1) refl))

-- a head of version 1 that is kept apart, whatever stands behind it: image and clock are those of what was read
module _ (read behind : List ℕ) (enough : head_size read ≤ length read) (one : eqb (get_or read 0 0) 1 ≡ true) where
  abbrev kept : List ℕ
  kept = take (head_size read) read

  kept_length : length kept ≡ head_size read
  kept_length = length-take-le (head_size read) read enough

  ten : 10 ≤ head_size read
  ten = omega (arith, whole read [] enough one)

  kept_one : eqb (get_or kept 0 0) 1 ≡ true
  kept_one = rw (get_or-take (head_size read) read 0 0 (omega (arith, ten))) one

  kept_image_length : length_of2 kept 1 ≡ length_of2 read 1
  unfolding length_of2
  kept_image_length = rw (get_or-take (head_size read) read 1 0 (omega (arith, ten)), get_or-take (head_size read) read 2 0 (omega (arith, ten)))

  kept_enough : head_size kept ≤ length kept
  kept_enough =
      omega (arith, size_of_one kept (omega (arith, ten, kept_length)) kept_one, kept_image_length, whole read [] enough one, kept_length)

  -- what follows from the laws above for the head that is kept, with what stood behind it and with what stands there now
  pub image_kept : image_in (kept ++ behind) ≡ image_in read
  image_kept =
      image_read kept behind kept_enough kept_one
      ∙ sym (image_read kept (drop (head_size read) read) kept_enough kept_one)
      ∙ ap image_in (take-append-drop (head_size read) read)

  pub clock_kept : clock_in (kept ++ behind) ≡ clock_in read
  clock_kept =
      clock_read kept behind kept_enough kept_one
      ∙ sym (clock_read kept (drop (head_size read) read) kept_enough kept_one)
      ∙ ap clock_in (take-append-drop (head_size read) read)
