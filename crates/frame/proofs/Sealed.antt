-- A run in parts: start octets, what the checksum covers, the checksum and the end octet; put together and taken apart.
-- By the kit's laws of `take` and `drop` at a seam. Assumes nothing.
use Rattle.std.proofs.Common.{◌≡◌, ℕ, zero, suc, ◌+◌, ◌-◌, ◌<◌, ◌≤◌, List, [], ◌∷◌, ◌++◌, length, get_or, take, drop, refl, ap, ◌∙◌, ap₂, append_assoc, add-suc, arith, length-append, length-drop, take-append-drop, drop_of_length-le, length-take, get_or-drop, drop-cons, get_or-take, drop-drop, get_or-append-add}
use lib.Seq.{take-append_seam, drop-append_seam}
use Rattle.octets.proofs.Lists.{octets_at, part_at}
use Rattle.frame.specs.Frame.{covered}

-- put together
module _ (start body : List ℕ) (sum end : ℕ) where
  abbrev pub sealed : List ℕ
  sealed = start ++ (body ++ (sum ∷ end ∷ []))

  pub sealed_length : length sealed ≡ length start + length body + 2
  sealed_length = simp length-append (omega arith)

  pub sealed_body : covered (length start) sealed ≡ body
  sealed_body =
      let long : length sealed - (length start + 2) ≡ length body = omega (arith, sealed_length) in
      rw (drop-append_seam, long, take-append_seam)

  last_two : (i : ℕ) → get_or sealed (length start + length body + i) 0 ≡ get_or (sum ∷ end ∷ []) i 0
  last_two i =
      let both : length start + length body + i ≡ length (start ++ body) + i = omega (arith, length-append start body) in
      rw (both, ← append_assoc start body (sum ∷ end ∷ [])) (get_or-append-add (start ++ body) (sum ∷ end ∷ []) i 0)

  pub sealed_sum : get_or sealed (length sealed - 2) 0 ≡ sum
  sealed_sum =
      let place : length sealed - 2 ≡ length start + length body + 0 = omega (arith, sealed_length) in
      rw place (last_two 0)

  pub sealed_end : get_or sealed (length sealed - 1) 0 ≡ end
  sealed_end =
      let place : length sealed - 1 ≡ length start + length body + 1 = omega (arith, sealed_length) in
      rw place (last_two 1)

-- taken apart
last_octets : (run : List ℕ) → 2 ≤ length run → drop (length run - 2) run ≡ get_or run (length run - 2) 0 ∷ get_or run (length run - 1) 0 ∷ []
last_octets run two =
    let m = length run - 2 in
    let next : suc m ≡ length run - 1 = omega arith in
    let past : length run ≤ suc (length run - 1) = omega arith in
    let none : drop (suc (length run - 1)) run ≡ [] = drop_of_length-le run past in
    rw (drop-cons run m 0 (omega arith), next, drop-cons run (length run - 1) 0 (omega arith), none)

module _ (start : ℕ) (run : List ℕ) (room : start + 2 ≤ length run) where
  pub covered_length : length (covered start run) ≡ length run - (start + 2)
  covered_length = simp (length-take, length-drop) (omega arith)

  pub covered_at : (i : ℕ) → start + i + 2 < length run → get_or (covered start run) i 0 ≡ get_or run (start + i) 0
  covered_at i h =
      let less : i < length run - (start + 2) = omega arith in
      rw (get_or-take (length run - (start + 2)) (drop start run) i 0 less, get_or-drop)

  pub unsealed : take start run ++ (covered start run ++ (get_or run (length run - 2) 0 ∷ get_or run (length run - 1) 0 ∷ [])) ≡ run
  unsealed =
      let n = length run - (start + 2) in
      let place : start + n ≡ length run - 2 = omega arith in
      rw (← last_octets run (omega arith), ← place, ← drop-drop n start run)
      (ap (λ (l : List ℕ). take start run ++ l) (take-append-drop n (drop start run)) ∙ take-append-drop start run)

  -- octets of what the checksum covers are octets of the run
  pub octets_covered : (width j : ℕ) → start + j + width + 2 ≤ length run → octets_at width (covered start run) j ≡ octets_at width run (start + j)
  octets_covered zero j h = refl
  octets_covered (suc width) j h =
      ap₂ (λ (x : ℕ) (xs : List ℕ). x ∷ xs) (covered_at j (omega arith)) (octets_covered width (suc j) (omega arith) ∙ ap (octets_at width run) (add-suc start j))

  pub part_covered : (width j : ℕ) → start + j + width + 2 ≤ length run → take width (drop j (covered start run)) ≡ octets_at width run (start + j)
  part_covered width j h =
      let room' : j + width ≤ length (covered start run) = omega (arith, covered_length) in
      part_at width (covered start run) j room' ∙ octets_covered width j h
