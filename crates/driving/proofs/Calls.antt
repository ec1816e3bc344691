-- How many octets a call has at least, and an I at most.
-- By the tests of the definition. Assumes nothing.
use Prim.Native.Nat.{ℕ, ◌≤◌}
use mathlib.Core.List.{List}
use mathlib.Core.Path.{◌≡◌, subst}
use native.Mathlib.Omega.{arith}
use borrow.Author.Tests.{eqb-true, ltb-false}
use lib.Dec.{ltb, eqb}
use lib.ListN.{length, take, drop, get_or}
use lib.Seq.{get_or-take}
use Rattle.octets.proofs.Choice.{either}
use Rattle.profile.specs.declared.Profile.{Profile}
use Rattle.input.specs.declared.Call.{Call}
use Rattle.input.specs.declared.Call.TheVariants as call
use Rattle.input.specs.Input.{length_of2, length_of3, takes_octets, takes_characters, are_bits, call_size, whole_call, call_found}

-- a call has one octet or more
pub call_one : (p : Profile) (read : List ℕ) → 1 ≤ call_size p read
unfolding call_size
call_one p read =
    let P : ℕ → Type 0 = λ n. 1 ≤ n in
    either P (eqb (get_or read 0 0) 73)
    (λ _. either P (ltb (length read) 4) (λ _. omega arith)
    (λ _. either P (ltb 65600 (length_of3 read 1)) (λ _. omega arith) (λ _. omega arith)))
    (λ _. either P (eqb (get_or read 0 0) 67) (λ _. omega arith)
    (λ _. either P (eqb (get_or read 0 0) 66) (λ _. omega arith)
    (λ _. either P (takes_octets (get_or read 0 0))
    (λ _. either P (ltb (length read) 3) (λ _. omega arith) (λ _. omega arith))
    (λ _. either P (takes_characters p (get_or read 0 0))
    (λ _. either P (ltb (length read) 3) (λ _. omega arith) (λ _. omega arith))
    (λ _. omega arith)))))

-- the letter of an I; nothing of the others
abbrev Begins : List ℕ → Call → Type 0
Begins read call.Image = get_or read 0 0 ≡ 73
Begins read call.End = Unit {0}
Begins read call.Cut = Unit {0}
Begins read call.Wrong = Unit {0}
Begins read call.Clock = Unit {0}
Begins read call.Room = Unit {0}
Begins read call.Octets = Unit {0}
Begins read call.ElevenBits = Unit {0}
Begins read call.Characters = Unit {0}
Begins read call.Gap = Unit {0}
Begins read call.Why = Unit {0}

begins : (p : Profile) (read : List ℕ) → Begins read (call_found p read)
unfolding call_found whole_call
begins p read =
    let n = get_or read 0 0 in
    let P = Begins read in
    either P (ltb (length read) 1) (λ _. tt)
    (λ _. either P (ltb (length read) (call_size p read)) (λ _. tt)
    (λ _. either P (eqb n 73) (λ e. either P (ltb 65600 (length_of3 read 1)) (λ _. tt) (λ _. eqb-true n 73 e))
    (λ _. either P (eqb n 67) (λ _. tt)
    (λ _. either P (eqb n 66) (λ _. either P (ltb 300 (length_of2 read 1)) (λ _. tt) (λ _. tt))
    (λ _. either P (eqb n 79) (λ _. tt)
    (λ _. either P (eqb n 69) (λ _. tt)
    (λ _. either P (takes_characters p n) (λ _. either P (are_bits (drop 3 read)) (λ _. tt) (λ _. tt))
    (λ _. either P (eqb n 71) (λ _. tt)
    (λ _. either P (eqb n 87) (λ _. tt) (λ _. tt))))))))))

-- an I that stands first in what is left of an input has at most 65,604
pub image_most : (p : Profile) (rest : List ℕ) → call_found p (take (call_size p rest) rest) ≡ call.Image → call_size p rest ≤ 65604
unfolding call_size
image_most p rest e =
    let b : Begins (take (call_size p rest) rest) call.Image = subst (Begins (take (call_size p rest) rest)) e (begins p (take (call_size p rest) rest)) in
    let letter : get_or rest 0 0 ≡ 73 = rw (get_or-take (call_size p rest) rest 0 0 (call_one p rest)) at b in
    let P : ℕ → Type 0 = λ n. n ≤ 65604 in
    rw letter (either P (ltb (length rest) 4) (λ _. omega arith)
    (λ _. either P (ltb 65600 (length_of3 rest 1)) (λ _. omega arith) (λ f. omega (arith, ltb-false 65600 (length_of3 rest 1) f))))
