-- The code's answers of a run are the definition's, case by case; and number and values determine the answer.
-- The parts of a frame are the run's own octets at their places. Assumes nothing.
use Rattle.std.specs.Prelude.{Result, Ok, Err}
use Rattle.std.proofs.Common.{◌≡◌, ℕ, ◌-◌, ◌<◌, ◌≤◌, true, false, eqb, List, [], ◌∷◌, length, get_or, drop, sym, refl, ap, ◌∙◌, arith, length-drop, take_all, drop-drop}
use native.Mathlib.Decide.{dec_lt}
use Rattle.octets.specs.Answer.{Answer}
use Rattle.octets.specs.Choice.{when◌then◌else◌}
use Rattle.octets.specs.Numbers.{low_first}
use Rattle.octets.proofs.Lists.{part_at}
use Rattle.octets.proofs.Outcome.{determined}
use Rattle.address.specs.declared.LinkAddress.{LinkAddress}
use Rattle.frame.specs.declared.Judged.{Judged}
use Rattle.frame.specs.declared.Judged.TheVariants.{Fixed, Variable}
use Rattle.frame.specs.declared.Fault.{Fault}
use Rattle.frame.specs.declared.Fault.TheVariants.{Empty, Long, Parity, Malformed, Spoiled}
use Rattle.frame.specs.Family.{sapr}
use Rattle.frame.specs.Frame.{Frame, fixed, variable, Verdict, refused, sound, covered, sum_right, fixed_form, variable_form, said_fixed, said_variable, judge}
use Rattle.frame.specs.Calls.{verdict_says, judged_says, user_part}
use Rattle.frame.proofs.Sealed.{covered_length, covered_at, part_covered}
use Rattle.frame.proofs.Frame.{VariableRun, fixed_facts, variable_facts, judge_long, judge_fixed, judge_variable, Sound, as_fixed, as_variable, sound_facts}

module _ (run : List ℕ) (some : length run ≡ 0 → ⊥) (short : length run ≤ 261) where
  pub says_fixed : (link : LinkAddress) → fixed_form sapr run ≡ true → sum_right 1 run ≡ true → link.0 ≡ low_first (get_or run 2 0 ∷ get_or run 3 0 ∷ [])
      → judged_says (Ok (Fixed (get_or run 1 0) link)) ≡ verdict_says (judge sapr run)
  unfolding said_fixed
  says_fixed link f s e =
      let h = fixed_facts sapr run f in
      rw (judge_fixed sapr run some short f, s, covered_at 1 run (omega arith) 0 (omega arith), part_covered 1 run (omega arith) 2 1 (omega arith), e)

  pub says_variable : (link : LinkAddress) (users : ℕ) → fixed_form sapr run ≡ false → variable_form sapr run ≡ true → sum_right 4 run ≡ true
      → link.0 ≡ low_first (get_or run 5 0 ∷ get_or run 6 0 ∷ []) → users ≡ length run - 9
      → judged_says (Ok (Variable (get_or run 4 0) link users)) ≡ verdict_says (judge sapr run)
  unfolding said_variable
  says_variable link users f v s e n =
      let h = variable_facts sapr run v in
      let count : length (drop 2 (drop 1 (covered 4 run))) ≡ users = simp (length-drop, covered_length 4 run (omega arith)) (omega arith) in
      rw (judge_variable sapr run some short f v, s, covered_at 4 run (omega arith) 0 (omega arith), part_covered 4 run (omega arith) 2 1 (omega arith), e, count)

  pub says_spoiled_fixed : fixed_form sapr run ≡ true → sum_right 1 run ≡ false → judged_says (Err Spoiled) ≡ verdict_says (judge sapr run)
  says_spoiled_fixed f s = rw (judge_fixed sapr run some short f, s)

  pub says_spoiled_variable : fixed_form sapr run ≡ false → variable_form sapr run ≡ true → sum_right 4 run ≡ false → judged_says (Err Spoiled) ≡ verdict_says (judge sapr run)
  says_spoiled_variable f v s = rw (judge_variable sapr run some short f v, s)

-- number and values determine the answer
back : Answer → Result Judged Fault
back x =
    when eqb x.number 1 then Err Empty else
    when eqb x.number 2 then Err Long else
    when eqb x.number 10 then Err Parity else
    when eqb x.number 3 then Err Malformed else
    when eqb x.number 4 then Err Spoiled else
    when eqb (get_or x.values 0 0) 0x10 then Ok (Fixed (get_or x.values 1 0) (record { 0 = get_or x.values 2 0 })) else
    Ok (Variable (get_or x.values 1 0) (record { 0 = get_or x.values 2 0 }) (get_or x.values 3 0))

judged_back : (x : Result Judged Fault) → back (judged_says x) ≡ x
unfolding back
judged_back (Err Empty) = refl
judged_back (Err Long) = refl
judged_back (Err Parity) = refl
judged_back (Err Malformed) = refl
judged_back (Err Spoiled) = refl
judged_back (Ok (Fixed c link)) = refl
judged_back (Ok (Variable c link users)) = refl

pub judged_one : {x y : Result Judged Fault} → judged_says x ≡ judged_says y → x ≡ y
judged_one = determined judged_says back judged_back

-- from the code's answer to the verdict. What the code answers of a verdict:
judged_of : Verdict → Result Judged Fault
judged_of (refused fault) = Err fault
judged_of (sound (fixed c a)) = Ok (Fixed c (record { 0 = a }))
judged_of (sound (variable c a user)) = Ok (Variable c (record { 0 = a }) (length user))

judged_of_law : (v : Verdict) {j : Result Judged Fault} → judged_says j ≡ verdict_says v → j ≡ judged_of v
unfolding judged_of
judged_of_law (refused fault) e = judged_one e
judged_of_law (sound (fixed c a)) e = judged_one e
judged_of_law (sound (variable c a user)) e = judged_one e

-- which of the three it is, and the numbers in it
shape : Result Judged Fault → ℕ
shape (Err fault) = 0
shape (Ok (Fixed c link)) = 1
shape (Ok (Variable c link users)) = 2

part : ℕ → Result Judged Fault → ℕ
part i j = get_or (judged_says j).values i 0

fault_in : Result Judged Fault → Fault
fault_in (Err fault) = fault
fault_in (Ok (Fixed c link)) = Empty
fault_in (Ok (Variable c link users)) = Empty

of_faulty : (v : Verdict) (fault : Fault) → judged_says (Err fault) ≡ verdict_says v → v ≡ refused fault
unfolding judged_of shape fault_in
of_faulty (refused other) fault e = ap (λ (j : Result Judged Fault). refused (fault_in j)) (sym (judged_of_law (refused other) {j = Err fault} e))
of_faulty (sound (fixed c a)) fault e = absurd (omega (arith, ap shape (judged_of_law (sound (fixed c a)) {j = Err fault} e)))
of_faulty (sound (variable c a user)) fault e = absurd (omega (arith, ap shape (judged_of_law (sound (variable c a user)) {j = Err fault} e)))

of_fixed : (v : Verdict) (c : ℕ) (link : LinkAddress) → judged_says (Ok (Fixed c link)) ≡ verdict_says v → v ≡ sound (fixed c link.0)
unfolding judged_of shape part
of_fixed (refused other) c link e = absurd (omega (arith, ap shape (judged_of_law (refused other) {j = Ok (Fixed c link)} e)))
of_fixed (sound (fixed d a)) c link e = ap (λ (j : Result Judged Fault). sound (fixed (part 1 j) (part 2 j))) (sym (judged_of_law (sound (fixed d a)) {j = Ok (Fixed c link)} e))
of_fixed (sound (variable d a user)) c link e = absurd (omega (arith, ap shape (judged_of_law (sound (variable d a user)) {j = Ok (Fixed c link)} e)))

pub faulty_verdict : (run : List ℕ) (fault : Fault) → judged_says (Err fault) ≡ verdict_says (judge sapr run) → judge sapr run ≡ refused fault
faulty_verdict run = of_faulty (judge sapr run)

pub fixed_verdict : (run : List ℕ) (c : ℕ) (link : LinkAddress) → judged_says (Ok (Fixed c link)) ≡ verdict_says (judge sapr run) → judge sapr run ≡ sound (fixed c link.0)
fixed_verdict run = of_fixed (judge sapr run)

-- the user octets of a sound frame are at most 252, and stand behind the first seven of its run
pub record UserOctets (run user : List ℕ) : Type 0 where
  pub fits : length user ≤ 252
  pub stands : user_part (length user) run ≡ user

is_fixed : Frame → ℕ
is_fixed (fixed c a) = 1
is_fixed (variable c a user) = 0

user_in : Frame → List ℕ
user_in (fixed c a) = []
user_in (variable c a user) = user

module _ (run : List ℕ) (c a : ℕ) (user : List ℕ) (e : judge sapr run ≡ sound (variable c a user)) where
  not_long : 261 < length run → ⊥
  unfolding judged_of shape
  not_long h = omega (arith, ap (λ (v : Verdict). shape (judged_of v)) (sym (judge_long sapr run h) ∙ e))

  pub user_octets : UserOctets run user
  unfolding is_fixed user_in said_fixed said_variable
  user_octets = by_form (sound_facts sapr run (variable c a user) e)
    where
      of_run : VariableRun sapr run → user ≡ drop 2 (drop 1 (covered 4 run)) → UserOctets run user
      of_run r u =
          let short : length run ≤ 261 = elim (dec_lt 261 (length run)) [ yes h ↦ absurd (not_long h) | no h ↦ omega arith ] in
          let room : 9 ≤ length run = omega (arith, r.long, r.least) in
          let behind : user ≡ drop 3 (covered 4 run) = u ∙ drop-drop 2 1 (covered 4 run) in
          let count : length user ≡ length run - 9 = ap (λ (l : List ℕ). length l) behind ∙ simp (length-drop, covered_length 4 run (omega arith)) (omega arith) in
          record {
            fits = omega arith;
            stands = rw count (part_at (length run - 9) run 7 (omega arith) ∙ sym (part_covered 4 run (omega arith) (length run - 9) 3 (omega arith)) ∙ take_all (length run - 9) (drop 3 (covered 4 run)) (omega (arith, ap (λ (l : List ℕ). length l) behind)) ∙ sym behind);
          }

      by_form : Sound sapr run (variable c a user) → UserOctets run user
      by_form (as_fixed r s p) = absurd (omega (arith, ap is_fixed p))
      by_form (as_variable r s p) = of_run r (ap user_in p)

pub record VariableJudged (run : List ℕ) (c : ℕ) (link : LinkAddress) (users : ℕ) : Type 0 where
  pub fits : length (user_part users run) ≤ 252
  pub says : judge sapr run ≡ sound (variable c link.0 (user_part users run))

pub variable_verdict : (run : List ℕ) (c : ℕ) (link : LinkAddress) (users : ℕ) → judged_says (Ok (Variable c link users)) ≡ verdict_says (judge sapr run)
    → VariableJudged run c link users
unfolding judged_of shape part
variable_verdict run c link users e = of_verdict (judge sapr run) refl e
  where
    of_verdict : (v : Verdict) → judge sapr run ≡ v → judged_says (Ok (Variable c link users)) ≡ verdict_says v → VariableJudged run c link users
    of_verdict (refused other) j f = absurd (omega (arith, ap shape (judged_of_law (refused other) {j = Ok (Variable c link users)} f)))
    of_verdict (sound (fixed d a)) j f = absurd (omega (arith, ap shape (judged_of_law (sound (fixed d a)) {j = Ok (Variable c link users)} f)))
    of_verdict (sound (variable d a user)) j f =
        let same = judged_of_law (sound (variable d a user)) {j = Ok (Variable c link users)} f in
        let u = user_octets run d a user j in
        let whole : user_part users run ≡ user = ap (λ (n : ℕ). user_part n run) (ap (part 3) same) ∙ u.stands in
        record {
          fits = rw whole u.fits;
          says = j ∙ ap (λ (l : List ℕ). sound (variable d a l)) (sym whole) ∙ ap (λ (x : Result Judged Fault). sound (variable (part 1 x) (part 2 x) (user_part users run))) (sym same);
        }
