-- Of all 256 control octets those that are named are offered, and no other; and the paper's numbers determine what is asked for.
-- By a test computed over all of them, in each form. Assumes nothing.
use Rattle.std.proofs.Common.{◌≡◌, ℕ, ◌<◌, Bool, true, false, ◌||◌, eqb, List, [], ◌∷◌, get_or, refl, Option, Some, None}
use mathlib.Core.Bool.{false≢true}
use Rattle.octets.specs.Answer.{Answer}
use Rattle.octets.specs.Choice.{when◌then◌else◌}
use Rattle.octets.proofs.Outcome.{determined}
use Rattle.octets.proofs.Computed.{at_each}
use Rattle.frame.specs.declared.Form.{Form}
use Rattle.frame.specs.declared.Form.TheVariants.{Fixed, Variable}
use Rattle.frame.specs.declared.Service.TheVariants.{Reset, UserData, Status, Collection}
use Rattle.frame.specs.Controls.{offered}
use Rattle.frame.specs.Calls.{asked_says}
use Rattle.frame.specs.declared.Service.{Service}

-- one of so many control octets
abbrev pub among : ℕ → List ℕ → Bool
among c [] = false
among c (x ∷ xs) = eqb c x || among c xs

-- whether a control field is not offered
is_not : Option Service → Bool
is_not None = true
is_not (Some service) = false

not_offered : (x : Option Service) → is_not x ≡ true → None ≡ x
unfolding is_not
not_offered None e = refl
not_offered (Some service) e = absurd (false≢true e)

-- what is not among the octets named is not offered
only : Form → List ℕ → ℕ → Bool
only form named c = among c named || is_not (offered form c)

pub fixed_only : (c : ℕ) → c < 256 → among c (0x5B ∷ 0x7B ∷ 0x40 ∷ 0x60 ∷ 0x49 ∷ 0x69 ∷ []) ≡ false → None ≡ offered Fixed c
unfolding only offered is_not
fixed_only c h n = not_offered _ (rw n at (at_each (only Fixed (0x5B ∷ 0x7B ∷ 0x40 ∷ 0x60 ∷ 0x49 ∷ 0x69 ∷ [])) 256 refl c h))

pub variable_only : (c : ℕ) → c < 256 → among c (0x53 ∷ 0x73 ∷ []) ≡ false → None ≡ offered Variable c
unfolding only offered is_not
variable_only c h n = not_offered _ (rw n at (at_each (only Variable (0x53 ∷ 0x73 ∷ [])) 256 refl c h))

-- the paper's numbers determine what is asked for
back : Answer → Option Service
back x =
    when eqb x.number 6 then None else
    when eqb (get_or x.values 0 0) 0 then Some Reset else
    when eqb (get_or x.values 0 0) 3 then Some (UserData (get_or x.values 1 0)) else
    when eqb (get_or x.values 0 0) 9 then Some Status else
    Some (Collection (get_or x.values 1 0))

asked_back : (x : Option Service) → back (asked_says x) ≡ x
unfolding back
asked_back None = refl
asked_back (Some Reset) = refl
asked_back (Some (UserData bit)) = refl
asked_back (Some Status) = refl
asked_back (Some (Collection bit)) = refl

pub asked_one : {x y : Option Service} → asked_says x ≡ asked_says y → x ≡ y
asked_one = determined asked_says back asked_back
