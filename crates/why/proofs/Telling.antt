-- A test tells whether something holds: when it is true and only then. What is told of parts is told of what is made of them.
-- By cases on the tests. Assumes nothing.
use Prim.Native.Nat.{ℕ, ◌≤◌, ◌<◌}
use mathlib.Core.Bool.{Bool, true, false, not, ◌&&◌, ◌||◌, or-false, false≢true}
use mathlib.Core.List.{List, [], ◌∷◌}
use mathlib.Core.Logic.{◌⊎◌, inl, inr}
use mathlib.Core.Path.{◌≡◌, refl, sym, ap, ◌∙◌}
use native.Mathlib.Omega.{arith}
use lib.Dec.{eqb, leb, ltb}
use lib.ListN.{length}
use borrow.Author.Tests.{eqb-true, eq-eqb, leb-true, le-leb, ltb-true, lt-ltb}
use Rattle.octets.proofs.Choice.{not_both}

pub record Tells (H : Type 0) (t : Bool) : Type 0 where
  pub yes : t ≡ true → H
  pub only : H → t ≡ true

-- the same test, the same thing in other words
pub by_same : {H : Type 0} {t u : Bool} → t ≡ u → Tells H t → Tells H u
by_same e tells = record { yes = λ f. tells.yes (e ∙ f); only = λ h. sym e ∙ tells.only h }

pub in_words : {H K : Type 0} {t : Bool} → (H → K) → (K → H) → Tells H t → Tells K t
in_words to from tells = record { yes = λ e. to (tells.yes e); only = λ k. tells.only (from k) }

-- a test, and that it fails
pub so : (t : Bool) → Tells (t ≡ true) t
so t = record { yes = λ e. e; only = λ e. e }

pub fails : (t : Bool) → Tells (t ≡ false) (not t)
fails true = record { yes = λ e. sym e; only = λ e. sym e }
fails false = record { yes = λ e. refl; only = λ e. refl }

-- not; and, where the second may use the first; or
pub negated : {H : Type 0} (t : Bool) → Tells H t → Tells (H → ⊥) (not t)
negated true tells = record { yes = λ e h. false≢true e; only = λ no. absurd (no (tells.yes refl)) }
negated false tells = record { yes = λ e h. not_both refl (tells.only h); only = λ no. refl }

pub and_then : {H K : Type 0} (t : Bool) {u : Bool} → Tells H t → (t ≡ true → Tells K u) → Tells (H × K) (t && u)
and_then true tells more =
    record { yes = λ e. (tells.yes refl, (more refl).yes e); only = λ both. (more refl).only both.1 }
and_then false tells more = record { yes = λ e. absurd (false≢true e); only = λ both. absurd (not_both refl (tells.only both.0)) }

pub and : {H K : Type 0} (t : Bool) {u : Bool} → Tells H t → Tells K u → Tells (H × K) (t && u)
and t tells more = and_then t tells (λ e. more)

pub either_of : {H K L : Type 0} → (H → L) → (K → L) → H ⊎ K → L
either_of f g (inl h) = f h
either_of f g (inr k) = g k

pub or : {H K : Type 0} (t : Bool) {u : Bool} → Tells H t → Tells K u → Tells (H ⊎ K) (t || u)
or true tells more = record { yes = λ e. inl (tells.yes refl); only = λ one. refl }
or false tells more = record { yes = λ e. inr (more.yes e); only = either_of (λ h. absurd (not_both refl (tells.only h))) more.only }

pub alone : {H : Type 0} {t : Bool} → Tells H t → Tells H (t || false)
alone {t = t} = by_same (sym (or-false t))

-- numbers
pub is : (a b : ℕ) → Tells (a ≡ b) (eqb a b)
is a b = record { yes = eqb-true a b; only = eq-eqb a b }

pub at_most : (a b : ℕ) → Tells (a ≤ b) (leb a b)
at_most a b = record { yes = leb-true a b; only = le-leb a b }

pub none : (n : ℕ) → Tells (n ≡ 0) (not (ltb 0 n))
none n = in_words (λ no. omega (arith, no)) (λ e h. omega (arith, e, h)) (negated (ltb 0 n) (record { yes = ltb-true 0 n; only = lt-ltb 0 n }))

-- a bit is set
pub bit_set : (n : ℕ) → n < 2 → Tells (n ≡ 1) (not (eqb n 0))
bit_set n h = in_words (λ no. omega (arith, h, no)) (λ e z. omega (arith, e, z)) (negated (eqb n 0) (is n 0))

-- one of two tests fails
pub one_fails : (t u : Bool) → Tells ((t ≡ false) ⊎ (u ≡ false)) (not (t && u))
one_fails true u = in_words inr (either_of (λ e. absurd (not_both e refl)) (λ e. e)) (fails u)
one_fails false u = record { yes = λ e. inl refl; only = λ one. refl }

-- a list has no elements
pub empty : {A : Type 0} (xs : List A) → Tells (xs ≡ []) (eqb (length xs) 0)
empty [] = record { yes = λ e. refl; only = λ e. refl }
empty (x ∷ xs) = record { yes = λ e. absurd (omega (arith, eqb-true (length (x ∷ xs)) 0 e)); only = λ e. ap (λ ys. eqb (length ys) 0) e }
