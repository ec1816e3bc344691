-- Entries that the check passes are right, and any two of them rise; and of such it passes all.
-- By recursion on the entries: behind an entry the next rises, and rising is passed on. Assumes nothing.
use Prim.Native.Nat.{ℕ, zero, suc, ◌+◌, ◌≤◌, ◌<◌}
use mathlib.Core.Bool.{Bool, true, false, not}
use mathlib.Core.List.{List, [], ◌∷◌}
use mathlib.Core.Logic.{◌⊎◌, inl, inr}
use mathlib.Core.Path.{◌≡◌, refl, ◌∙◌}
use native.Mathlib.Omega.{arith}
use borrow.Author.Tests.{lt-ltb, le-ltb, ltb-true, ltb-false, eq-eqb, ne_eqb, eqb-true, eqb-false}
use lib.Dec.{ltb, eqb}
use lib.ListN.{length, get_or}
use Rattle.octets.proofs.Choice.{either, flipped, not_both}
use Rattle.names.proofs.Standing.{some_none}
use Rattle.names.specs.declared.Code.{Code}
use Rattle.names.specs.declared.Fault.{Fault}
use Rattle.names.specs.declared.Fault.TheVariants.{Cut, Name, Order}
use Rattle.std.specs.Prelude.{Option, Some, None}
use Rattle.names.specs.Codes.{rises_to}
use Rattle.names.specs.Book.{code_of, length_of, size_of, in_order, Sound, Refused, unless_faulty, fault_of, first_fault}
use Rattle.names.specs.EventNames.{Rises, code_at, InOrder}

-- ---- rising ----

pub rises_so : (a b : Code) → rises_to a b ≡ true → Rises a b
unfolding rises_to
rises_so a b =
    either (λ (t : Bool). t ≡ true → Rises a b) (ltb a.spa b.spa) (λ f e. inl (ltb-true _ _ f))
    (λ f. either (λ (t : Bool). t ≡ true → Rises a b) (eqb a.spa b.spa) (λ g e. inr (eqb-true _ _ g, ltb-true _ _ e)) (λ g e. absurd (not_both refl e)))

pub so_rises : (a b : Code) → Rises a b → rises_to a b ≡ true
unfolding rises_to
so_rises a b (inl h) = rw (lt-ltb _ _ h)
so_rises a b (inr h) = rw (le-ltb a.spa b.spa (omega (arith, h.0)), eq-eqb _ _ h.0, lt-ltb _ _ h.1)

pub rises_on : (a b c : Code) → Rises a b → Rises b c → Rises a c
rises_on a b c (inl h) (inl k) = inl (omega arith)
rises_on a b c (inl h) (inr k) = inl (omega (arith, k.0))
rises_on a b c (inr h) (inl k) = inl (omega (arith, h.0))
rises_on a b c (inr h) (inr k) = inr (h.0 ∙ k.0, omega (arith, h.1, k.1))

pub not_itself : (a : Code) → Rises a a → ⊥
not_itself a (inl h) = omega arith
not_itself a (inr h) = omega (arith, h.1)

-- ---- an entry ----

-- what an entry without a fault has: all is there, the name's length, its place in the order
pub record Fine (number : ℕ) (before : Code) (e : List ℕ) : Type 0 where
  pub whole : size_of e ≤ length e
  pub some : 1 ≤ length_of e
  pub most : length_of e ≤ 40
  pub order : in_order number before (code_of e) ≡ true

module _ (number : ℕ) (before : Code) (e : List ℕ) where
  -- the refusals and what each is for; or none
  pub data Verdict : Option Fault → Type 0 where
    cut : length e < size_of e → Verdict (Some Cut)
    unnamed : size_of e ≤ length e → (length_of e ≡ 0) ⊎ (40 < length_of e) → Verdict (Some Name)
    unordered : size_of e ≤ length e → 1 ≤ length_of e → length_of e ≤ 40 → in_order number before (code_of e) ≡ false → Verdict (Some Order)
    passes : Fine number before e → Verdict None

  pub verdict : Verdict (fault_of number before e)
  unfolding fault_of
  verdict =
      either Verdict (ltb (length e) (size_of e)) (λ a. cut (ltb-true _ _ a))
      (λ a. let whole : size_of e ≤ length e = ltb-false _ _ a in
      either Verdict (eqb (length_of e) 0) (λ b. unnamed whole (inl (eqb-true _ _ b)))
      (λ b. let some : 1 ≤ length_of e = omega (arith, eqb-false (length_of e) 0 b) in
      either Verdict (ltb 40 (length_of e)) (λ c. unnamed whole (inr (ltb-true _ _ c)))
      (λ c. either Verdict (not (in_order number before (code_of e))) (λ d. unordered whole some (ltb-false _ _ c) (flipped _ _ d))
      (λ d. passes (record { whole = whole; some = some; most = ltb-false _ _ c; order = flipped _ _ d })))))

  pub so_fine : Fine number before e → fault_of number before e ≡ None
  unfolding fault_of
  so_fine f = rw (le-ltb (length e) (size_of e) f.whole, ne_eqb (length_of e) 0 (λ z. omega (arith, f.some)), le-ltb 40 (length_of e) f.most, f.order)

  fine_by : {fault : Option Fault} → Verdict fault → fault ≡ None → Fine number before e
  fine_by (cut h) q = absurd (some_none q)
  fine_by (unnamed h k) q = absurd (some_none q)
  fine_by (unordered h k l o) q = absurd (some_none q)
  fine_by (passes f) q = f

  pub fine : fault_of number before e ≡ None → Fine number before e
  fine = fine_by verdict

-- ---- entries ----

-- a refusal is not sound
pub not_sound : {fault : Fault} {entry : ℕ} → Refused fault entry ≡ Sound → ⊥
not_sound e = cc

-- entries that pass: the first is fine, and so are the others behind it
module _ (number : ℕ) (before : Code) (e : List ℕ) (es : List (List ℕ)) where
  pub sound_first : first_fault number before (e ∷ es) ≡ Sound → Fine number before e × (first_fault (number + 1) (code_of e) es ≡ Sound)
  unfolding first_fault
  sound_first = by_fault (fault_of number before e) refl
    where
      by_fault : (fault : Option Fault) → fault_of number before e ≡ fault → unless_faulty fault number (first_fault (number + 1) (code_of e) es) ≡ Sound
          → Fine number before e × (first_fault (number + 1) (code_of e) es ≡ Sound)
      by_fault None f q = (fine number before e f, q)
      by_fault (Some fault) f q = absurd (not_sound q)

  pub so_sound : Fine number before e → first_fault (number + 1) (code_of e) es ≡ Sound → first_fault number before (e ∷ es) ≡ Sound
  unfolding first_fault
  so_sound f q = rw (so_fine number before e f) q

-- behind another code the order is rising
behind : (number : ℕ) (before own : Code) → 1 < number → in_order number before own ≡ true → Rises before own
unfolding in_order
behind number before own h e = rises_so before own (rw (ne_eqb number 1 (λ z. omega arith)) at e)

so_behind : (number : ℕ) (before own : Code) → (1 < number → Rises before own) → 1 ≤ number → in_order number before own ≡ true
unfolding in_order
so_behind number before own r h = either (λ (t : Bool). t ≡ true) (eqb number 1) (λ f. refl) (λ f. so_rises before own (r (omega (arith, eqb-false number 1 f))))

-- all of them rise from the code before
all_rise : (number : ℕ) (before : Code) (es : List (List ℕ)) → 1 < number → first_fault number before es ≡ Sound
    → (n : ℕ) → n < length es → Rises before (code_at es n)
all_rise number before [] h q n k = absurd (omega arith)
all_rise number before (e ∷ es) h q zero k = behind number before (code_of e) h (sound_first number before e es q).0.order
all_rise number before (e ∷ es) h q (suc n) k =
    let p = sound_first number before e es q in
    rises_on before (code_of e) (code_at es n) (behind number before (code_of e) h p.0.order) (all_rise (number + 1) (code_of e) es (omega arith) p.1 n (omega arith))

pub any_rise : (number : ℕ) (before : Code) (es : List (List ℕ)) → 1 ≤ number → first_fault number before es ≡ Sound
    → (m n : ℕ) → m < n → n < length es → Rises (code_at es m) (code_at es n)
any_rise number before [] h q m n l k = absurd (omega arith)
any_rise number before (e ∷ es) h q m zero l k = absurd (omega arith)
any_rise number before (e ∷ es) h q zero (suc n) l k = all_rise (number + 1) (code_of e) es (omega arith) (sound_first number before e es q).1 n (omega arith)
any_rise number before (e ∷ es) h q (suc m) (suc n) l k = any_rise (number + 1) (code_of e) es (omega arith) (sound_first number before e es q).1 m n (omega arith) (omega arith)

pub each_fine : (number : ℕ) (before : Code) (es : List (List ℕ)) → first_fault number before es ≡ Sound
    → (n : ℕ) → n < length es → (size_of (get_or es n []) ≤ length (get_or es n [])) × (1 ≤ length_of (get_or es n [])) × (length_of (get_or es n []) ≤ 40)
each_fine number before [] q n k = absurd (omega arith)
each_fine number before (e ∷ es) q zero k = let f = (sound_first number before e es q).0 in (f.whole, f.some, f.most)
each_fine number before (e ∷ es) q (suc n) k = each_fine (number + 1) (code_of e) es (sound_first number before e es q).1 n (omega arith)

-- the first two of a list in order, and the rest
pub in_order_rest : (e : List ℕ) (es : List (List ℕ)) → InOrder (e ∷ es) → InOrder es
in_order_rest e es o = record {
  right = λ n h. o.right (suc n) (omega arith);
  rising = λ m n l h. o.rising (suc m) (suc n) (omega arith) (omega arith);
}

pub so_passes : (number : ℕ) (before : Code) (es : List (List ℕ)) → 1 ≤ number → InOrder es → (1 < number → 0 < length es → Rises before (code_at es 0))
    → first_fault number before es ≡ Sound
so_passes number before [] h o r = unfold first_fault in refl
so_passes number before (e ∷ es) h o r =
    let right = o.right 0 (omega arith) in
    so_sound number before e es
    (record {
      whole = omega (arith, right.whole);
      some = right.some;
      most = right.most;
      order = so_behind number before (code_of e) (λ l. r l (omega arith)) h;
    })
    (so_passes (number + 1) (code_of e) es (omega arith) (in_order_rest e es o) (λ l k. o.rising 0 1 (omega arith) (omega arith)))
