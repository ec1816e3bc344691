-- What `==` of two addresses does not allow: two wrong outcomes of each.
-- By the test of the two numbers, for all addresses. Assumes nothing.
use Rattle.std.proofs.Common.{◌≡◌, true, false, refl, Bor}
use contract.Lifetimes.{Lfts}
use borrow.Author.Tests.{eq-eqb, ne_eqb}
use Rattle.octets.proofs.Outcome.{RuledOut, Place, never}
use Rattle.address.specs.declared.LinkAddress.{LinkAddress}
use Rattle.address.specs.declared.PointAddress.{PointAddress}
use Rattle.address.proofs.LinkAddressPartialEq.eq.Reads as link_eq
use Rattle.address.proofs.PointAddressPartialEq.eq.Reads as point_eq

-- lent values, wherever they lie
abbrev lent_one : {A : Type 0} → Place → A → Bor A
lent_one x a = record { ref_ptr = x.0; now = a }

module _ (κs : Lfts 2) (x y : Place) where
  -- two link addresses that differ called the same
  link_eq_any : (a b : LinkAddress) → (a.0 ≡ b.0 → ⊥) → RuledOut (link_eq.Post κs) (lent_one x a, (lent_one y b, tt)) true
  link_eq_any a b n s p = never (cc (ne_eqb a.0 b.0 n))

  -- a link address that is not the same as itself
  link_eq_other : (a : LinkAddress) → RuledOut (link_eq.Post κs) (lent_one x a, (lent_one y a, tt)) false
  link_eq_other a s p = never (cc (eq-eqb a.0 a.0 refl))

  -- two metering points with different addresses called the same
  point_eq_any : (a b : PointAddress) → (a.0 ≡ b.0 → ⊥) → RuledOut (point_eq.Post κs) (lent_one x a, (lent_one y b, tt)) true
  point_eq_any a b n s p = never (cc (ne_eqb a.0 b.0 n))

  -- a metering point address that is not the same as itself
  point_eq_other : (a : PointAddress) → RuledOut (point_eq.Post κs) (lent_one x a, (lent_one y a, tt)) false
  point_eq_other a s p = never (cc (eq-eqb a.0 a.0 refl))
