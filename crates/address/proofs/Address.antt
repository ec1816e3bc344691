-- Addresses that are the same are equal, and none is other than itself.
-- By the number, which is all that an address holds. Assumes nothing.
use Prim.Native.Nat.{ℕ}
use mathlib.Core.Bool.{true}
use mathlib.Core.Path.{◌≡◌, refl, ap}
use borrow.Author.Tests.{eqb-true, eq-eqb}
use Rattle.address.specs.declared.LinkAddress.{LinkAddress}
use Rattle.address.specs.declared.PointAddress.{PointAddress}
use Rattle.address.specs.Address.{same_link, same_point}

pub same_link_law : (a b : LinkAddress) → same_link a b ≡ true → a ≡ b
same_link_law a b e = ap {B = LinkAddress} (λ (n : ℕ). record { 0 = n }) (eqb-true a.0 b.0 e)

pub link_same : (a : LinkAddress) → same_link a a ≡ true
link_same a = eq-eqb a.0 a.0 refl

pub same_point_law : (a b : PointAddress) → same_point a b ≡ true → a ≡ b
same_point_law a b e = ap {B = PointAddress} (λ (n : ℕ). record { 0 = n }) (eqb-true a.0 b.0 e)

pub point_same : (a : PointAddress) → same_point a a ≡ true
point_same a = eq-eqb a.0 a.0 refl
