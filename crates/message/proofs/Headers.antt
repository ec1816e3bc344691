-- The header written and read are inverses, and the cause octet's parts are read back.
-- Octet by octet. Assumes nothing.
use Prim.Native.Nat.{ℕ, zero, suc, ◌≤◌, ◌<◌}
use mathlib.Core.List.{List, [], ◌∷◌}
use mathlib.Core.Path.{◌≡◌, refl, sym, ap}
use native.Mathlib.Omega.{arith}
use lib.ListN.{length, get_or, take}
use Rattle.octets.specs.Numbers.{low_octets}
use Rattle.octets.proofs.Lists.{part_at}
use Rattle.octets.proofs.Numbers.{Octets, low_number, low_octets_law}
use Rattle.message.specs.declared.Header.{Header}
use Rattle.message.specs.Headers.{t_of, pn_of, cause_of, cause_octet, header_of, header_octets}

pub header_back : (h : Header) → h.point.0 < 65536 → header_of (header_octets h) ≡ h
unfolding header_of header_octets low_octets
header_back h small =
    ap {B = Header}
    (λ (n : ℕ). record { type_id = h.type_id; structure = h.structure; cause = h.cause; point = record { 0 = n }; record_address = h.record_address })
    (low_number 2 h.point.0 small)

pub header_again : (m : List ℕ) → Octets m → 6 ≤ length m → header_octets (header_of m) ≡ take 6 m
unfolding header_of header_octets
header_again m octets room =
    rw (low_octets_law 2 (get_or m 3 0 ∷ get_or m 4 0 ∷ []) refl (pair (octets 3) (octets 4))) (sym (part_at 6 m 0 (omega arith)))
  where
    pair : {x y : ℕ} → x < 256 → y < 256 → Octets (x ∷ y ∷ [])
    pair a b zero = a
    pair a b (suc zero) = b
    pair a b (suc (suc i)) = omega arith

-- of a cause octet
module _ (t pn cause : ℕ) (t_bit : t < 2) (pn-bit : pn < 2) (small : cause < 64) where
  pub t_back : t_of (cause_octet t pn cause) ≡ t
  t_back = omega arith

  pub pn_back : pn_of (cause_octet t pn cause) ≡ pn
  pn_back = omega arith

  pub cause_back : cause_of (cause_octet t pn cause) ≡ cause
  cause_back = omega arith
