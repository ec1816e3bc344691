-- A mirror differs from the request in the cause octet only, and there it keeps T.
-- By the kit's laws of `set`. Assumes nothing.
use Prim.Native.Nat.{ℕ, ◌<◌}
use mathlib.Core.List.{List}
use mathlib.Core.Path.{◌≡◌}
use lib.ListN.{length, get_or, length-set}
use lib.Seq.{get_or-set_same, get_or-set_other, take-set-lt, get_or-take}
use Rattle.octets.specs.declared.Kept.{Kept}
use Rattle.octets.specs.Keeping.{octets_of}
use Rattle.message.specs.Headers.{t_of, cause_octet}
use Rattle.message.specs.Mirror.{mirror, mirror_of}

module _ (request : List ℕ) (pn cause : ℕ) where
  pub mirror_length : length (mirror request pn cause) ≡ length request
  unfolding mirror
  mirror_length = length-set request 2 _

  pub mirror_elsewhere : (i : ℕ) → (i ≡ 2 → ⊥) → get_or (mirror request pn cause) i 0 ≡ get_or request i 0
  unfolding mirror
  mirror_elsewhere i other = get_or-set_other request 2 i _ 0 other

  pub mirror_cause : 2 < length request → get_or (mirror request pn cause) 2 0 ≡ cause_octet (t_of (get_or request 2 0)) pn cause
  unfolding mirror
  mirror_cause room = get_or-set_same request 2 _ 0 room

-- the octets of a mirror that is kept
pub mirror_octets : (request : Kept) (pn cause : ℕ) → 2 < request.length → octets_of (mirror_of request pn cause) ≡ mirror (octets_of request) pn cause
unfolding octets_of mirror_of mirror
mirror_octets request pn cause room =
    rw (get_or-take request.length request.octets 2 0 room) (take-set-lt request.length request.octets 2 _ room)
