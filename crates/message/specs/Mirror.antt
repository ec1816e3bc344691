-- A mirror is the request's octets with another cause and P/N; T is kept.
-- Assumes nothing.
use Rattle.std.specs.Prelude.{ℕ, Bool, true, false, List, get_or, set}
use Rattle.octets.specs.declared.Kept.{Kept}
use Rattle.message.specs.Headers.{t_of, cause_octet}

unfoldable pub mirror : List ℕ → ℕ → ℕ → List ℕ
mirror request pn cause = set request 2 (cause_octet (t_of (get_or request 2 0)) pn cause)

-- P/N 1 says no
abbrev pub pn_bit : Bool → ℕ
pn_bit true = 1
pn_bit false = 0

-- of a request that is kept
unfoldable pub mirror_of : Kept → ℕ → ℕ → Kept
mirror_of request pn cause = record { octets = mirror request.octets pn cause; length = request.length }
