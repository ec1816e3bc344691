-- Two addresses of one kind are the same when their numbers are.
-- Assumes nothing.
use Rattle.std.specs.Prelude.{Bool, eqb}
use Rattle.address.specs.declared.LinkAddress.{LinkAddress}
use Rattle.address.specs.declared.PointAddress.{PointAddress}

abbrev pub same_link : LinkAddress → LinkAddress → Bool
same_link a b = eqb a.0 b.0

abbrev pub same_point : PointAddress → PointAddress → Bool
same_point a b = eqb a.0 b.0
