-- Every case of document 01 that is marked P is as it is written there, in both profiles.
-- By computation. Assumes nothing.
use mathlib.Core.List.{map}
use mathlib.Core.Path.{◌≡◌, refl}
use Rattle.profile.specs.declared.Profile.{Profile}
use Rattle.profile.specs.declared.Profile.TheVariants.{Ten, Eleven}
use Rattle.tender.specs.Cases.{cases, said_of, written_of}
use Rattle.tender.proofs.Worked.{everything}

pub as_written : (p : Profile) → map (said_of p) cases ≡ map written_of cases
unfolding everything
as_written Ten = refl
as_written Eleven = refl
