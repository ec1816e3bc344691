-- `value_at` answers the value and quality of an object of the reading at a place.
-- By the record that is cut out there and the object's number. Assumes nothing.
use Rattle.std.proofs.Common.{rules}
use Rattle.records.specs.Records.{length_of}
use Rattle.fields.specs.Calls.{value_found}
use Rattle.fields.specs.Parts.{value_of, quality_of}
use Rattle.fields.proofs.value_at.Goals as goal

pub returns : goal.returns
unfolding length_of value_found value_of quality_of
returns c = search rules
