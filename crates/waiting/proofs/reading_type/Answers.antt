-- `reading_type` answers the type of a reading by that of its request.
-- By the two types. Assumes nothing.
use Rattle.octets.proofs.Choice.{tests}
use Rattle.waiting.specs.NextReply.{reading_type}
use Rattle.waiting.proofs.reading_type.Goals as goal

pub returns-then-type_id-eq122 : goal.returns-then-type_id-eq122
unfolding reading_type
returns-then-type_id-eq122 c = search tests

pub returns-else-type_id-eq122 : goal.returns-else-type_id-eq122
unfolding reading_type
returns-else-type_id-eq122 c = search tests
