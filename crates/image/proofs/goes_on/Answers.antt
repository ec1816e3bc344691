-- `image::goes_on` answers whether a key is in order behind the last one, and its point known.
-- Part by part; the last one's point is known. Assumes nothing.
use mathlib.Core.Path.{◌∙◌}
use Rattle.octets.proofs.Choice.{told}
use Rattle.image.proofs.Runs.{by_point_law, not_by_point, by_address, by_labels}
use Rattle.image.proofs.goes_on.Goals as goal

pub returns-then-last-key : goal.returns-then-last-key
returns-then-last-key c = let p = c.requires in c.is_known.ensures ∙ by_point_law _ _ _ _ p.0 p.1 (told c.ne.ensures c.if-ne.true) c.if-last-key.true

pub returns-else-last-key : goal.returns-else-last-key
returns-else-last-key c = let p = c.requires in not_by_point _ _ _ _ p.0 p.1 (told c.ne.ensures c.if-ne.true) c.if-last-key.false

pub returns-then-last-key-2 : goal.returns-then-last-key-2
returns-then-last-key-2 c = let p = c.requires in by_address _ _ _ _ p.0 p.1 (told c.ne.ensures c.if-ne.false) c.if-last-key-2.true

pub returns-else-last-key-2 : goal.returns-else-last-key-2
returns-else-last-key-2 c = let p = c.requires in by_labels _ _ _ _ p.0 p.1 (told c.ne.ensures c.if-ne.false) c.if-last-key-2.false
