-- `reading` answers the message of the reading after those given already, with the objects that are asked for.
-- By whether they are offered and whether a reading is found. Assumes nothing.
use mathlib.Core.Path.{sym, ◌∙◌}
use Rattle.data.proofs.Portions.{not_offered, no_reading, some_reading, reading_found}
use Rattle.data.proofs.reading.Goals as goal

pub returns-in_default : goal.returns-in_default
returns-in_default c = no_reading _ _ _ _ _ (sym c.are_offered.ensures ∙ c.if-not-are_offered.false) c.find.ensures c.in_default.is c.none-in_default.ensures

pub reading_at-requires : goal.reading_at-requires
reading_at-requires c = record {
  at_value = reading_found _ _ _ _ (sym c.find.ensures ∙ c.in-Some.is);
  objects_value = sym c.are_offered.ensures ∙ c.if-not-are_offered.false;
}

pub returns : goal.returns
returns c = some_reading _ _ _ _ _ (sym c.are_offered.ensures ∙ c.if-not-are_offered.false) c.find.ensures _ c.in-Some.is c.reading_at.ensures

pub returns-then-not-are_offered : goal.returns-then-not-are_offered
returns-then-not-are_offered c = not_offered _ _ _ _ _ (sym c.are_offered.ensures ∙ c.if-not-are_offered.true) c.none.ensures
