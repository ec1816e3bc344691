-- `fields::points` answers how many points stand behind the first record.
-- The iterator yields them all, and there are no more than octets. Assumes nothing.
use Rattle.std.proofs.Common.{refl, ap, ◌∙◌, arith, length, inl}
use Rattle.std.proofs.lemmas.Iterator.Consumers.{count_from_yields_List, YieldsList-from_first}
use Rattle.std.proofs.lemmas.List.{length-map}
use Rattle.fields.specs.Answers.{points_of, points_from}
use Rattle.fields.specs.declared.PointsFrom.{PointsFrom}
use Rattle.fields.specs.working.Standing.{entry, entries_from}
use Rattle.fields.proofs.Answers.{few_entries}
use Rattle.fields.proofs.points.Goals as goal

pub count-requires-clause-fits : goal.count-requires-clause-fits
count-requires-clause-fits c = inl (omega (arith, ap length c.points_of.ensures.0, few_entries c.points_of.result.image.now c.points_of.result.at))

pub returns : goal.returns
unfolding points_of
returns c =
    let left = λ (s : PointsFrom). entries_from s.image.now s.at in
    count_from_yields_List _ _ c.count.ensures.ran (YieldsList-from_first (λ x. x) left _ refl)
    ∙ rw (c.points_of.ensures.0, c.points_of.ensures.1) (length-map (points_from _ _) entry)
