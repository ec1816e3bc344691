-- `fields::point_of` answers the first point with an address, its number and its password.
-- The iterator yields the points in turn; the first with the address is found. Assumes nothing.
use Rattle.std.proofs.Common.{rules, tests, ℕ, refl, ap, ◌∙◌, arith, length, inl}
use Rattle.std.proofs.lemmas.Iterator.Consumers.{YieldsList-from_first, YieldsList-from_enumerate}
use Rattle.std.proofs.lemmas.Iterator.Search.{find_from_yields_List}
use lib.Dec.{eqb}
use Rattle.address.specs.declared.PointAddress.{PointAddress}
use Rattle.fields.specs.declared.PointsFrom.{PointsFrom}
use Rattle.fields.specs.working.Standing.{entries_from}
use Rattle.fields.proofs.Answers.{few_entries, found_point}
use Rattle.fields.proofs.point_of.Goals as goal

pub find-requires-clause-can : goal.find-requires-clause-can
find-requires-clause-can c = (tt, tt, inl (omega (arith, ap length c.points_of.ensures.0, few_entries c.points_of.result.image.now c.points_of.result.at)))

pub returns-in_err-passed : goal.returns-in_err-passed
returns-in_err-passed c =
    let left = λ (s : PointsFrom). entries_from s.image.now s.at in
    let e =
    find_from_yields_List (λ (p : ℕ × (PointAddress × ℕ)). eqb p.1.0.0 c.args.address.0) c.find.new.self _ c.find.result c.find.ensures.ran
    (YieldsList-from_enumerate (YieldsList-from_first (λ x. x) left _ (rw (c.enumerate.ensures.source, c.points_of.ensures.0) refl)) c.enumerate.ensures.count) (λ x b q k. search (rules, tests)) in
    let found = found_point c.args.address c.args.image.now c.points_of.result.at c.find.result c.points_of.ensures.1 e in
    c.from_residual.ensures ∙ (rw (c.in_err-passed.was) at found)

pub returns : goal.returns
returns c =
    let left = λ (s : PointsFrom). entries_from s.image.now s.at in
    let e =
    find_from_yields_List (λ (p : ℕ × (PointAddress × ℕ)). eqb p.1.0.0 c.args.address.0) c.find.new.self _ c.find.result c.find.ensures.ran
    (YieldsList-from_enumerate (YieldsList-from_first (λ x. x) left _ (rw (c.enumerate.ensures.source, c.points_of.ensures.0) refl)) c.enumerate.ensures.count) (λ x b q k. search (rules, tests)) in
    let found = found_point c.args.address c.args.image.now c.points_of.result.at c.find.result c.points_of.ensures.1 e in
    rw (c.in_ok-passed.was) at found
