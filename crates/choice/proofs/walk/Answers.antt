-- `choice::walk` answers the place of the n-th chosen among the records from a place on.
-- The chain's items are the places of all records at which a chosen key stands. Assumes nothing.
use Rattle.std.proofs.Common.{rules, tests}
use mathlib.Core.Path.{ap, ◌∙◌}
use Rattle.std.proofs.lemmas.Iterator.Consumers.{nth_from_yields_List, YieldsList-from_filter, YieldsList-from_first}
use Rattle.fields.specs.working.Key.{key_at}
use Rattle.records.specs.declared.PlacesFrom.{PlacesFrom}
use Rattle.records.specs.Said.{places_behind}
use Rattle.choice.specs.working.Keys.{key_chosen}
use Rattle.choice.proofs.Chosen.{nth_filtered, as_got}
use Rattle.choice.proofs.walk.Goals as goal

pub returns : goal.returns
returns c =
    let places = λ (s : PlacesFrom). places_behind s.octets.now s.at in
    as_got c.nth.result
    ∙ nth_from_yields_List c.nth.result c.nth.new.self c.args.n c.nth.ensures.ran
    (YieldsList-from_filter _ (λ p. key_chosen c.args.query (key_at c.args.image.now p))
    (YieldsList-from_first (λ x. x) places _ (ap places c.filter.ensures.source)) c.filter.ensures.closure (λ x r q k. search (rules, tests)))
    ∙ nth_filtered c.args.query c.args.image.now c.args.from c.args.n
