-- `gathered` answers up to 27 events' octets, and how many events these are.
-- The loop's invariant: so many of those left are gathered, and the next is found. Assumes nothing.
use mathlib.Core.Path.{◌≡◌, refl, sym, ◌∙◌}
use borrow.Author.Rules.{rules}
use Rattle.data.proofs.Portions.{event_found_law, none_yet, one_more, none_left, as_many_as_fit}
use Rattle.data.proofs.gathered.Goals as goal

pub loop-many-init : goal.loop-many-init
loop-many-init c = none_yet _ _ _ c.new-message.ensures c.find-found.ensures

pub returns-in_default : goal.returns-in_default
returns-in_default c =
    let l = c.loop-many in
    none_left _ _ _ _ (search rules) l.invariant c.in_default.is

pub event_octets-requires : goal.event_octets-requires
event_octets-requires c = event_found_law _ _ _ _ (sym c.loop-many.invariant.next ∙ c.in-Some.is)

pub loop-many-preserved : goal.loop-many-preserved
loop-many-preserved c =
    let l = c.loop-many in
    one_more _ _ _ _ _ (search rules) l.invariant c.in-Some.is c.with-message.ensures c.event_octets.ensures c.after.ensures c.next-found.ensures

pub returns : goal.returns
returns c =
    let l = c.loop-many in
    let full : l.many ≡ 27 = search rules in
    as_many_as_fit _ _ _ 27 refl (rw full at l.invariant)
