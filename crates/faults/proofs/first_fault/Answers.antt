-- `first_fault` answers the first fault of an image's records, or of their end.
-- The loop's invariant: the first fault from here on, given the records passed, is the first. Assumes nothing.
use mathlib.Core.Path.{ap, sym, ◌∙◌}
use native.Mathlib.Omega.{arith}
use Rattle.octets.proofs.Choice.{told}
use Rattle.records.proofs.Records.{after_later, after_within}
use Rattle.faults.specs.declared.Walk.{Walk}
use Rattle.faults.proofs.Walking.{begins, stands_further, found_there, end_there}
use Rattle.faults.specs.working.Walking.{further}
use Rattle.faults.proofs.first_fault.Goals as goal

pub loop-rule-init : goal.loop-rule-init
loop-rule-init c = begins _

pub loop-rule-smaller : goal.loop-rule-smaller
unfolding further
loop-rule-smaller c =
    let whole = told c.is_whole.ensures c.loop-rule-test.true in
    omega (arith, ap (λ (walk : Walk). walk.at) c.further-walk.ensures, after_later _ _ whole, after_within _ _ whole)

pub loop-rule-preserved : goal.loop-rule-preserved
loop-rule-preserved c =
    let i = c.loop-rule.invariant in
    rw c.further-walk.ensures
    (stands_further _ _ _ i.stage (told c.is_whole.ensures c.loop-rule-test.true) i.decides
    (sym (c.rule_there.ensures i.before i.stage) ∙ c.in_default.is))

pub returns-in-Some : goal.returns-in-Some
returns-in-Some c =
    let i = c.loop-rule.invariant in
    rw c.fault.ensures
    (found_there _ _ _ i.stage (told c.is_whole.ensures c.loop-rule-test.true) i.decides _ (sym c.in-Some.is ∙ c.rule_there.ensures i.before i.stage))

pub returns : goal.returns
returns c =
    let i = c.loop-rule.invariant in
    c.at_end.ensures i.before i.stage ∙ end_there _ _ _ i.stage (told c.is_whole.ensures c.loop-rule-test.false) i.decides
