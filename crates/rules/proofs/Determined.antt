-- Every public contract of this crate leaves one outcome.
-- By its one equation. Assumes nothing.
use Rattle.octets.proofs.Outcome.{OneResult, one_outcome}
use Rattle.rules.proofs.Rule.cause.Reads as rule_cause
use Rattle.rules.proofs.Rule.pn.Reads as rule_pn
use Rattle.rules.proofs.Rule.deed.Reads as rule_deed
use Rattle.rules.proofs.span_of.Reads as Span-of
use Rattle.rules.proofs.decide.Reads as decide

rule_cause_one : OneResult rule_cause.Post
rule_cause_one κs a r r' s s' = one_outcome

rule_pn_one : OneResult rule_pn.Post
rule_pn_one κs a r r' s s' = one_outcome

rule_deed_one : OneResult rule_deed.Post
rule_deed_one κs a r r' s s' = one_outcome

span_of_one : OneResult Span-of.Post
span_of_one κs a r r' s s' = one_outcome

decide_one : OneResult decide.Post
decide_one κs a r r' s s' = one_outcome
