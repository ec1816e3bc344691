-- `rule_there` answers the rule that the record where the walk stands breaks.
-- The first record's kind, then each by itself, then by what stands before it. Assumes nothing.
use Rattle.std.specs.Prelude.{Some, None}
use mathlib.Core.Path.{refl, sym, ◌∙◌}
use Rattle.octets.proofs.Choice.{told}
use Rattle.fields.proofs.Parts.{key_whole}
use Rattle.faults.proofs.Walking.{rule_head, rule_rest}
use Rattle.faults.proofs.rule_there.Goals as goal

pub own_rule-requires : goal.own_rule-requires
own_rule-requires c = (c.requires, c.key_at-key.ensures ∙ key_whole _ _ c.requires)

pub place_rule-requires : goal.place_rule-requires
place_rule-requires c = (c.requires, c.key_at-key.ensures ∙ key_whole _ _ c.requires)

pub returns-then-lacks_head : goal.returns-then-lacks_head
returns-then-lacks_head c = λ before s. rule_head _ before _ s c.requires _ (c.key_at-key.ensures ∙ key_whole _ _ c.requires) (told c.lacks_head.ensures c.if-lacks_head.true)

pub returns-in-Some : goal.returns-in-Some
returns-in-Some c = λ before s.
    rule_rest _ before _ s c.requires _ (c.key_at-key.ensures ∙ key_whole _ _ c.requires) (told c.lacks_head.ensures c.if-lacks_head.false) (Some c.in-Some.rule) _
    (sym c.in-Some.is ∙ c.own_rule.ensures) refl

pub returns-in-None : goal.returns-in-None
returns-in-None c = λ before s.
    rule_rest _ before _ s c.requires _ (c.key_at-key.ensures ∙ key_whole _ _ c.requires) (told c.lacks_head.ensures c.if-lacks_head.false) None _
    (sym c.in-None.is ∙ c.own_rule.ensures) (c.place_rule.ensures before s)
