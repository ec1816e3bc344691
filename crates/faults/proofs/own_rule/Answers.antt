-- `own_rule` answers the rule that the record at a place breaks by itself.
-- By the kind of its key. Assumes nothing.
use borrow.Author.Rules.{rules}
use mathlib.Core.Path.{refl, ap, ◌∙◌}
use Rattle.faults.specs.working.Walking.{dates_rule}
use Rattle.faults.proofs.Parts.{own_point, own_dates, own_reading, own_event, own_other}
use Rattle.faults.proofs.own_rule.Goals as goal

pub returns-in-2 : goal.returns-in-2
returns-in-2 c = c.unless.ensures ∙ own_point _ _ c.requires.1 c.in-2.is

pub returns-in-3 : goal.returns-in-3
returns-in-3 c = c.dates_rule.ensures ∙ ap dates_rule c.dates_at.ensures ∙ own_dates _ _ c.requires.1 _ _ c.requires.0 refl c.in-3.is

pub returns-in-4 : goal.returns-in-4
returns-in-4 c =
    c.or.ensures ∙ rw (c.unless-in-4.ensures, c.unless-in-4-2.ensures, c.is_reading_record.ensures, c.is_valid.ensures)
    (own_reading _ _ c.requires.1 c.in-4.is)

pub returns-in-5 : goal.returns-in-5
returns-in-5 c =
    c.or-in-5.ensures ∙ rw (c.unless-in-5.ensures, c.unless-in-5-2.ensures, c.is_event_record.ensures, c.is_valid-in-5.ensures)
    (own_event _ _ c.requires.1 c.in-5.is)

pub returns-in_default : goal.returns-in_default
returns-in_default c = own_other _ _ c.requires.1 (λ h. search rules) (λ h. search rules) (λ h. search rules) (λ h. search rules)
