-- `Standing::is_right` answers whether a record is right by itself.
-- By the kind of its key. Assumes nothing.
use borrow.Author.Rules.{rules}
use mathlib.Core.Path.{ap, sym, ◌∙◌}
use Rattle.octets.proofs.Choice.{told}
use Rattle.image.specs.working.Keys.{valid_dates}
use Rattle.image.proofs.Keys.{same_kind, right_2, right_3, right_4, right_5, right_other}
use Rattle.image.proofs.Standing.is_right.Goals as goal

pub returns-in-2 : goal.returns-in-2
returns-in-2 c = right_2 _ c.args.self.now.key c.args.self.now.own_key c.in-2.is

pub returns-in-3 : goal.returns-in-3
returns-in-3 c =
    let here = c.args.self.now in
    c.are_valid.ensures ∙ ap valid_dates c.dates_at.ensures ∙ right_3 _ _ here.whole (sym (same_kind _ _ here.own_key) ∙ c.in-3.is)

pub returns-then-is_reading_record : goal.returns-then-is_reading_record
returns-then-is_reading_record c =
    sym (sym (right_4 _ _ c.args.self.now.own_key c.in-4.is) ∙ rw (told c.is_reading_record.ensures c.if-is_reading_record.true, c.is_valid.ensures))

pub returns-else-is_reading_record : goal.returns-else-is_reading_record
returns-else-is_reading_record c =
    c.if-is_reading_record.false
    ∙ sym (sym (right_4 _ _ c.args.self.now.own_key c.in-4.is) ∙ rw (told c.is_reading_record.ensures c.if-is_reading_record.false))

pub returns-then-is_event_record : goal.returns-then-is_event_record
returns-then-is_event_record c =
    sym (sym (right_5 _ _ c.args.self.now.own_key c.in-5.is)
    ∙ rw (told c.is_event_record.ensures c.if-is_event_record.true, c.is_valid-then-is_event_record.ensures))

pub returns-else-is_event_record : goal.returns-else-is_event_record
returns-else-is_event_record c =
    c.if-is_event_record.false
    ∙ sym (sym (right_5 _ _ c.args.self.now.own_key c.in-5.is) ∙ rw (told c.is_event_record.ensures c.if-is_event_record.false))

pub returns-in_default : goal.returns-in_default
returns-in_default c = right_other _ c.args.self.now.key c.args.self.now.own_key (λ h. search rules) (λ h. search rules) (λ h. search rules) (λ h. search rules)
