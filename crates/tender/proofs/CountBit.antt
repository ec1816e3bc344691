-- Answered user data or collection leaves its FCB the last.
-- By what the link leaves. Assumes nothing.
use mathlib.Core.Path.{sym}
use lib.ListN.{length}
use Rattle.profile.specs.declared.Profile.{Profile}
use Rattle.link.specs.Answering.{answered}
use Rattle.link.proofs.Answering.{answered_noted}
use Rattle.card.specs.State.{left_with}
use Rattle.card.specs.Gap.{replied_by}
use Rattle.card.proofs.Gap.{answer_0, answer_replied, gap_heard, gap_0}
use Rattle.tender.specs.Card.{our_card}
use Rattle.tender.specs.Condition2.{CountBit}

pub count_bit : (p : Profile) → CountBit (our_card p)
unfolding replied_by left_with
count_bit p card loan service user bit heard counts zero =
    let a = answered card.link service user loan.image loan.clock in
    let lent = gap_0 card loan.image loan.clock (length loan.buffer) zero in
    let gap = gap_heard card loan.image loan.clock (length loan.buffer) lent.0 lent.1 heard in
    let some = answer_0 card a (rw gap at zero) in
    rw (gap, answer_replied card a some) (sym (answered_noted card.link user loan.image loan.clock counts some).last)
