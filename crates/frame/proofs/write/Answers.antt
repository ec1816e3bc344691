-- `write` writes a reply into the first octets of the buffer, or leaves a short buffer as it was.
-- By whether the longest frame has room. Assumes nothing.
use Rattle.frame.proofs.Writing.{short_refused, answer_whole, laid_whole}
use Rattle.frame.proofs.write.Goals as goal

pub returns-in_default : goal.returns-in_default
returns-in_default c = short_refused _ _ c.in_default.ensures.cases

pub returns : goal.returns
returns c = answer_whole _ _ c.in-Some.ensures.cases.enough (laid_whole _ _ _ c.in-Some.ensures.cases c.write_into.ensures.whole c.write_into.ensures.stands)
