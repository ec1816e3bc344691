-- `next_reply` answers the next waiting reply.
-- By what waits. Assumes nothing.
use Rattle.waiting.proofs.NextReply.{given_fits}
use Rattle.waiting.specs.NextReply.{next_of}
use borrow.Author.Rules.{rules}
use Rattle.waiting.proofs.next_reply.Goals as goal

pub after_data-requires : goal.after_data-requires
after_data-requires c = given_fits _ _ _ (search rules) (search rules) c.data_from.ensures

pub returns-in-Denied : goal.returns-in-Denied
unfolding next_of
returns-in-Denied c = rw c.in-Denied.is c.mirror_with-in-Denied.ensures
