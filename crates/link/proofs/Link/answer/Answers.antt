-- `answer` answers a frame that is for this card.
-- By its service; what counts by what it does afresh. Assumes nothing.
use Rattle.std.proofs.Common.{rules}
use Rattle.link.specs.Answering.{answered, user_data, collection}
use Rattle.link.proofs.Answering.{is_counted}
use Rattle.link.proofs.Link.answer.Goals as goal

pub returns-in-UserData : goal.returns-in-UserData
unfolding answered
returns-in-UserData c =
    rw (← c.identity_of.ensures, ← c.link_in-address.ensures, c.in-UserData.is)
    (is_counted c.in-UserData.bit c.args.self (user_data c.link_in-address.result c.in-UserData.bit c.args.self c.args.user c.args.image.now c.args.clock) c.counted.ensures (λ x a. search rules))

pub returns-in-Collection : goal.returns-in-Collection
unfolding answered
returns-in-Collection c =
    rw (← c.identity_of.ensures, ← c.link_in-address.ensures, c.in-Collection.is)
    (is_counted c.in-Collection.bit c.args.self (collection c.link_in-address.result c.in-Collection.bit c.args.self c.args.image.now) c.counted-in-Collection.ensures (λ x a. search rules))
