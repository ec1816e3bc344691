-- `is_shaped` answers whether a request has the shape that is listed.
-- By structure octet, octets and cause. Assumes nothing.
use Rattle.std.proofs.Common.{rules, arith, ◌≡◌, ◌%◌}
use Rattle.message.specs.Headers.{cause_of}
use Rattle.rules.proofs.is_shaped.Goals as goal

pub returns-then-request-row-2 : goal.returns-then-request-row-2
returns-then-request-row-2 c =
    let cause = c.args.request.header.cause in
    let six : cause % 64 ≡ cause_of cause = omega arith in
    search (rules, six)

pub returns-else-request-row-2 : goal.returns-else-request-row-2
returns-else-request-row-2 c = search rules
