-- `Head::put_decimal` puts the figures of a number behind what stands.
-- What the kit writes of a number are its figures, 20 at most. Assumes nothing.
use Rattle.std.proofs.Common.{◌≡◌, ◌∙◌, arith}
use Rattle.printing.specs.Text.{decimal}
use Rattle.printing.proofs.Text.{decimal_length, digits_decimal}
use Rattle.printing.proofs.Head.put_decimal.Goals as goal

pub returns : goal.returns
returns c = λ room.
    let figures : c.as_bytes.result.now ≡ decimal c.args.n = c.as_bytes.ensures.value ∙ c.format.ensures.text ∙ digits_decimal c.args.n (omega arith) in
    rw figures at c.put.ensures (omega (arith, room, decimal_length c.args.n))
