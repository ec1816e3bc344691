-- `with_decimal` keeps the figures of a number behind a text.
-- What the kit writes of a number are its figures. Assumes nothing.
use Rattle.std.proofs.Common.{◌≡◌, ◌∙◌, arith}
use Rattle.printing.specs.Text.{decimal}
use Rattle.printing.proofs.Text.{digits_decimal}
use Rattle.printing.proofs.with_decimal.Goals as goal

pub returns : goal.returns
returns c =
    let figures : c.as_bytes.result.now ≡ decimal c.args.n = c.as_bytes.ensures.value ∙ c.format.ensures.text ∙ digits_decimal c.args.n (omega arith) in
    rw figures at c.with.ensures
