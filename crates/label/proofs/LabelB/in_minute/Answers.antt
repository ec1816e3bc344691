-- `LabelB::in_minute` answers the milliseconds since the minute began.
-- By arithmetic; ten and six bits are small enough. Assumes nothing.
use native.Mathlib.Omega.{arith}
use Rattle.label.specs.Label.{in_minute}
use Rattle.label.proofs.Label.{second_small, millisecond_small}
use Rattle.label.proofs.LabelB.in_minute.Goals as goal

pub overflow_mul-result : goal.overflow_mul-result
overflow_mul-result c =
    let self = c.args.self in
    omega (arith, second_small self)

pub overflow_add-result : goal.overflow_add-result
overflow_add-result c =
    let self = c.args.self in
    omega (arith, second_small self, millisecond_small self)

pub returns : goal.returns
unfolding in_minute
returns c = omega arith
