-- What this crate's own calls answer, as the paper's number. The card's definition does without it.
-- Assumes nothing.
use Rattle.std.specs.Prelude.{ℕ, []}
use Rattle.octets.specs.Answer.{Answer}
use Rattle.deeds.specs.declared.Order.{Order}
use Rattle.deeds.specs.declared.Order.TheVariants.{NoOrder, SetClock, SetDates}

-- an order has no number on paper but that of its time octets, which tells the three apart
abbrev pub time_octets : Order → ℕ
time_octets NoOrder = 0
time_octets SetClock = 7
time_octets SetDates = 10

abbrev pub order_says : Order → Answer
order_says order = record { number = time_octets order; values = [] }
