-- `DateTime::minutes` answers the minutes of a real date and time.
-- By arithmetic; what is real is small enough. Assumes nothing.
use native.Mathlib.Omega.{arith}
use Rattle.label.specs.Calendar.{day_number}
use Rattle.label.specs.Time.{minutes}
use Rattle.label.proofs.Time.{room}
use Rattle.label.proofs.DateTime.minutes.Goals as goal

pub invariant_of-month : goal.invariant_of-month
invariant_of-month c = let h = room _ c.requires in omega arith

pub overflow_add-day : goal.overflow_add-day
overflow_add-day c = let h = room _ c.requires in omega arith

pub overflow_sub-day : goal.overflow_sub-day
overflow_sub-day c = let h = room _ c.requires in omega arith

pub overflow_mul-result : goal.overflow_mul-result
overflow_mul-result c = let h = room _ c.requires in omega arith

pub overflow_add-result : goal.overflow_add-result
overflow_add-result c = let h = room _ c.requires in omega arith

pub overflow_add-result-2 : goal.overflow_add-result-2
overflow_add-result-2 c = let h = room _ c.requires in omega arith

pub returns : goal.returns
unfolding minutes day_number
returns c = let h = room _ c.requires in omega arith
