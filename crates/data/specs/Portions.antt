-- What is given next of the chosen records that are left: one reading, or up to 27 events, and how many these are.
-- Assumes nothing.
use Rattle.std.specs.Prelude.{ℕ, List, [], ◌∷◌, length, take, drop}
use Rattle.octets.specs.Choice.{when◌then◌else◌}
use Rattle.choice.specs.declared.Span.{Span}
use Rattle.choice.specs.declared.Query.TheVariants.{Reading, Event}
use Rattle.choice.specs.Choice.{choice}
use Rattle.octets.specs.Keeping.{kept_of}
use Rattle.message.specs.declared.ObjectRange.{ObjectRange}
use Rattle.message.specs.Requests.{objects_offered}
use Rattle.data.specs.declared.Portion.{Portion}
use Rattle.data.specs.Messages.{reading_reply, events_reply}

unfoldable pub portion : List ℕ → ℕ → Portion
portion octets many = record { message = kept_of octets; many = many }

-- one reading each; none, and no octets, when none is left
unfoldable pub reading_portion : ℕ → Span → ObjectRange → List (List ℕ) → Portion
reading_portion type span objects [] = portion [] 0
reading_portion type span objects (r ∷ rs) = portion (reading_reply type span.point span.record_address objects r) 1

-- type 1: up to 27 events, as few messages as that allows
unfoldable pub events_portion : Span → List (List ℕ) → Portion
events_portion span [] = portion [] 0
events_portion span (r ∷ rs) =
    let now = take 27 (r ∷ rs) in
    portion (events_reply span.point span.record_address now) (length now)

-- so many of the chosen are given already; of objects that are not offered, which no accepted request asks for, nothing is given
unfoldable pub next_reading : ℕ → Span → ObjectRange → List ℕ → ℕ → Portion
next_reading type span objects image before =
    when objects_offered objects then reading_portion type span objects (drop before (choice (Reading span) image)) else portion [] 0

unfoldable pub next_events : Span → List ℕ → ℕ → Portion
next_events span image before = events_portion span (drop before (choice (Event span) image))
