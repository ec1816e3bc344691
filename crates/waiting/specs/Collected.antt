-- What the centre collects, message after message, when every gap is lent the same image; and records in groups.
-- Assumes nothing.
use Rattle.std.specs.Prelude.{ℕ, zero, suc, List, [], ◌∷◌, length, take, drop}
use Rattle.octets.specs.Choice.{when◌then◌else◌}
use Rattle.choice.specs.declared.Span.{Span}
use Rattle.octets.specs.declared.Kept.{Kept}
use Rattle.octets.specs.Keeping.{kept_of}
use Rattle.message.specs.declared.ObjectRange.{ObjectRange}
use Rattle.data.specs.Messages.{reading_reply, events_reply}
use Rattle.deeds.specs.declared.Pending.{Pending}
use Rattle.waiting.specs.NextReply.{next_of, is_given, message_in}

-- the messages that so many collections give; the list ends where nothing waits
unfoldable pub messages_collected : ℕ → Pending → List ℕ → List Kept
messages_collected zero pending image = []
messages_collected (suc turns) pending image =
    let next = next_of pending image in
    when is_given next then message_in next ∷ messages_collected turns next.pending image else []

-- so many groups at most: the first `size` records, then the next, until none is left
unfoldable pub groups_of : ℕ → ℕ → List (List ℕ) → List (List (List ℕ))
groups_of zero size rs = []
groups_of (suc most) size [] = []
groups_of (suc most) size (r ∷ rs) = take size (r ∷ rs) ∷ groups_of most size (drop size (r ∷ rs))

-- all of them: there are no more groups than records
unfoldable pub in_groups : ℕ → List (List ℕ) → List (List (List ℕ))
in_groups size rs = groups_of (length rs) size rs

-- type 1 of some events; type 8 or 11 of a reading's objects
unfoldable pub events_message : Span → List (List ℕ) → Kept
events_message span rs = kept_of (events_reply span.point span.record_address rs)

unfoldable pub reading_message : ℕ → Span → ObjectRange → List ℕ → Kept
reading_message type span objects r = kept_of (reading_reply type span.point span.record_address objects r)
