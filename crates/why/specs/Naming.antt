-- The rules' own names: document 01's order, "First that applies", and a word for each condition there; structure octet, octets and cause together are "shape".
-- Assumes nothing.
use Rattle.std.specs.Prelude.{ℕ, List, [], ◌∷◌}
use Rattle.rules.specs.declared.Rule.{Rule}
use Rattle.rules.specs.declared.Rule.TheVariants.{Marked, UnknownType, NoSession, UnknownPoint, OtherSession, Shape, Address, Objects, ReadingLabel, ReadingRange, NoReading, EventLabel, EventRange, NoEvent, ClockUnset, NoDates, TimeLabel, WrongPassword, Accepted}

-- a rule's place in that order, from 1 on, and its word in letters of ASCII; an accepted message is named so
abbrev pub naming : Rule → ℕ × List ℕ
-- marked
naming Marked = (1, 109 ∷ 97 ∷ 114 ∷ 107 ∷ 101 ∷ 100 ∷ [])
-- type
naming UnknownType = (2, 116 ∷ 121 ∷ 112 ∷ 101 ∷ [])
-- session
naming NoSession = (3, 115 ∷ 101 ∷ 115 ∷ 115 ∷ 105 ∷ 111 ∷ 110 ∷ [])
-- point
naming UnknownPoint = (4, 112 ∷ 111 ∷ 105 ∷ 110 ∷ 116 ∷ [])
-- other
naming OtherSession = (5, 111 ∷ 116 ∷ 104 ∷ 101 ∷ 114 ∷ [])
-- shape
naming Shape = (6, 115 ∷ 104 ∷ 97 ∷ 112 ∷ 101 ∷ [])
-- record
naming Address = (7, 114 ∷ 101 ∷ 99 ∷ 111 ∷ 114 ∷ 100 ∷ [])
-- objects
naming Objects = (8, 111 ∷ 98 ∷ 106 ∷ 101 ∷ 99 ∷ 116 ∷ 115 ∷ [])
-- reading-label
naming ReadingLabel = (9, 114 ∷ 101 ∷ 97 ∷ 100 ∷ 105 ∷ 110 ∷ 103 ∷ 45 ∷ 108 ∷ 97 ∷ 98 ∷ 101 ∷ 108 ∷ [])
-- reading-range
naming ReadingRange = (10, 114 ∷ 101 ∷ 97 ∷ 100 ∷ 105 ∷ 110 ∷ 103 ∷ 45 ∷ 114 ∷ 97 ∷ 110 ∷ 103 ∷ 101 ∷ [])
-- no-reading
naming NoReading = (11, 110 ∷ 111 ∷ 45 ∷ 114 ∷ 101 ∷ 97 ∷ 100 ∷ 105 ∷ 110 ∷ 103 ∷ [])
-- event-label
naming EventLabel = (12, 101 ∷ 118 ∷ 101 ∷ 110 ∷ 116 ∷ 45 ∷ 108 ∷ 97 ∷ 98 ∷ 101 ∷ 108 ∷ [])
-- event-range
naming EventRange = (13, 101 ∷ 118 ∷ 101 ∷ 110 ∷ 116 ∷ 45 ∷ 114 ∷ 97 ∷ 110 ∷ 103 ∷ 101 ∷ [])
-- no-event
naming NoEvent = (14, 110 ∷ 111 ∷ 45 ∷ 101 ∷ 118 ∷ 101 ∷ 110 ∷ 116 ∷ [])
-- clock
naming ClockUnset = (15, 99 ∷ 108 ∷ 111 ∷ 99 ∷ 107 ∷ [])
-- no-dates
naming NoDates = (16, 110 ∷ 111 ∷ 45 ∷ 100 ∷ 97 ∷ 116 ∷ 101 ∷ 115 ∷ [])
-- time
naming TimeLabel = (17, 116 ∷ 105 ∷ 109 ∷ 101 ∷ [])
-- password
naming WrongPassword = (18, 112 ∷ 97 ∷ 115 ∷ 115 ∷ 119 ∷ 111 ∷ 114 ∷ 100 ∷ [])
-- accepted
naming Accepted = (19, 97 ∷ 99 ∷ 99 ∷ 101 ∷ 112 ∷ 116 ∷ 101 ∷ 100 ∷ [])

abbrev pub place_of : Rule → ℕ
place_of rule = (naming rule).0

abbrev pub word_of : Rule → List ℕ
word_of rule = (naming rule).1
