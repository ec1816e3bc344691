-- Messages and the rules that hold of them: each rule alone, or with those that it brings along, and beside its neighbour where one message can break both. The first is named. So no
-- rule is dead, and none hides another; and both sides of the two refusals. Assumes nothing.
use Rattle.std.specs.Prelude.{ℕ, ◌+◌, Bool, true, false, ◌||◌, List, [], ◌∷◌, ◌++◌, map, ◌≡◌, eqb, get_or, replicate, Ok, Err}
use Rattle.history.specs.History.{Each}
use Rattle.octets.specs.declared.Kept.{Kept}
use Rattle.octets.specs.Keeping.{octets_of, kept_of}
use Rattle.rules.specs.declared.Session.{Session}
use Rattle.rules.specs.declared.Session.TheVariants.{Closed, Open}
use Rattle.rules.specs.declared.Rule.{Rule}
use Rattle.rules.specs.declared.Rule.TheVariants.{Marked, UnknownType, NoSession, UnknownPoint, OtherSession, Shape, Address, Objects, ReadingLabel, ReadingRange, NoReading, EventLabel, EventRange, NoEvent, ClockUnset, NoDates, TimeLabel, WrongPassword, Accepted}
use Rattle.why.specs.declared.Unasked.TheVariants.{ImageUnsound, MessageLength}
use Rattle.why.specs.Naming.{place_of}
use Rattle.why.specs.Asking.{Why, why_of}
use Rattle.why.specs.Stated.{Holds}
use Rattle.tender.specs.Rules.{collected_after}

-- a message, where it is asked, and all rules that hold of it
pub record Case : Type 0 where
  pub session : Session
  pub image : List ℕ
  pub clock : List ℕ
  pub message : List ℕ
  pub holding : List Rule

-- the first of them is named; if there is none, that the message is accepted
abbrev pub first_holding : List Rule → Why
first_holding [] = Ok Accepted
first_holding (rule ∷ rules) = Ok rule

abbrev pub answer_to : Case → Why
answer_to c = why_of c.session c.image c.clock c.message

-- images: link address 1, the points 1 with the password 12345678 hex and 2 with 0; in one of them also switch dates, a reading of point 1 and record 11, and an
-- event of point 1 and record 52, both of 1 January 2001 00:15
abbrev pub two_points : List ℕ
two_points =
    0x01 ∷ 0x00 ∷ 0x09 ∷ 0x01 ∷ 0x00 ∷ 0x01 ∷ 0x00 ∷ 0x00 ∷ 0x00 ∷ 0x00 ∷ 0x00 ∷ 0x00
    ∷ 0x00 ∷ 0x07 ∷ 0x02 ∷ 0x00 ∷ 0x01 ∷ 0x12 ∷ 0x34 ∷ 0x56 ∷ 0x78
    ∷ 0x00 ∷ 0x07 ∷ 0x02 ∷ 0x00 ∷ 0x02 ∷ 0x00 ∷ 0x00 ∷ 0x00 ∷ 0x00 ∷ []

abbrev pub early : List ℕ
early = 0x00 ∷ 0x00 ∷ 0x01 ∷ 0x01 ∷ 0x00 ∷ []

abbrev pub between : List ℕ
between = 0x0F ∷ 0x00 ∷ 0x21 ∷ 0x01 ∷ 0x01 ∷ []

abbrev pub late : List ℕ
late = 0x3B ∷ 0x17 ∷ 0x1F ∷ 0x0C ∷ 0x63 ∷ []

abbrev pub with_records : List ℕ
with_records =
    two_points
    ++ ((0x00 ∷ 0x0B ∷ 0x03 ∷ []) ++ (early ++ late))
    ++ ((0x00 ∷ 0x27 ∷ 0x04 ∷ 0x00 ∷ 0x01 ∷ 0x0B ∷ []) ++ (between ++ replicate 30 0))
    ++ ((0x00 ∷ 0x0D ∷ 0x05 ∷ 0x00 ∷ 0x01 ∷ 0x34 ∷ 0x01 ∷ 0x02 ∷ 0x00 ∷ 0x00 ∷ []) ++ between)

-- one that is not valid: day 0. As every such label it has the instant 0, that of the first minute of 2000
abbrev pub no_day : List ℕ
no_day = 0x00 ∷ 0x00 ∷ 0x00 ∷ 0x01 ∷ 0x00 ∷ []

-- a clock that is valid, and one that is not
abbrev pub right : List ℕ
right = 0x00 ∷ 0x00 ∷ between

abbrev pub unset : List ℕ
unset = replicate 7 0

-- sessions of points 1, 2 and 3, which is in neither image
abbrev pub at : ℕ → Session
at point = Open (record { 0 = point })

-- type, structure octet, cause, point, record address, and what is behind them
abbrev pub message : ℕ → ℕ → ℕ → ℕ → ℕ → List ℕ → List ℕ
message type structure cause point address behind = type ∷ structure ∷ cause ∷ point ∷ 0 ∷ address ∷ behind

-- a request for readings by its objects and labels, one for events by its labels
abbrev pub readings : ℕ → ℕ → ℕ → List ℕ → List ℕ → List ℕ
readings address first last from to = message 123 1 6 1 address (first ∷ last ∷ (from ++ to))

abbrev pub events : List ℕ → List ℕ → List ℕ
events from to = message 102 0 6 1 52 (from ++ to)

infix 3 ◌asked◌of◌then◌
abbrev pub ◌asked◌of◌then◌ : List ℕ → Session → List ℕ → List Rule → Case
m asked session of image then holding = record { session = session; image = image; clock = right; message = m; holding = holding }

-- one for each rule, in document 01's order, and one that is accepted
abbrev pub alone : List Case
alone =
    (message 100 0 133 1 0 [] asked at 1 of with_records then Marked ∷ [])
    ∷ (message 101 0 5 1 0 [] asked at 1 of with_records then UnknownType ∷ Shape ∷ Address ∷ [])
    ∷ (message 100 0 5 1 0 [] asked Closed of with_records then NoSession ∷ [])
    ∷ (message 100 0 5 3 0 [] asked at 3 of with_records then UnknownPoint ∷ [])
    ∷ (message 100 0 5 1 0 [] asked at 2 of with_records then OtherSession ∷ [])
    ∷ (message 100 1 5 1 0 [] asked at 1 of with_records then Shape ∷ [])
    ∷ (message 100 0 5 1 1 [] asked at 1 of with_records then Address ∷ [])
    ∷ (readings 11 0 6 early late asked at 1 of with_records then Objects ∷ [])
    ∷ (readings 11 1 6 no_day late asked at 1 of with_records then ReadingLabel ∷ [])
    ∷ (readings 11 1 6 late early asked at 1 of with_records then ReadingRange ∷ NoReading ∷ [])
    ∷ (readings 11 1 6 early early asked at 1 of with_records then NoReading ∷ [])
    ∷ (events no_day late asked at 1 of with_records then EventLabel ∷ [])
    ∷ (events late early asked at 1 of with_records then EventRange ∷ NoEvent ∷ [])
    ∷ (events early early asked at 1 of with_records then NoEvent ∷ [])
    ∷ record { session = at 1; image = with_records; clock = unset; message = message 103 0 5 1 0 []; holding = ClockUnset ∷ [] }
    ∷ (message 185 1 5 1 0 [] asked at 1 of two_points then NoDates ∷ [])
    ∷ (message 181 1 6 1 0 unset asked at 1 of with_records then TimeLabel ∷ [])
    ∷ (message 183 1 6 1 0 (0x79 ∷ 0x56 ∷ 0x34 ∷ 0x12 ∷ []) asked Closed of with_records then WrongPassword ∷ [])
    ∷ (message 100 0 5 1 0 [] asked at 1 of with_records then [])
    ∷ []

-- the neighbours that one message can break together
abbrev pub neighbours : List Case
neighbours =
    (message 101 0 133 1 0 [] asked at 1 of with_records then Marked ∷ UnknownType ∷ Shape ∷ Address ∷ [])
    ∷ (message 101 0 5 1 0 [] asked Closed of with_records then UnknownType ∷ NoSession ∷ Shape ∷ Address ∷ [])
    ∷ (message 100 0 5 3 0 [] asked Closed of with_records then NoSession ∷ UnknownPoint ∷ [])
    ∷ (message 100 0 5 3 0 [] asked at 1 of with_records then UnknownPoint ∷ OtherSession ∷ [])
    ∷ (message 100 1 5 1 0 [] asked at 2 of with_records then OtherSession ∷ Shape ∷ [])
    ∷ (message 100 1 5 1 1 [] asked at 1 of with_records then Shape ∷ Address ∷ [])
    ∷ (readings 21 0 6 early late asked at 1 of with_records then Address ∷ Objects ∷ NoReading ∷ [])
    ∷ (readings 11 0 6 no_day late asked at 1 of with_records then Objects ∷ ReadingLabel ∷ [])
    ∷ (readings 11 1 6 late no_day asked at 1 of with_records then ReadingLabel ∷ ReadingRange ∷ NoReading ∷ [])
    ∷ (readings 11 1 6 late early asked at 1 of with_records then ReadingRange ∷ NoReading ∷ [])
    ∷ (events late no_day asked at 1 of with_records then EventLabel ∷ EventRange ∷ NoEvent ∷ [])
    ∷ (events late early asked at 1 of with_records then EventRange ∷ NoEvent ∷ [])
    ∷ (message 186 1 6 1 0 (early ++ no_day) asked at 1 of two_points then NoDates ∷ TimeLabel ∷ [])
    ∷ []

-- the refusals, in their order: 5 and 6 octets, 252 and 253, an image that is not sound before a message that is too short
pub record Edge : Type 0 where
  pub image : List ℕ
  pub message : List ℕ
  pub answer : Why

abbrev pub edge : List ℕ → List ℕ → Why → Edge
edge image m answer = record { image = image; message = m; answer = answer }

abbrev pub edges : List Edge
edges =
    edge two_points (100 ∷ 0 ∷ 5 ∷ 1 ∷ 0 ∷ []) (Err MessageLength)
    ∷ edge two_points (message 100 0 5 1 0 []) (Ok Accepted)
    ∷ edge two_points (message 100 0 5 1 0 (replicate 246 0)) (Ok Shape)
    ∷ edge two_points (message 100 0 5 1 0 (replicate 247 0)) (Err MessageLength)
    ∷ edge [] (100 ∷ 0 ∷ 5 ∷ 1 ∷ 0 ∷ []) (Err ImageUnsound)
    ∷ edge [] (message 100 0 5 1 0 (replicate 247 0)) (Err ImageUnsound)
    ∷ []

-- the first is named
abbrev pub CasesAnswered : Type 0
CasesAnswered = map answer_to (alone ++ neighbours) ≡ map (λ c. first_holding c.holding) (alone ++ neighbours)

abbrev pub EdgesAnswered : Type 0
EdgesAnswered = map (λ e. why_of (at 1) e.image right e.message) edges ≡ map (λ e. e.answer) edges

-- and the centre collects the paper's causes: of each rule's message, carried out, the cause octet of the first reply. T of the first is kept, 128; P/N 1 is 64; the last gets its data, cause 5
abbrev pub cause_octets : List ℕ
cause_octets =
    (128 + 14) ∷ 14 ∷ 14 ∷ 16 ∷ 14 ∷ 14 ∷ 15 ∷ 17 ∷ 18 ∷ 18 ∷ 18 ∷ 18 ∷ 18 ∷ 13 ∷ 13 ∷ 14 ∷ (64 + 7) ∷ (64 + 7) ∷ 5 ∷ []

abbrev pub first_cause : List Kept → ℕ
first_cause [] = 0
first_cause (reply ∷ rest) = get_or (octets_of reply) 2 0

abbrev pub CausesCollected : Type 0
CausesCollected = map (λ (c : Case). first_cause (collected_after c.session c.image c.clock (kept_of c.message) 1)) alone ≡ cause_octets

-- the rules that hold are these and no other, as document 01 words them
abbrev pub is_in : Rule → List Rule → Bool
is_in rule [] = false
is_in rule (r ∷ rs) = eqb (place_of rule) (place_of r) || is_in rule rs

abbrev pub HoldsAsListed : Case → Type 0
HoldsAsListed c =
    (rule : Rule) → (is_in rule c.holding ≡ true → Holds c.session c.image c.clock c.message rule)
    × (Holds c.session c.image c.clock c.message rule → is_in rule c.holding ≡ true)

abbrev pub HoldingSo : Type 0
HoldingSo = Each HoldsAsListed (alone ++ neighbours)

-- the neighbours that stand in no case are of different types: no message breaks both
pub record NeverBoth (session : Session) (image clock m : List ℕ) : Type 0 where
  pub readings_events : Holds session image clock m NoReading → Holds session image clock m EventLabel → ⊥
  pub events_clock : Holds session image clock m NoEvent → Holds session image clock m ClockUnset → ⊥
  pub clock_dates : Holds session image clock m ClockUnset → Holds session image clock m NoDates → ⊥
  pub time_password : Holds session image clock m TimeLabel → Holds session image clock m WrongPassword → ⊥

abbrev pub OfDifferentTypes : Type 0
OfDifferentTypes = (session : Session) (image clock m : List ℕ) → NeverBoth session image clock m
