-- What this crate's own calls answer, as the paper's number and values, and what they leave. The card's definition does without it.
-- Assumes nothing.
use Rattle.std.specs.Prelude.{ℕ, List, [], ◌∷◌, length, take, drop, nat_lt, Option, Some, None, Result, Ok, Err}
use Rattle.octets.specs.Answer.{Answer}
use Rattle.octets.specs.Choice.{when◌then◌else◌}
use Rattle.octets.specs.Over.{laid_in}
use Rattle.frame.specs.declared.Judged.{Judged}
use Rattle.frame.specs.declared.Judged.TheVariants.{Fixed, Variable}
use Rattle.frame.specs.declared.Fault.{Fault}
use Rattle.frame.specs.declared.Service.TheVariants.{Reset, UserData, Status, Collection}
use Rattle.frame.specs.declared.WriteError.{WriteError}
use Rattle.frame.specs.declared.WriteError.TheVariants.{Short}
use Rattle.frame.specs.Frame.{fault_number, Verdict, refused, sound, fixed, variable}
use Rattle.frame.specs.declared.Service.{Service}

-- a sound frame is number 0 with its start octet, control, address and, in the variable form, the number of its user octets
abbrev pub verdict_says : Verdict → Answer
verdict_says (refused fault) = record { number = fault_number fault; values = [] }
verdict_says (sound (fixed c a)) = record { number = 0; values = 0x10 ∷ c ∷ a ∷ [] }
verdict_says (sound (variable c a user)) = record { number = 0; values = 0x68 ∷ c ∷ a ∷ length user ∷ [] }

abbrev pub judged_says : Result Judged Fault → Answer
judged_says (Err fault) = record { number = fault_number fault; values = [] }
judged_says (Ok (Fixed c link)) = record { number = 0; values = 0x10 ∷ c ∷ link.0 ∷ [] }
judged_says (Ok (Variable c link users)) = record { number = 0; values = 0x68 ∷ c ∷ link.0 ∷ users ∷ [] }

-- so many octets behind 68 L L 68 C A A
abbrev pub user_part : ℕ → List ℕ → List ℕ
user_part users run = take users (drop 7 run)

-- the paper's numbers: 0 with the function and, where it counts, the FCB; or 6
abbrev pub asked_says : Option Service → Answer
asked_says None = record { number = 6; values = [] }
asked_says (Some Reset) = record { number = 0; values = 0 ∷ [] }
asked_says (Some (UserData bit)) = record { number = 0; values = 3 ∷ bit ∷ [] }
asked_says (Some Status) = record { number = 0; values = 9 ∷ [] }
asked_says (Some (Collection bit)) = record { number = 0; values = 11 ∷ bit ∷ [] }

-- number 9, or 0 and how many octets are written
abbrev pub written_says : Result ℕ WriteError → Answer
written_says (Err Short) = record { number = 9; values = [] }
written_says (Ok count) = record { number = 0; values = count ∷ [] }

-- writing octets into the first of a buffer: the answer, and what is left of the buffer
unfoldable pub answer_to : List ℕ → List ℕ → Result ℕ WriteError
answer_to buffer octets = when nat_lt (length buffer) 261 then Err Short else Ok (length octets)

unfoldable pub left_of : List ℕ → List ℕ → List ℕ
left_of buffer octets = when nat_lt (length buffer) 261 then buffer else laid_in buffer octets
