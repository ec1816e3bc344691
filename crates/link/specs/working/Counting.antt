-- Functions 3 and 11 by their FCB, where what is done afresh is told by a relation: what `counted` comes to.
-- Assumes nothing.
use Rattle.std.specs.Prelude.{ℕ, ◌≡◌, eqb}
use Rattle.std.specs.Bool.{MatchBool}
use Rattle.link.specs.declared.Link.{Link}
use Rattle.link.specs.declared.Answered.{Answered}
use Rattle.link.specs.declared.Sends.TheVariants.{NotReset, Remembered}
use Rattle.link.specs.Answering.{answered_by}

unfoldable pub IsCounted : ℕ → Link → (Answered → Type 0) → Answered → Type 0
IsCounted bit link Afresh answer =
    MatchBool link.reset (MatchBool (eqb bit link.fcb) (answer ≡ answered_by Remembered link) (Afresh answer)) (answer ≡ answered_by NotReset link)
