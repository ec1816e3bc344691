-- Histories of any machine on a line. The line delivers symbols, A. At a gap the machine is lent something, G. Other calls are E.
-- Gaps and other calls answer, O. Assumes nothing.
use Rattle.std.specs.Prelude.{List, [], ◌∷◌}

pub data Event (A G E : Type 0) : Type 0 where
  Symbol : A → Event A G E
  Gap : G → Event A G E
  Call : E → Event A G E

-- what a gap or another call leaves and answers
pub record Stepped (S O : Type 0) : Type 0 where
  pub state : S
  pub answer : O

pub record Machine (S A G E O : Type 0) : Type 0 where
  pub symbol : S → A → S
  pub gap : S → G → Stepped S O
  pub call : S → E → Stepped S O

module _ {S A G E O : Type 0} (m : Machine S A G E O) where
  -- the answers to a history's gaps and other calls, in order
  unfoldable pub answers : S → List (Event A G E) → List O
  answers s [] = []
  answers s (Symbol a ∷ h) = answers (m.symbol s a) h
  answers s (Gap g ∷ h) = (m.gap s g).answer ∷ answers (m.gap s g).state h
  answers s (Call e ∷ h) = (m.call s e).answer ∷ answers (m.call s e).state h

  -- the state at its end
  unfoldable pub after : S → List (Event A G E) → S
  after s [] = s
  after s (Symbol a ∷ h) = after (m.symbol s a) h
  after s (Gap g ∷ h) = after (m.gap s g).state h
  after s (Call e ∷ h) = after (m.call s e).state h

  -- the state once a run's symbols are in
  unfoldable pub fed : S → List A → S
  fed s [] = s
  fed s (a ∷ run) = fed (m.symbol s a) run

-- a run's symbols, the gap that closes it, and what follows
abbrev pub closed_run : {A G E : Type 0} → List A → G → List (Event A G E) → List (Event A G E)
closed_run [] g h = Gap g ∷ h
closed_run (a ∷ run) g h = Symbol a ∷ closed_run run g h

-- each gap of a history is lent what is fit
abbrev pub AllFit : {A G E : Type 0} → (G → Type 0) → List (Event A G E) → Type 0
AllFit Fit [] = Unit {0}
AllFit Fit (Symbol a ∷ h) = AllFit Fit h
AllFit Fit (Gap g ∷ h) = Fit g × AllFit Fit h
AllFit Fit (Call e ∷ h) = AllFit Fit h

-- at each gap of a history from s, the state there and what is lent are as Q says
module _ {S A G E O : Type 0} (m : Machine S A G E O) where
  abbrev pub AtGaps : (S → G → Type 0) → S → List (Event A G E) → Type 0
  AtGaps Q s [] = Unit {0}
  AtGaps Q s (Symbol a ∷ h) = AtGaps Q (m.symbol s a) h
  AtGaps Q s (Gap g ∷ h) = Q s g × AtGaps Q (m.gap s g).state h
  AtGaps Q s (Call e ∷ h) = AtGaps Q (m.call s e).state h

-- each element of a list is as P says
abbrev pub Each : {O : Type 0} → (O → Type 0) → List O → Type 0
Each P [] = Unit {0}
Each P (o ∷ os) = P o × Each P os
