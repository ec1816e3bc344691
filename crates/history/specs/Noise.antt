-- A history with noise put in. Noise is whatever a predicate on runs of symbols says.
-- Assumes nothing.
use Rattle.std.specs.Prelude.{Bool, true, false, List, [], ◌∷◌}
use Rattle.history.specs.History.{Event, Symbol, Gap, Call, closed_run}

-- `Noised Fit Noise fresh h h'`: h' is h with runs of noise put in, each closed by a gap, each directly after a gap or at the start:
-- `fresh` is true there, and other calls leave it so. Every gap, put in or not, is lent what is fit
pub data Noised {A G E : Type 0} (Fit : G → Type 0) (Noise : List A → Type 0) : Bool → List (Event A G E) → List (Event A G E) → Type 0 where
  end : {fresh : Bool} → Noised Fit Noise fresh [] []
  symbol : {fresh : Bool} {a : A} {h h' : List (Event A G E)}
      → Noised Fit Noise false h h' → Noised Fit Noise fresh (Symbol a ∷ h) (Symbol a ∷ h')
  gap : {fresh : Bool} {g : G} {h h' : List (Event A G E)}
      → Fit g → Noised Fit Noise true h h' → Noised Fit Noise fresh (Gap g ∷ h) (Gap g ∷ h')
  call : {fresh : Bool} {e : E} {h h' : List (Event A G E)}
      → Noised Fit Noise fresh h h' → Noised Fit Noise fresh (Call e ∷ h) (Call e ∷ h')
  noise : {h h' : List (Event A G E)} (run : List A) (g : G)
      → Noise run → Fit g → Noised Fit Noise true h h' → Noised Fit Noise true h (closed_run run g h')

module _ {A G E O : Type 0} {Fit : G → Type 0} {Noise : List A → Type 0} where
  -- of the answers to h', those at the gaps put in
  abbrev pub inserted : {fresh : Bool} {h h' : List (Event A G E)} → Noised Fit Noise fresh h h' → List O → List O
  inserted end os = []
  inserted (symbol n) os = inserted n os
  inserted (gap f n) [] = []
  inserted (gap f n) (o ∷ os) = inserted n os
  inserted (call n) [] = []
  inserted (call n) (o ∷ os) = inserted n os
  inserted (noise run g x f n) [] = []
  inserted (noise run g x f n) (o ∷ os) = o ∷ inserted n os

  -- and all others
  abbrev pub remaining : {fresh : Bool} {h h' : List (Event A G E)} → Noised Fit Noise fresh h h' → List O → List O
  remaining end os = []
  remaining (symbol n) os = remaining n os
  remaining (gap f n) [] = []
  remaining (gap f n) (o ∷ os) = o ∷ remaining n os
  remaining (call n) [] = []
  remaining (call n) (o ∷ os) = o ∷ remaining n os
  remaining (noise run g x f n) [] = []
  remaining (noise run g x f n) (o ∷ os) = remaining n os
