-- Histories in parts: a closed run, and one history after another.
-- By recursion on the first part. Assumes nothing.
use mathlib.Core.List.{List, [], ◌∷◌, ◌++◌}
use mathlib.Core.Path.{◌≡◌, refl, ap}
use Rattle.history.specs.History.{Event, Symbol, Gap, Call, Machine, answers, after, fed, closed_run}

module _ {S A G E O : Type 0} (m : Machine S A G E O) where
  pub closed_answers : (s : S) (run : List A) (g : G) (h : List (Event A G E))
      → answers m s (closed_run run g h) ≡ (m.gap (fed m s run) g).answer ∷ answers m (m.gap (fed m s run) g).state h
  unfolding answers fed
  closed_answers s [] g h = refl
  closed_answers s (a ∷ run) g h = closed_answers (m.symbol s a) run g h

  pub closed_after : (s : S) (run : List A) (g : G) (h : List (Event A G E))
      → after m s (closed_run run g h) ≡ after m (m.gap (fed m s run) g).state h
  unfolding after fed
  closed_after s [] g h = refl
  closed_after s (a ∷ run) g h = closed_after (m.symbol s a) run g h

  pub answers_append : (s : S) (h h' : List (Event A G E)) → answers m s (h ++ h') ≡ answers m s h ++ answers m (after m s h) h'
  unfolding answers after
  answers_append s [] h' = refl
  answers_append s (Symbol a ∷ h) h' = answers_append (m.symbol s a) h h'
  answers_append s (Gap g ∷ h) h' = ap (λ (os : List O). (m.gap s g).answer ∷ os) (answers_append (m.gap s g).state h h')
  answers_append s (Call e ∷ h) h' = ap (λ (os : List O). (m.call s e).answer ∷ os) (answers_append (m.call s e).state h h')

  pub after_append : (s : S) (h h' : List (Event A G E)) → after m s (h ++ h') ≡ after m (after m s h) h'
  unfolding after
  after_append s [] h' = refl
  after_append s (Symbol a ∷ h) h' = after_append (m.symbol s a) h h'
  after_append s (Gap g ∷ h) h' = after_append (m.gap s g).state h h'
  after_append s (Call e ∷ h) h' = after_append (m.call s e).state h h'
