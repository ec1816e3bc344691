-- Two histories side by side, related event by event, and two machines that keep step on them: from related states they give related answers
-- and end in related states. By recursion on the relation of the histories. Assumes nothing.
use mathlib.Core.List.{List, [], ◌∷◌}
use mathlib.Core.Path.{◌≡◌, refl, ap₂}
use Rattle.history.specs.History.{Event, Symbol, Gap, Call, Stepped, Machine, answers, after, AllFit}

-- each symbol, loan and call of one history is related to the one in its place in the other
pub data Alongside {A A' G G' E E' : Type 0} (Symbols : A → A' → Type 0) (Loans : G → G' → Type 0) (Calls : E → E' → Type 0)
    : List (Event A G E) → List (Event A' G' E') → Type 0 where
  end : Alongside Symbols Loans Calls [] []
  symbol : {a : A} {a' : A'} {h : List (Event A G E)} {h' : List (Event A' G' E')}
      → Symbols a a' → Alongside Symbols Loans Calls h h' → Alongside Symbols Loans Calls (Symbol a ∷ h) (Symbol a' ∷ h')
  gap : {g : G} {g' : G'} {h : List (Event A G E)} {h' : List (Event A' G' E')}
      → Loans g g' → Alongside Symbols Loans Calls h h' → Alongside Symbols Loans Calls (Gap g ∷ h) (Gap g' ∷ h')
  call : {e : E} {e' : E'} {h : List (Event A G E)} {h' : List (Event A' G' E')}
      → Calls e e' → Alongside Symbols Loans Calls h h' → Alongside Symbols Loans Calls (Call e ∷ h) (Call e' ∷ h')

-- two outcomes with related states and related answers
pub record Related {S S' O O' : Type 0} (States : S → S' → Type 0) (Answers : O → O' → Type 0) (x : Stepped S O) (y : Stepped S' O') : Type 0 where
  pub states : States x.state y.state
  pub answers : Answers x.answer y.answer

-- two lists as long as each other, related element by element
abbrev pub InPairs : {O O' : Type 0} → (O → O' → Type 0) → List O → List O' → Type 0
InPairs Answers [] [] = Unit {0}
InPairs Answers [] (o' ∷ os') = ⊥
InPairs Answers (o ∷ os) [] = ⊥
InPairs Answers (o ∷ os) (o' ∷ os') = Answers o o' × InPairs Answers os os'

-- two machines in step: from related states, related events lead to related states and get related answers
pub record InStep {S S' A A' G G' E E' O O' : Type 0} (m : Machine S A G E O) (m' : Machine S' A' G' E' O')
    (Symbols : A → A' → Type 0) (Loans : G → G' → Type 0) (Calls : E → E' → Type 0)
    (States : S → S' → Type 0) (Answers : O → O' → Type 0) : Type 0 where
  pub symbols : (s : S) (s' : S') (a : A) (a' : A') → Symbols a a' → States s s' → States (m.symbol s a) (m'.symbol s' a')
  pub gaps : (s : S) (s' : S') (g : G) (g' : G') → Loans g g' → States s s' → Related States Answers (m.gap s g) (m'.gap s' g')
  pub calls : (s : S) (s' : S') (e : E) (e' : E') → Calls e e' → States s s' → Related States Answers (m.call s e) (m'.call s' e')

module _ {S S' A A' G G' E E' O O' : Type 0} {m : Machine S A G E O} {m' : Machine S' A' G' E' O'}
    {Symbols : A → A' → Type 0} {Loans : G → G' → Type 0} {Calls : E → E' → Type 0}
    {States : S → S' → Type 0} {Answers : O → O' → Type 0} (k : InStep m m' Symbols Loans Calls States Answers) where
  pub in_step : {h : List (Event A G E)} {h' : List (Event A' G' E')} → Alongside Symbols Loans Calls h h' → (s : S) (s' : S') → States s s'
      → InPairs Answers (answers m s h) (answers m' s' h') × States (after m s h) (after m' s' h')
  unfolding answers after
  in_step end s s' r = (tt, r)
  in_step (symbol {a = a} {a' = a'} p n) s s' r = in_step n (m.symbol s a) (m'.symbol s' a') (k.symbols s s' a a' p r)
  in_step (gap {g = g} {g' = g'} p n) s s' r =
      let now = k.gaps s s' g g' p r in
      let rest = in_step n (m.gap s g).state (m'.gap s' g').state now.states in
      ((now.answers, rest.0), rest.1)
  in_step (call {e = e} {e' = e'} p n) s s' r =
      let now = k.calls s s' e e' p r in
      let rest = in_step n (m.call s e).state (m'.call s' e').state now.states in
      ((now.answers, rest.0), rest.1)

-- related by equality, answers are the same list
pub in_pairs_same : {O : Type 0} (os os' : List O) → InPairs (λ (o o' : O). o ≡ o') os os' → os ≡ os'
in_pairs_same {O} [] [] p = refl
in_pairs_same {O} [] (o' ∷ os') p = absurd p
in_pairs_same {O} (o ∷ os) [] p = absurd p
in_pairs_same {O} (o ∷ os) (o' ∷ os') p = ap₂ (λ (x : O) (xs : List O). x ∷ xs) p.0 (in_pairs_same os os' p.1)

-- one loan, which is fit
pub record Same {G : Type 0} (Fit : G → Type 0) (g g' : G) : Type 0 where
  pub fit : Fit g
  pub same : g ≡ g'

-- a history stands beside itself
pub beside_itself : {A G E : Type 0} (Fit : G → Type 0) (h : List (Event A G E)) → AllFit Fit h
    → Alongside (λ (a a' : A). a ≡ a') (Same Fit) (λ (e e' : E). e ≡ e') h h
beside_itself Fit [] f = end
beside_itself Fit (Symbol a ∷ h) f = symbol refl (beside_itself Fit h f)
beside_itself Fit (Gap g ∷ h) f = gap (record { fit = f.0; same = refl }) (beside_itself Fit h f.1)
beside_itself Fit (Call e ∷ h) f = call refl (beside_itself Fit h f)
