-- What every step keeps holds at each gap of a history and at its end.
-- By recursion on the history. Assumes nothing.
use mathlib.Core.List.{List, [], ◌∷◌}
use Rattle.history.specs.History.{Event, Symbol, Gap, Call, Machine, after, AllFit, AtGaps}

module _ {S A G E O : Type 0} (m : Machine S A G E O) where
  -- P holds after each step where it held before; of gaps this is asked where the loan is fit
  pub record Invariant (Fit : G → Type 0) (P : S → Type 0) : Type 0 where
    pub symbols : (s : S) (a : A) → P s → P (m.symbol s a)
    pub gaps : (s : S) (g : G) → Fit g → P s → P (m.gap s g).state
    pub calls : (s : S) (e : E) → P s → P (m.call s e).state

module _ {S A G E O : Type 0} (m : Machine S A G E O) where
  pub always : {Fit : G → Type 0} {P : S → Type 0} → Invariant m Fit P → (s : S) (h : List (Event A G E)) → AllFit Fit h → P s
      → AtGaps m (λ (s : S) (g : G). Fit g × P s) s h × P (after m s h)
  unfolding after
  always k s [] f p = (tt, p)
  always k s (Symbol a ∷ h) f p = always k (m.symbol s a) h f (k.symbols s a p)
  always k s (Gap g ∷ h) f p =
      let rest = always k (m.gap s g).state h f.1 (k.gaps s g f.0 p) in
      (((f.0, p), rest.0), rest.1)
  always k s (Call e ∷ h) f p = always k (m.call s e).state h f (k.calls s e p)

  -- what follows at one gap follows at each
  pub at_gaps : {Q R : S → G → Type 0} → ((s : S) (g : G) → Q s g → R s g) → (s : S) (h : List (Event A G E)) → AtGaps m Q s h → AtGaps m R s h
  at_gaps f s [] q = tt
  at_gaps f s (Symbol a ∷ h) q = at_gaps f (m.symbol s a) h q
  at_gaps f s (Gap g ∷ h) q = (f s g q.0, at_gaps f (m.gap s g).state h q.1)
  at_gaps f s (Call e ∷ h) q = at_gaps f (m.call s e).state h q
