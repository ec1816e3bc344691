-- The laws of a machine that is deaf to noise; and noise goes unnoticed by it, whatever number of runs is put in at whatever number of places.
-- By recursion on how the noise was put in: the states stay alike, and the second kept, and at rest where noise may follow. Assumes nothing.
use mathlib.Core.Bool.{Bool, true, false}
use mathlib.Core.List.{List, [], ◌∷◌}
use mathlib.Core.Path.{◌≡◌, refl, sym, ap₂, subst}
use Rattle.history.specs.History.{Event, Machine, answers, after, fed, AllFit, Each}
use Rattle.history.specs.Noise.{Noised, inserted, remaining}
use Rattle.history.specs.Noise as N
use Rattle.history.proofs.History.{closed_answers, closed_after}
use Rattle.history.proofs.Invariant.{Invariant}
use Rattle.history.proofs.Sides.{InStep, Related, in_step, in_pairs_same, Same, beside_itself}

module _ {S A G E O : Type 0} (m : Machine S A G E O) (Fit : G → Type 0) (Noise : List A → Type 0)
    (Kept : S → Type 0) (Alike : S → S → Type 0) (Rest : S → Type 0) (Mute : O → Type 0) where
  -- the laws: states that are alike stay so and answer the same; a gap leaves the machine at rest, and other calls leave it so;
  -- at rest, a run of noise gets no answer and leaves a state like the one before. Of gaps they are asked where the loan is fit, and rest
  -- only of states that every step keeps: a gap may leave a state as it came, so there are others that it leaves unrested
  pub record Deaf : Type 0 where
    pub kept : Invariant m Fit Kept
    pub alike_trans : (s t u : S) → Alike s t → Alike t u → Alike s u
    pub symbol_alike : (s t : S) (a : A) → Alike s t → Alike (m.symbol s a) (m.symbol t a)
    pub gap_alike : (s t : S) (g : G) → Fit g → Alike s t → Related Alike (λ (o o' : O). o ≡ o') (m.gap s g) (m.gap t g)
    pub call_alike : (s t : S) (e : E) → Alike s t → Related Alike (λ (o o' : O). o ≡ o') (m.call s e) (m.call t e)
    pub gap_rests : (s : S) (g : G) → Fit g → Kept s → Rest (m.gap s g).state
    pub call_rests : (s : S) (e : E) → Rest s → Rest (m.call s e).state
    pub noise_mute : (s : S) (run : List A) (g : G) → Rest s → Noise run → Fit g → Mute (m.gap (fed m s run) g).answer
    pub noise_alike : (s : S) (run : List A) (g : G) → Rest s → Noise run → Fit g → Alike s (m.gap (fed m s run) g).state

-- noise goes unnoticed: no run put in is answered, all other answers are the same, and the states at the end are alike
pub record Unnoticed {S A G E O : Type 0} (m : Machine S A G E O) (Alike : S → S → Type 0) (Mute : O → Type 0)
    {Fit : G → Type 0} {Noise : List A → Type 0} {fresh : Bool} {h h' : List (Event A G E)} (n : Noised Fit Noise fresh h h') (s t : S) : Type 0 where
  pub unanswered : Each Mute (inserted n (answers m t h'))
  pub same : remaining n (answers m t h') ≡ answers m s h
  pub alike : Alike (after m s h) (after m t h')

module _ {S A G E O : Type 0} {m : Machine S A G E O} {Fit : G → Type 0} {Noise : List A → Type 0}
    {Kept : S → Type 0} {Alike : S → S → Type 0} {Rest : S → Type 0} {Mute : O → Type 0} (d : Deaf m Fit Noise Kept Alike Rest Mute) where
  -- where noise may be put in, the machine is at rest
  abbrev RestsIf : Bool → S → Type 0
  RestsIf true s = Rest s
  RestsIf false s = Unit {0}

  call_rests_if : (fresh : Bool) (s : S) (e : E) → RestsIf fresh s → RestsIf fresh (m.call s e).state
  call_rests_if true s e r = d.call_rests s e r
  call_rests_if false s e r = tt

  kept_fed : (s : S) (run : List A) → Kept s → Kept (fed m s run)
  unfolding fed
  kept_fed s [] k = k
  kept_fed s (a ∷ run) k = kept_fed (m.symbol s a) run (d.kept.symbols s a k)

  unnoticed_if : {fresh : Bool} {h h' : List (Event A G E)} (n : Noised Fit Noise fresh h h') (s t : S) → Alike s t → Kept t → RestsIf fresh t
      → Unnoticed m Alike Mute n s t
  unfolding answers after
  unnoticed_if N.end s t a k r = record { unanswered = tt; same = refl; alike = a }
  unnoticed_if (N.symbol {a = b} n) s t a k r =
      let rest = unnoticed_if n (m.symbol s b) (m.symbol t b) (d.symbol_alike s t b a) (d.kept.symbols t b k) tt in
      record { unanswered = rest.unanswered; same = rest.same; alike = rest.alike }
  unnoticed_if (N.gap {g = g} f n) s t a k r =
      let now = d.gap_alike s t g f a in
      let rest = unnoticed_if n (m.gap s g).state (m.gap t g).state now.states (d.kept.gaps t g f k) (d.gap_rests t g f k) in
      record { unanswered = rest.unanswered; same = ap₂ (λ (o : O) (os : List O). o ∷ os) (sym now.answers) rest.same; alike = rest.alike }
  unnoticed_if (N.call {fresh = fresh} {e = e} n) s t a k r =
      let now = d.call_alike s t e a in
      let rest = unnoticed_if n (m.call s e).state (m.call t e).state now.states (d.kept.calls t e k) (call_rests_if fresh t e r) in
      record { unanswered = rest.unanswered; same = ap₂ (λ (o : O) (os : List O). o ∷ os) (sym now.answers) rest.same; alike = rest.alike }
  unnoticed_if (N.noise {h' = h'} run g x f n) s t a k r =
      let u = (m.gap (fed m t run) g).state in
      let in_run = kept_fed t run k in
      let rest = unnoticed_if n s u (d.alike_trans s t u a (d.noise_alike t run g r x f)) (d.kept.gaps (fed m t run) g f in_run) (d.gap_rests (fed m t run) g f in_run) in
      record {
        unanswered = rw (closed_answers m t run g h') (d.noise_mute t run g r x f, rest.unanswered);
        same = rw (closed_answers m t run g h') rest.same;
        alike = rw (closed_after m t run g h') rest.alike;
      }

  -- from a state at rest that is kept, which is like itself
  pub unnoticed : {h h' : List (Event A G E)} (n : Noised Fit Noise true h h') (s : S) → Alike s s → Kept s → Rest s → Unnoticed m Alike Mute n s s
  unnoticed n s a k r = unnoticed_if n s s a k r

  -- a deaf machine keeps step with itself: on one history, states that are alike give the same answers and end alike
  alike_in_step : InStep m m (λ (a a' : A). a ≡ a') (Same Fit) (λ (e e' : E). e ≡ e') Alike (λ (o o' : O). o ≡ o')
  alike_in_step =
      record {
        symbols = λ s t a a' p r. subst (λ (x : A). Alike (m.symbol s a) (m.symbol t x)) p (d.symbol_alike s t a r);
        gaps = λ s t g g' p r. subst (λ (x : G). Related Alike ◌≡◌ (m.gap s g) (m.gap t x)) p.same (d.gap_alike s t g p.fit r);
        calls = λ s t e e' p r. subst (λ (x : E). Related Alike ◌≡◌ (m.call s e) (m.call t x)) p (d.call_alike s t e r);
      }

  pub alike_throughout : (h : List (Event A G E)) → AllFit Fit h → (s t : S) → Alike s t → (answers m s h ≡ answers m t h) × Alike (after m s h) (after m t h)
  alike_throughout h f s t a =
      let both = in_step alike_in_step (beside_itself Fit h f) s t a in
      (in_pairs_same _ _ both.0, both.1)
