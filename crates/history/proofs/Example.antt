-- The laws can be met: a small machine that is deaf to noise, a history of it with noise put in, and an invariant of it.
-- Like the card it keeps its run at a gap that is lent nothing fit, so the laws hold of it because they are asked of fit gaps only:
-- asked of every gap they are refuted. By computation and by cases on what a gap finds. Assumes nothing.
use Prim.Native.Nat.{ℕ, suc, ◌≤◌}
use mathlib.Core.Bool.{Bool, true, false}
use mathlib.Core.List.{List, [], ◌∷◌, reverse, reverse_aux, cons≢nil}
use mathlib.Core.Path.{◌≡◌, refl, sym, ap, ◌∙◌}
use native.Mathlib.Omega.{arith}
use Rattle.history.specs.History.{Event, Symbol, Gap, Call, Stepped, Machine, answers, after, fed, closed_run, AllFit}
use Rattle.history.specs.Noise.{Noised}
use Rattle.history.specs.Noise as N
use Rattle.history.proofs.Invariant.{Invariant, always}
use Rattle.history.proofs.Sides.{Related}
use Rattle.history.proofs.Noise.{Deaf, Unnoticed, unnoticed}

-- the symbols so far, the last one first; how many frames were heard; how many runs were damaged
record Ear : Type 0 where
  run : List Bool
  heard : ℕ
  damaged : ℕ

data Said : Type 0 where
  nothing : Said
  number : ℕ → Said

-- the other call clears the count of damaged runs
data Clear : Type 0 where
  clear : Clear

-- a frame is the one symbol true
abbrev is_frame : List Bool → Bool
is_frame [] = false
is_frame (true ∷ []) = true
is_frame (true ∷ a ∷ run) = false
is_frame (false ∷ run) = false

-- a frame is answered by its number, and anything else is damaged
abbrev heard_as : Bool → Ear → Stepped Ear Said
heard_as true s = record { state = record { run = []; heard = suc s.heard; damaged = s.damaged }; answer = number (suc s.heard) }
heard_as false s = record { state = record { run = []; heard = s.heard; damaged = suc s.damaged }; answer = nothing }

abbrev gap_of : Ear → Bool → Stepped Ear Said
gap_of s true = heard_as (is_frame s.run) s
gap_of s false = record { state = s; answer = nothing }

abbrev ear : Machine Ear Bool Bool Clear Said
ear =
    record {
      symbol = λ s a. record { run = a ∷ s.run; heard = s.heard; damaged = s.damaged };
      gap = gap_of;
      call = λ s e. record { state = record { run = s.run; heard = s.heard; damaged = 0 }; answer = nothing };
    }

record Alike (s t : Ear) : Type 0 where
  run : s.run ≡ t.run
  heard : s.heard ≡ t.heard

abbrev Fit : Bool → Type 0
Fit g = g ≡ true

abbrev NoFrame : List Bool → Type 0
NoFrame run = is_frame (reverse run) ≡ false

abbrev Rest : Ear → Type 0
Rest s = s.run ≡ []

abbrev Mute : Said → Type 0
Mute o = o ≡ nothing

fed_run : (s : Ear) (run : List Bool) → (fed ear s run).run ≡ reverse_aux run s.run
unfolding fed
fed_run s [] = refl
fed_run s (a ∷ run) = fed_run (ear.symbol s a) run

fed_heard : (s : Ear) (run : List Bool) → (fed ear s run).heard ≡ s.heard
unfolding fed
fed_heard s [] = refl
fed_heard s (a ∷ run) = fed_heard (ear.symbol s a) run

-- at a fit gap
fit_gap : (s : Ear) (g : Bool) → Fit g → gap_of s g ≡ heard_as (is_frame s.run) s
fit_gap s g f = ap (gap_of s) f

noise_gap : (s : Ear) (run : List Bool) (g : Bool) → Rest s → NoFrame run → Fit g → gap_of (fed ear s run) g ≡ heard_as false (fed ear s run)
noise_gap s run g r x f = fit_gap (fed ear s run) g f ∙ ap (λ (t : Bool). heard_as t (fed ear s run)) (ap is_frame (fed_run s run ∙ ap (reverse_aux run) r) ∙ x)

same_gap : (t : Bool) (x y : Ear) → Alike x y → Related Alike (λ (o o' : Said). o ≡ o') (heard_as t x) (heard_as t y)
same_gap true x y a = record { states = record { run = refl; heard = ap suc a.heard }; answers = ap (λ (n : ℕ). number (suc n)) a.heard }
same_gap false x y a = record { states = record { run = refl; heard = a.heard }; answers = refl }

heard_rests : (t : Bool) (s : Ear) → Rest (heard_as t s).state
heard_rests true s = refl
heard_rests false s = refl

-- the laws hold of it in every state
abbrev Any : Ear → Type 0
Any s = Unit {0}

deaf : Deaf ear Fit NoFrame Any Alike Rest Mute
deaf =
    record {
      kept = record { symbols = λ s a k. k; gaps = λ s g f k. k; calls = λ s e k. k };
      alike_trans = λ s t u a b. record { run = a.run ∙ b.run; heard = a.heard ∙ b.heard };
      symbol_alike = λ s t b a. record { run = ap (λ (run : List Bool). b ∷ run) a.run; heard = a.heard };
      gap_alike = λ s t g f a. rw (fit_gap s g f, fit_gap t g f, ap is_frame a.run) (same_gap (is_frame t.run) s t a);
      call_alike = λ s t e a. record { states = record { run = a.run; heard = a.heard }; answers = refl };
      gap_rests = λ s g f k. rw (fit_gap s g f) (heard_rests (is_frame s.run) s);
      call_rests = λ s e r. r;
      noise_mute = λ s run g r x f. rw (noise_gap s run g r x f);
      noise_alike = λ s run g r x f. rw (noise_gap s run g r x f) (record { run = r; heard = sym (fed_heard s run) });
    }

-- asked of every gap, the laws hold of no such machine: a gap with an unfit loan leaves the run
every_gap : Deaf ear (λ (g : Bool). Unit {0}) NoFrame Any Alike Rest Mute → ⊥
every_gap d = cons≢nil (d.gap_rests (record { run = true ∷ []; heard = 0; damaged = 0 }) false tt tt)

-- one frame, and the same with two runs put in at the start and one after the gap
start : Ear
start = record { run = []; heard = 0; damaged = 0 }

quiet : List (Event Bool Bool Clear)
quiet = Symbol true ∷ Gap true ∷ Call clear ∷ []

noisy : List (Event Bool Bool Clear)
noisy = closed_run (false ∷ []) true (closed_run (true ∷ true ∷ []) true (Symbol true ∷ Gap true ∷ Call clear ∷ closed_run (false ∷ []) true []))

put_in : Noised Fit NoFrame true quiet noisy
unfolding quiet noisy
put_in = N.noise (false ∷ []) true refl refl (N.noise (true ∷ true ∷ []) true refl refl (N.symbol (N.gap refl (N.call (N.noise (false ∷ []) true refl refl N.end)))))

unheard : Unnoticed ear Alike Mute put_in start start
unfolding start
unheard = unnoticed deaf put_in start (record { run = refl; heard = refl }) tt refl

-- what it answers is no fixed silence
quiet_answers : answers ear start quiet ≡ number 1 ∷ nothing ∷ []
unfolding answers start quiet
quiet_answers = refl

noisy_answers : answers ear start noisy ≡ nothing ∷ nothing ∷ number 1 ∷ nothing ∷ nothing ∷ []
unfolding answers start noisy
noisy_answers = refl

-- an invariant: the number of frames heard never falls
counts_up : (n : ℕ) → Invariant ear Fit (λ (s : Ear). n ≤ s.heard)
counts_up n = record { symbols = λ s a p. p; gaps = λ s g f p. rw (fit_gap s g f) (by_find (is_frame s.run) s p); calls = λ s e p. p }
  where
    by_find : (t : Bool) (s : Ear) → n ≤ s.heard → n ≤ (heard_as t s).state.heard
    by_find true s p = omega arith
    by_find false s p = p

never_falls : (s : Ear) (h : List (Event Bool Bool Clear)) → AllFit Fit h → s.heard ≤ (after ear s h).heard
never_falls s h f = (always ear (counts_up s.heard) s h f (omega arith)).1
