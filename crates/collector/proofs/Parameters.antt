-- The plain parameters of a function that is walked by hand, however many: octets and truths. Their types, locals, operands and machine values; and in the
-- walk their cells, which are one entry of the context, so that the positions of all others do not depend on how many there are.
-- By induction over the parameters. Assumes nothing.
use mathlib.Core.Path.{◌≡◌, refl, subst}
use mathlib.Core.List.{[], ◌∷◌, List}
use Prim.Native.Nat.{ℕ, zero, suc}
use lib.Dec.{T}
use seplogic.Ra.Ura.{Ura}
use base.Fraction.{full_share}
use mir.Syntax.{Ty, ty_int, ty_bool, w8, Local, local, value_local, Opd as Operand, copy, place}
use mir.Val.{Val, vbool, vint, WT, has_ty}
use base.Logic.{ent, via, emp, emp∗, mono_r, sep, id⊢}
use base.Fml.{Fml, ftrue, fat, froom, fdies}
use prog.Wp.{Heap, Env, spot_of}
use types.Logic.{Logic, sem}
use contract.Lifetimes.{Lfts}
use types.Kit.{Item, ‵, ◌⊛◌, Goal, allocs, passes, frees, Seq, Step, step, ⋆, ◌$◌, ◌∵◌, !, qed, move, drop, split, join, done}
use types.Run.{Opds, Finds, look, init, forget, stop, from, load, and_then, no_more, alloc1, pass1, pass0, free1}
use denote.RattleType.{RattleType, Denots, Valss, flat}
use denote.Laws.{Is, Ises, Are, Spells, valss, Tells, Tellss}
use denote.Plain.{uint_Tells, bool_Tells}
use denote.Builtin.{u8, bool}
use denote.Signature.{Slot, plain, types_at}
use denote.Steps.{nothing}
use denote.Triple.End.{Kepts, Fins}
use denote.Triple.Walked.{Stays, stay_dropped, has_of, fits_of, AllGo, Goes-dropped}
use denote.Exit.{yes, Last}

pub data Plain : Type 0 where
  octet : Plain
  truth : Plain

-- ---- one parameter
abbrev row : Plain → RattleType
row octet = u8
row truth = bool

abbrev ty : Plain → Ty
ty octet = ty_int w8
ty truth = ty_bool

abbrev val : (p : Plain) → (row p).Denot → Val
val octet n = vint w8 n
val truth t = vbool t

typed : (p : Plain) (x : (row p).Denot) → Is (row p) x (val p x ∷ []) → T (has_ty (ty p) (val p x)) × WT (val p x)
typed octet n is = (tt, record { fits = is.1 })
typed truth t is = (tt, tt)

tells : (p : Plain) → Tells (row p) (Is (row p)) (λ x. val p x ∷ [])
tells octet = uint_Tells w8
tells truth = bool_Tells

abbrev last : (p : Plain) (x : (row p).Denot) → Last ((row p).exit yes) x
last octet x = tt
last truth x = tt

-- ---- all of them: as a signature has them, as locals, as operands from a place on, and the places behind those
abbrev pub slots : (n : ℕ) → List Plain → List (Slot n)
slots n [] = []
slots n (p ∷ ps) = plain (λ _. row p) ∷ slots n ps

abbrev pub keeps : (n : ℕ) (ps : List Plain) → Kepts (slots n ps)
keeps n [] = tt
keeps n (p ∷ ps) = (yes, keeps n ps)

abbrev pub locals : List Plain → List Local → List Local
locals [] ls = ls
locals (p ∷ ps) ls = local (ty p) value_local ∷ locals ps ls

abbrev pub copies : (ℕ → ℕ) → List Plain → List Operand
copies at [] = []
copies at (p ∷ ps) = copy (place (at 0) []) ∷ copies (λ i. at (suc i)) ps

abbrev pub behind : (ℕ → ℕ) → List Plain → ℕ → ℕ
behind at [] i = at i
behind at (p ∷ ps) i = behind (λ j. at (suc j)) ps i

-- ---- their machine values; and at exit nothing is had or said of them
module _ (n : ℕ) (κs : Lfts n) where
  abbrev pub rows : List Plain → List RattleType
  rows ps = types_at (slots n ps) κs

  abbrev pub spells : (ps : List Plain) → Spells (rows ps)
  spells [] = tt
  spells (p ∷ ps) = ((λ x. val p x ∷ []), spells ps)

  pub all_tell : (ps : List Plain) → Tellss (rows ps) (Ises (rows ps)) (spells ps)
  all_tell [] = tt
  all_tell (p ∷ ps) = (tells p, all_tell ps)

  abbrev pub valued : (ps : List Plain) → Denots (rows ps) → Valss (rows ps)
  valued ps = valss (rows ps) (spells ps)

  abbrev pub vals : (ps : List Plain) → Denots (rows ps) → List Val
  vals ps a = flat (rows ps) (valued ps a)

  abbrev pub Fit : (ps : List Plain) → Denots (rows ps) → Type 0
  Fit ps a = Are (rows ps) (Ises (rows ps)) a (valued ps a)

abbrev pub stays : (n : ℕ) (ps : List Plain) → Stays (slots n ps) (keeps n ps)
stays n [] = tt
stays n (p ∷ ps) = (stay_dropped (plain (λ _. row p)) yes, stays n ps)

module _ (n : ℕ) (κs : Lfts n) where
  abbrev pub lasting : (ps : List Plain) (a : Denots (rows n κs ps)) → Fins κs (slots n ps) (keeps n ps) a
  lasting [] a = tt
  lasting (p ∷ ps) a = (last p a.0, lasting ps a.1)

  pub all_fit : (ps : List Plain) (a : Denots (rows n κs ps)) → fits_of κs (slots n ps) (keeps n ps) (stays n ps) a (lasting ps a)
  all_fit [] a = tt
  all_fit (p ∷ ps) a = (tt, all_fit ps a.1)

module _ {M : Type 1} {𝓤 : Ura M} (𝓛 : Logic 𝓤) (n : ℕ) where
  pub all_go : (ps : List Plain) → AllGo 𝓛 n (slots n ps) (keeps n ps) (stays n ps)
  all_go [] = tt
  all_go (octet ∷ ps) = (Goes-dropped 𝓛 n (plain (λ _. u8)) yes (λ κs x f. refl), all_go ps)
  all_go (truth ∷ ps) = (Goes-dropped 𝓛 n (plain (λ _. bool)) yes (λ κs x f. refl), all_go ps)

  module _ (κs : Lfts n) where
    abbrev pub had : (ps : List Plain) → Denots (rows n κs ps) → Fml
    had ps a = has_of κs (slots n ps) (keeps n ps) (stays n ps) a (lasting n κs ps a) (valued n κs ps a)

    pub none_had : (ps : List Plain) (a : Denots (rows n κs ps)) → ent 𝓤 (emp 𝓤) (sem 𝓛 (had ps a))
    none_had [] a = id⊢ 𝓤 (emp 𝓤)
    none_had (p ∷ ps) a = via 𝓤 (sep 𝓤 (emp 𝓤) (emp 𝓤)) (emp∗ 𝓤 (emp 𝓤)) (mono_r 𝓤 (emp 𝓤) (none_had ps a.1))

-- ---- their cells, one entry of the context: room for them, and filled
abbrev pub Blocks : List Plain → Type 0
Blocks [] = Unit {0}
Blocks (p ∷ ps) = ℕ × Blocks ps

module _ {M : Type 1} (𝓤 : Ura M) (H : Heap 𝓤) where
  abbrev pub env : (ps : List Plain) → Blocks ps → Env 𝓤 H → Env 𝓤 H
  env [] l E = E
  env (p ∷ ps) l E = (ty p, l.0) ∷ env ps l.1 E

  abbrev rooms : (ps : List Plain) → Blocks ps → Item 𝓤
  rooms [] l = ‵ ftrue
  rooms (p ∷ ps) l = (‵ (froom (ty p) l.0 zero) ⊛ ‵ (fdies (ty p) l.0)) ⊛ rooms ps l.1

  module _ (n : ℕ) (κs : Lfts n) where
    abbrev cells : (ps : List Plain) → Blocks ps → Denots (rows n κs ps) → Item 𝓤
    cells [] l a = ‵ ftrue
    cells (p ∷ ps) l a = (‵ (fat full_share (ty p) l.0 zero (val p a.0)) ⊛ ‵ (fdies (ty p) l.0)) ⊛ cells ps l.1 a.1

  -- in an environment that has them from a place on, the places behind them are those of what stands behind them
  abbrev From : (E₀ : Env 𝓤 H) → (ℕ → ℕ) → Env 𝓤 H → Type 0
  From E₀ at E = (i : ℕ) → spot_of 𝓤 H E₀ (at i) ≡ spot_of 𝓤 H E i

  pub from_behind : (ps : List Plain) (l : Blocks ps) (E₀ E : Env 𝓤 H) (at : ℕ → ℕ) → From E₀ at (env ps l E) → From E₀ (behind at ps) E
  from_behind [] l E₀ E at is i = is i
  from_behind (p ∷ ps) l E₀ E at is i = from_behind ps l.1 E₀ E (λ j. at (suc j)) (λ j. is (suc j)) i

-- ---- the steps: they are allocated, stored, read as operands, freed
module _ {M : Type 1} {𝓤 : Ura M} {𝓛 : Logic 𝓤} {K : Type 0} where
  open 𝓛 use {H}

  pub spot : K → {Γ : List (Item 𝓤)} {E : Env 𝓤 H} {i : ℕ} {τ : Ty} {b : ℕ} → spot_of 𝓤 H E i ≡ (τ, b, zero) → Finds K 𝓛 Γ E (place i []) (τ, b, zero)
  spot t {Γ} {E} {i} e = subst (λ sp. Finds K 𝓛 Γ E (place i []) sp) e (from t (stop t))

  pub alloc_all : K → (ps : List Plain) {Γ : List (Item 𝓤)} (ls : List Local) {Kt : Env 𝓤 H → Goal 𝓤 H}
      → ((l : Blocks ps) → Seq K 𝓛 (rooms 𝓤 H ps l ∷ Γ) (allocs ls (λ E. Kt (env 𝓤 H ps l E)))) → Seq K 𝓛 Γ (allocs (locals ps ls) Kt)
  alloc_all t [] ls k = nothing t $ k tt
  alloc_all t (p ∷ ps) ls k = alloc1 t (λ b. join t $ alloc_all t ps ls (λ l. move t (1 ∷ 0 ∷ []) $ join t $ k (b, l)))

  -- operands are read alike in a context that says the same
  alike : K → {Γ : List (Item 𝓤)} (Δ : List (Item 𝓤)) {E : Env 𝓤 H} {xs : List Operand} {vs : List Val}
      → ent 𝓤 (⋆ 𝓛 Γ) (⋆ 𝓛 Δ) → ent 𝓤 (⋆ 𝓛 Δ) (⋆ 𝓛 Γ) → Opds K 𝓛 Δ E xs vs → Opds K 𝓛 Γ E xs vs
  alike t {Γ} Δ to back os = record { go = λ Kt h. via 𝓤 (⋆ 𝓛 Δ) to (os.go Kt (via 𝓤 (⋆ 𝓛 Γ) back h)) }

  pub swapped : K → {i j : Item 𝓤} {Γ : List (Item 𝓤)} {E : Env 𝓤 H} {xs : List Operand} {vs : List Val} → Opds K 𝓛 (j ∷ i ∷ Γ) E xs vs → Opds K 𝓛 (i ∷ j ∷ Γ) E xs vs
  swapped t {i} {j} {Γ} = alike t (j ∷ i ∷ Γ) (qed 𝓛 (i ∷ j ∷ Γ) ∵ move ! (1 ∷ []) $ done !) (qed 𝓛 (j ∷ i ∷ Γ) ∵ move ! (1 ∷ []) $ done !)

  module _ (n : ℕ) (κs : Lfts n) where
    pub pass_all : K → (ps : List Plain) (l : Blocks ps) (a : Denots (rows n κs ps)) → Fit n κs ps a → {Γ : List (Item 𝓤)} (E : Env 𝓤 H) {g : Goal 𝓤 H}
        → Step K 𝓛 (cells 𝓤 H n κs ps l a ∷ Γ) g (rooms 𝓤 H ps l ∷ Γ) (passes (env 𝓤 H ps l E) (vals n κs ps a) g)
    pass_all t [] l a fit E = pass0 t
    pass_all t (p ∷ ps) l a fit E = step (λ s. split t $ split t $ pass1 t (init t 0 refl (typed p a.0 fit.0)) $ join t $ move t (1 ∷ 0 ∷ []) $
        pass_all t ps l.1 a.1 fit.1 E $ move t (1 ∷ 0 ∷ []) $ join t $ s)

    pub read_all : K → (ps : List Plain) (l : Blocks ps) (a : Denots (rows n κs ps)) (Γ : List (Item 𝓤)) (E₀ E : Env 𝓤 H) (at : ℕ → ℕ) → From 𝓤 H E₀ at (env 𝓤 H ps l E)
        → Opds K 𝓛 (cells 𝓤 H n κs ps l a ∷ Γ) E₀ (copies at ps) (vals n κs ps a)
    read_all t [] l a Γ E₀ E at is = no_more t
    read_all t (p ∷ ps) l a Γ E₀ E at is =
        let Δ : List (Item 𝓤) = ‵ (fat full_share (ty p) l.0 zero (val p a.0)) ∷ ‵ (fdies (ty p) l.0) ∷ Γ in
        let rest : Item 𝓤 = cells 𝓤 H n κs ps l.1 a.1 in
        alike t (rest ∷ Δ) (qed 𝓛 (cells 𝓤 H n κs (p ∷ ps) l a ∷ Γ) ∵ split ! $ split ! $ move ! (2 ∷ []) $ done !) (qed 𝓛 (rest ∷ Δ) ∵ move ! (1 ∷ 2 ∷ []) $ join ! $ join ! $ done !)
        (and_then t (load t (spot t (is 0)) (look t 1 refl)) (read_all t ps l.1 a.1 Δ E₀ E (λ i. at (suc i)) (λ i. is (suc i))))

    pub free_all : K → (ps : List Plain) (l : Blocks ps) (a : Denots (rows n κs ps)) {Γ : List (Item 𝓤)} {E : Env 𝓤 H} {g : Goal 𝓤 H}
        → Step K 𝓛 Γ (frees E g) (cells 𝓤 H n κs ps l a ∷ Γ) (frees (env 𝓤 H ps l E) g)
    free_all t [] l a = drop t
    free_all t (p ∷ ps) l a = step (λ s. split t $ split t $ forget t 0 refl $ free1 t $ free_all t ps l.1 a.1 $ s)
