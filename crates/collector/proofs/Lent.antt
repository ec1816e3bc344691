-- A collector that is lent: every function `f(collector: &mut Collector, ..)` that copies the collector out, hands it on by value with its other parameters,
-- and stores what it is answered. By one walk of MIR by hand: the borrow is opened, the struct is copied out and passed to the callee, what that answers is stored,
-- and the borrow is closed at it. What differs is the callee, the parameters, and which character they are. The prover finds
-- the proofs of `collect` and `collect_character` by itself, so nothing cites this law. Assumes nothing.
use mathlib.Core.Path.{◌≡◌, refl}
use mathlib.Core.List.{[], ◌∷◌, List}
use Prim.Native.Nat.{ℕ, suc}
use lib.Dec.{T}
use lib.ListN.{length}
use seplogic.Ra.Ura.{Ura}
use base.Fraction.{full_share}
use mir.Syntax.{Callee, ty_unit, ty_ref, mut, named, local, value_local, copy, opd_unit, place, deref, rv_opd, seq, assign, call, return, Fn}
use mir.Val.{Val, vunit, vptr, WT, has_ty}
use base.Logic.{SProp, ent, sep, ex, emp, via, fst∗, snd∗, ex_e, id⊢}
use base.Fml.{GName, ftrue, flft, fobs, fbor}
use prog.Model.{Model}
use prog.Routine.{Routine, Env as Means}
use prog.Wp.{Env, Calls, Loops, WpFn, Tables, Closed, spot_of}
use types.Logic.{Logic, sem}
use contract.Monad.{Fun, fact}
use contract.Lifetimes.{Lfts, Shares}
use contract.Running.{Running, tables, tables_of}
use types.Kit.{Item, ‵, raw, ◌⊛◌, some, later, Go, ◌$◌, ◌∵◌, !, qed, by, move, keep, drop, use0, use1, split, join, pick, fsplit, fsplit3, fjoin, fjoin3, feq_i, suffices, frame, await, updating, now as at_once, show, done}
use types.Run.{Finds, look, look_raw, init, store_raw, forget, stop, hop, from, load, unit_lit, of_opd, assigns, and_then, land, returns, enter, alloc1, alloc0, params1, pass1, free1, free0}
use types.SemTy.{Body}
use sound.WpLaws.{FmC, fm_of, WpFn-mono}
use denote.RattleType.{RattleType, Denots, Valss, owns}
use denote.Laws.{Is, shows}
use denote.Memory.{mem, pointee}
use denote.Builtin.{unit, RefMutOf}
use denote.Ref.{MutBor, MutRef, mut_vals, mut_Tells}
use denote.Signature.{plain}
use denote.Steps.{opens, closes, peeks, heard, nothing}
use denote.Struct.Steps.{spelt}
use denote.Struct.Laws as LL
use denote.Triple.Statement.{Contract, Triple}
use denote.Triple.Call.{calls_from}
use denote.Triple.Clauses.{Ended, Clauses, closing, ensured, lasts}
use denote.Triple.Entry.{on_entry}
use denote.Triple.Spec.{Meets, triple_of}
use denote.Triple.Table.{entered, cited}
use denote.Triple.Walked.{says, Stays, stay_ref, walk_of, Goes-ref, ends_at, walked, walk_Meets}
use denote.Exit.{yes}
use Rattle.profile.specs.declared.Profile.{Profile}
use Rattle.profile.specs.Profile.{CharacterIn}
use Rattle.collector.specs.declared.Collector.{Collector}
use Rattle.collector.specs.Collecting.{collected_in}
use Rattle.collector.specs.Calls.{PutIn}
use Rattle.collector.specs.contracts.Collector as T'
use Rattle.collector.proofs.Collector.TheLaws as L'
use Rattle.collector.proofs.Parameters.{Plain, slots, keeps, locals, copies, behind, rows, spells, all_tell, valued, vals, Fit, stays, lasting, all_fit, all_go, had, none_had, Blocks, env, from_behind, spot, alloc_all, swapped, pass_all, read_all, free_all}

abbrev R : RattleType
R = T'.the_row

-- the struct's machine value
abbrev mach : Collector → Val
mach h = LL.val T'.the_type L'.the_laws h

-- ---- the function, which calls g; its contract, and that of g
abbrev third : ℕ → ℕ
third i = suc (suc i)

abbrev pub function : Callee → List Plain → Fn
function g ps = record {
  lifetimes = 1;
  outlives = [];
  ty_params = [];
  givens = 0;
  params = suc (length ps);
  locals = local ty_unit value_local ∷ local (ty_ref (named 0) mut (pointee R.written)) value_local ∷ locals ps (local L'.mir value_local ∷ local L'.mir value_local ∷ []);
  body =
      seq (assign (place (behind third ps 1) []) (rv_opd (copy (place 1 (deref L'.mir ∷ [])))))
      (seq (call g (copy (place (behind third ps 1) []) ∷ copies third ps) (place (behind third ps 0) []))
      (seq (assign (place 1 (deref L'.mir ∷ [])) (rv_opd (copy (place (behind third ps 0) []))))
      (seq (assign (place 0 []) (rv_opd opd_unit)) return)));
}

abbrev pub lent : List Plain → Ended
lent ps = record {
  signature = record { lifetimes = 1; outlives = []; params = RefMutOf (0 ∷ []) tt (plain (λ _. R)) (λ _. tt) ∷ slots 1 ps; result = plain (λ _. unit) };
  kept = (yes, keeps 1 ps);
}

abbrev pub handed : List Plain → Ended
handed ps = record {
  signature = record { lifetimes = 0; outlives = []; params = plain (λ _. R) ∷ slots 0 ps; result = plain (λ _. R) };
  kept = (yes, keeps 0 ps);
}

module _ {M : Type 1} (𝓤 : Ura M) (p : Profile) (ps : List Plain) where
  abbrev pub puts : ((κs : Lfts 1) → Denots (rows 1 κs ps) → CharacterIn p) → Clauses 𝓤 (lent ps)
  puts character κs a = record { ghost = Unit {0}; requires = λ _. emp 𝓤; ensures = λ _ _ left. fact 𝓤 (PutIn p a.0.now (character κs a.1) left.0.now) }

  abbrev pub answers : (Denots (rows 0 tt ps) → CharacterIn p) → Clauses 𝓤 (handed ps)
  answers character κs a = record { ghost = Unit {0}; requires = λ _. emp 𝓤; ensures = λ _ r _. fact 𝓤 (r ≡ collected_in p a.0 (character a.1)) }

-- ---- a call of g. It is said of any number of lifetimes: g has none and its caller one, and at parameters that are written out the two say the same
module _ {M : Type 1} {𝓤 : Ura M} (𝓛 : Logic 𝓤) (p : Profile) (ps : List Plain) where
  open 𝓛 use {H}

  abbrev Answer : Collector → Val → SProp 𝓤
  Answer after v = H.⇛ (ex 𝓤 (λ (r : Collector). sep 𝓤 (sem 𝓛 (R.own_val r (v ∷ []))) (fact 𝓤 (r ≡ after))))

  abbrev pub Gives : Calls 𝓤 H → Callee → (n : ℕ) (κs : Lfts n) → (Denots (rows n κs ps) → CharacterIn p) → Type 1
  Gives C g n κs character = (h : Collector) (a : Denots (rows n κs ps))
      → ent 𝓤 (sep 𝓤 (sem 𝓛 (R.own_val h (mach h ∷ []))) (sem 𝓛 (owns (rows n κs ps) a (valued n κs ps a))))
      (C g (mach h ∷ vals n κs ps a) (Answer (collected_in p h (character a))))

  module _ (𝓣 : Tables 𝓤 H) (g : Callee) (character : Denots (rows 0 tt ps) → CharacterIn p) where
    abbrev Known : Contract 𝓤
    Known = triple_of 𝓛 (handed ps).signature (closing 𝓛 (handed ps) (answers 𝓤 p ps character))

    known_gives : Triple 𝓤 (𝓣.C g) Known → Gives 𝓣.C g 0 tt character
    known_gives known h a =
        let y : Known.Ghost = ((tt, tt, tt, (h, a), (mach h ∷ [], valued 0 tt ps a)), tt) in
        let φ : Collector → Type 0 = λ r. r ≡ collected_in p h (character a) in
        via 𝓤 (𝓣.C g (mach h ∷ vals 0 tt ps a) (Known.post y))
        (via 𝓤 (Known.pre y)
        (qed 𝓛 (‵ (R.own_val h (mach h ∷ [])) ∷ ‵ (owns (rows 0 tt ps) a (valued 0 tt ps a)) ∷ []) ∵ fjoin ! $ nothing ! $ join ! $ nothing ! $ move ! (1 ∷ 0 ∷ []) $ done !)
        (known y))
        (𝓣.mono g (mach h ∷ vals 0 tt ps a) (Known.post y) (Answer (collected_in p h (character a))) (λ v.
        qed 𝓛 (later (some (λ (r : Collector). (‵ ftrue ⊛ ‵ (R.own_val r (v ∷ []))) ⊛ raw (ensured 𝓛 (handed ps) (answers 𝓤 p ps character) tt (h, a) tt r))) ∷ []) ∵
        updating ! $ await ! tt $ at_once ! $ pick ! (λ r. split ! $ split ! $ drop ! $ move ! (1 ∷ []) $
        use1 𝓛 (raw (fact 𝓤 (φ r))) (ex_e 𝓤 _ (λ ws. snd∗ 𝓤 (sem 𝓛 (lasts (handed ps) tt (h, a) ws)) (fact 𝓤 (φ r)))) $ move ! (1 ∷ 0 ∷ []) $
        show ! (λ (r' : Collector). sep 𝓤 (sem 𝓛 (R.own_val r' (v ∷ []))) (fact 𝓤 (φ r'))) r $ done !)))

-- ---- the walk
module _ {M : Type 1} {𝓤 : Ura M} (𝓛 : Logic 𝓤) (p : Profile) (ps : List Plain) (character : (κs : Lfts 1) → Denots (rows 1 κs ps) → CharacterIn p) where
  open 𝓛 use {H, A}

  abbrev clauses : Clauses 𝓤 (lent ps)
  clauses = puts 𝓤 p ps character

  abbrev stayed : Stays (lent ps).signature.params (lent ps).kept
  stayed = (stay_ref (0 ∷ []) tt (plain (λ _. R)), stays 1 ps)

  typed : (r : Collector) (v : Val) → Is R r (v ∷ []) → T (has_ty L'.mir v) × WT v
  typed r v is = ((LL.lawful T'.the_type L'.the_laws 𝓛).typed r _ is).0

  -- the two locals that are the function's own, for the answer and for the copy, and all its locals
  abbrev two : ℕ → ℕ → Env 𝓤 H
  two l₂ l₃ = (L'.mir, l₂) ∷ (L'.mir, l₃) ∷ []

  abbrev all : ℕ → ℕ → Blocks ps → ℕ → ℕ → Env 𝓤 H
  all l₀ l₁ l l₂ l₃ = (ty_unit, l₀) ∷ (ty_ref (named 0) mut (pointee R.written), l₁) ∷ env 𝓤 H ps l (two l₂ l₃)

  own : {Γ : List (Item 𝓤)} (l₀ l₁ : ℕ) (l : Blocks ps) (l₂ l₃ i : ℕ) → Finds (Go {0}) 𝓛 Γ (all l₀ l₁ l l₂ l₃) (place (behind third ps i) []) (spot_of 𝓤 H (two l₂ l₃) i)
  own l₀ l₁ l l₂ l₃ i = spot ! (from_behind 𝓤 H ps l (all l₀ l₁ l l₂ l₃) (two l₂ l₃) third (λ j. refl) i)

  module _ (κs : Lfts 1) (qs : Shares 1) (b o : ℕ) (γ : GName) (h : Collector) (a : Denots (rows 1 κs ps)) where
    abbrev x : MutBor Collector × Denots (rows 1 κs ps)
    x = (record { ref_ptr = (b, o); ghost_name = γ; now = h }, a)

    abbrev at : List Val × Valss (rows 1 κs ps)
    at = (vptr b o ∷ [], valued 1 κs ps a)

    abbrev after : Collector
    after = collected_in p h (character κs a)

    abbrev Post : Val → SProp 𝓤
    Post = (walk_of 𝓛 (lent ps) stayed clauses).post ((κs, qs, tt, x, at), tt)

    exits : (r : Collector) → r ≡ after → ent 𝓤 (sep 𝓤 (A.obs γ (R.coded.code r)) (sep 𝓤 (A.bor κs.0 (Body (mem R) b o γ)) (A.lft κs.0 qs.0))) (Post vunit)
    exits r e =
        qed 𝓛 (‵ (fobs γ (R.coded.code r)) ∷ ‵ (fbor κs.0 (Body (mem R) b o γ)) ∷ ‵ (flft κs.0 qs.0) ∷ []) ∵
        suffices ! _ (ends_at 𝓛 (lent ps) stayed clauses ((κs, qs, tt, x, at), tt) vunit tt (r, lasting 1 κs ps a) (tt, all_fit 1 κs ps a)) $
        says ! (record { leaves = e }) $ nothing ! $ move ! (3 ∷ 0 ∷ []) $ join ! $ frame ! $ use0 𝓛 (‵ (had 𝓛 1 κs ps a)) (none_had 𝓛 1 κs ps a) $
        feq_i ! (List Val) (vptr b o ∷ []) (vptr b o ∷ []) refl $ move ! (0 ∷ 2 ∷ 3 ∷ []) $ fjoin3 ! $ fjoin ! $ feq_i ! (List Val) (vunit ∷ []) (vunit ∷ []) refl $ move ! (1 ∷ 0 ∷ []) $ done !

    walk : (C : Calls 𝓤 H) (Λ : Loops 𝓤 H) → FmC 𝓤 H 𝓛.laws C → (g : Callee) → Gives 𝓛 p ps C g 1 κs (character κs) → Fit 1 κs ps a
        → ent 𝓤 (on_entry 𝓛 (lent ps).signature κs qs x at) (WpFn 𝓤 H C Λ (function g ps) (vptr b o ∷ vals 1 κs ps a) Post)
    walk C Λ fm g known fit =
        qed 𝓛 ((‵ (flft κs.0 qs.0) ⊛ ‵ ftrue) ∷ ‵ (owns (MutRef (named 0) κs.0 R ∷ rows 1 κs ps) x at) ∷ []) ∵ split ! $ move ! (2 ∷ []) $ fsplit ! $ fsplit3 ! $ drop ! $ move ! (0 ∷ 1 ∷ 3 ∷ []) $
        -- [obs; the borrow; the token; what the parameters own; true]
        enter ! C Λ (function g ps) (vptr b o ∷ vals 1 κs ps a) _ $
        alloc1 ! (λ l₀. alloc1 ! (λ l₁. alloc_all ! ps _ (λ l. alloc1 ! (λ l₂. alloc1 ! (λ l₃. alloc0 ! $ params1 ! $ pass1 ! (init ! 5 refl (tt, tt)) $ move ! (4 ∷ []) $ pass_all 1 κs ! ps l a fit (two l₂ l₃) $
        move ! (9 ∷ 10 ∷ 11 ∷ []) $ opens ! tt R {h = h} b o (λ vs. spelt ! R (Is R) (shows 𝓛 R) (LL.vals T'.the_type L'.the_laws) (LL.tells T'.the_type L'.the_laws) full_share h vs b o $
        move ! (1 ∷ []) $ peeks ! R (Is R) (shows 𝓛 R) h (mach h ∷ []) (λ is. move ! (1 ∷ 0 ∷ []) $
        -- [the struct's cell; what it owns; the open borrow; obs; auth; the parameters; room for the copy; …; room for the answer; …; the reference; …; room for the result; …; what the parameters own; true]
        assigns ! (of_opd ! (load ! (from ! (hop ! (look ! 10 refl) (stop !))) (look_raw ! 0 refl))) (own l₀ l₁ l l₂ l₃ 1) (init ! 6 refl (typed h _ is)) $
        move ! (1 ∷ 14 ∷ 5 ∷ []) $ join ! $
        -- [what the struct and the parameters own; the parameters; the cell; the open borrow; obs; auth; the copy; …; room for the answer; …; the reference; …; room for the result; …; true]
        calls_from ! fm _ (mach h ∷ vals 1 κs ps a) (Answer 𝓛 p ps after) (known h a)
        (and_then ! (load ! (own l₀ l₁ l l₂ l₃ 1) (look ! 6 refl)) (swapped ! (read_all 1 κs ! ps l a _ (all l₀ l₁ l l₂ l₃) (two l₂ l₃) third (λ i. refl)))) (λ v.
        use1 𝓛 (later (some (λ (r : Collector). ‵ (R.own_val r (v ∷ [])) ⊛ raw (fact 𝓤 (r ≡ after))))) (id⊢ 𝓤 _) $ await ! tt $ pick ! (λ r. split ! $ move ! (1 ∷ []) $ heard ! (r ≡ after) (λ e.
        peeks ! R (Is R) (shows 𝓛 R) r (v ∷ []) (λ is'.
        -- [what the answer owns; the parameters; the cell; the open borrow; obs; auth; the copy; …; room for the answer; …]
        land ! (own l₀ l₁ l l₂ l₃ 0) (init ! 8 refl (typed r _ is')) $
        assigns ! (of_opd ! (load ! (own l₀ l₁ l l₂ l₃ 0) (look ! 8 refl))) (from ! (hop ! (look ! 10 refl) (stop !))) (store_raw ! 2 refl (typed r _ is')) $
        assigns ! (of_opd ! (unit_lit !)) (from ! (stop !)) (init ! 12 refl (tt, tt)) $
        move ! (2 ∷ 0 ∷ 3 ∷ 4 ∷ 5 ∷ []) $ closes ! tt R r (v ∷ []) b o $
        -- [obs; the borrow; the token; the parameters; the copy; …; the answer; …; the reference; …; the result; …; true]
        returns ! (look ! 10 refl) $ forget ! 4 refl $ forget ! 6 refl $ forget ! 8 refl $ forget ! 10 refl $ move ! (10 ∷ 11 ∷ []) $ free1 ! $ move ! (8 ∷ 9 ∷ []) $ free1 ! $
        move ! (3 ∷ []) $ free_all 1 κs ! ps l a $ move ! (5 ∷ 6 ∷ []) $ free1 ! $ move ! (3 ∷ 4 ∷ []) $ free1 ! $ free0 ! $
        keep ! (0 ∷ 1 ∷ 2 ∷ []) $ by ! (exits r e))))))))))))

  lent_meets : (𝓣 : Tables 𝓤 H) (g : Callee) → ((κs : Lfts 1) → Gives 𝓛 p ps 𝓣.C g 1 κs (character κs))
      → Meets 𝓛 (lent ps).signature (WpFn 𝓤 H 𝓣.C 𝓣.Λ (function g ps)) (closing 𝓛 (lent ps) clauses)
  lent_meets 𝓣 g known =
      let run : Fun 𝓤 = WpFn 𝓤 H 𝓣.C 𝓣.Λ (function g ps) in
      walk_Meets 𝓛 (lent ps) stayed (Goes-ref 𝓛 1 0 tt (plain (λ _. R)), all_go 𝓛 1 ps) clauses run (WpFn-mono 𝓤 H 𝓛.laws 𝓣 (function g ps))
      (walked 𝓛 (lent ps) stayed clauses run (λ κs. (mut_vals, spells 1 κs ps)) (λ κs. (mut_Tells (named 0) κs.0 R, all_tell 1 κs ps))
      (λ κs qs bounds a _ are. via 𝓤 _ (fst∗ 𝓤 _ (emp 𝓤))
      (walk κs qs a.0.ref_ptr.0 a.0.ref_ptr.1 a.0.ghost_name a.0.now a.1 𝓣.C 𝓣.Λ (fm_of 𝓤 H 𝓛.laws 𝓣) g (known κs) are.1)))

-- ---- the two ends: the theorem of g, and the statement of the function
module _ {M : Type 1} {𝓤 : Ura M} (𝓛 : Logic 𝓤) (𝓜 : Model 𝓤 𝓛.H) (𝓡 : Running 𝓤 𝓛.H 𝓜) (γ : Means) (p : Profile) (ps : List Plain) where
  open 𝓛 use {H}

  pub callee_gives : (character : Denots (rows 0 tt ps) → CharacterIn p) (g : Callee) (r : Routine) → γ g ≡ r
      → Meets 𝓛 (handed ps).signature (𝓡.run r) (closing 𝓛 (handed ps) (answers 𝓤 p ps character))
      → Gives 𝓛 p ps (tables 𝓤 H 𝓜 𝓡 γ).C g 0 tt character
  unfolding tables_of
  callee_gives character g r is met =
      known_gives 𝓛 p ps (tables_of 𝓤 H 𝓜 (tables 𝓤 H 𝓜 𝓡 γ)) g character
      (cited 𝓤 H (Known 𝓛 p ps (tables_of 𝓤 H 𝓜 (tables 𝓤 H 𝓜 𝓡 γ)) g character) 𝓜 𝓡 γ g r is met)

  pub lent_holds : (character : (κs : Lfts 1) → Denots (rows 1 κs ps) → CharacterIn p) (f g : Callee)
      → Closed 𝓤 H (tables 𝓤 H 𝓜 𝓡 γ).C (tables 𝓤 H 𝓜 𝓡 γ).Λ f (function g ps)
      → ((κs : Lfts 1) → Gives 𝓛 p ps (tables 𝓤 H 𝓜 𝓡 γ).C g 1 κs (character κs))
      → Meets 𝓛 (lent ps).signature (𝓡.run (γ f)) (closing 𝓛 (lent ps) (puts 𝓤 p ps character))
  unfolding tables_of
  lent_holds character f g closed known =
      entered 𝓤 H (triple_of 𝓛 (lent ps).signature (closing 𝓛 (lent ps) (puts 𝓤 p ps character))) (tables 𝓤 H 𝓜 𝓡 γ).C (tables 𝓤 H 𝓜 𝓡 γ).Λ f (function g ps) closed
      (lent_meets 𝓛 p ps character (tables_of 𝓤 H 𝓜 (tables 𝓤 H 𝓜 𝓡 γ)) g known)
