-- `record_at` hands out the whole record at a place, or says that none stands there.
-- By the octets from that place on. Assumes nothing.
use Rattle.std.proofs.Common.{◌≡◌, ℕ, ◌+◌, List, length, take, drop, Option, Some, None, MatchOption, sym, refl, ap, ◌∙◌, inl, inr, arith, length-drop}
use Rattle.std.specs.List.{between}
use Rattle.std.proofs.lemmas.Slice.{between_to_end, between_from_start}
use Rattle.records.proofs.Records.{too_few, no_kind, other_length, cut_short, all_there}
use Rattle.records.proofs.record_at.Goals as goal
use Rattle.records.proofs.record_at.Goals.{then-length-eq0-via-then-length-eq0, then-length-eq0-via-else-length-eq0+then-from_high_first-length}

-- what follows in both cases
in_both : {A : Type 0} (o : Option A) {P P' : Type 0} {Q Q' : A → Type 0} → MatchOption o P Q → (P → P') → ((x : A) → Q x → Q' x) → MatchOption o P' Q'
in_both None p f g = f p
in_both (Some x) p f g = g x p

-- the part up to the end, as `get` hands it out
to_end : (s : List ℕ) (at : ℕ) {rest : List ℕ} → rest ≡ between at (length s) s → rest ≡ drop at s
to_end s at e = e ∙ between_to_end s at (length s) (omega arith)

pub returns-in_err-rest : goal.returns-in_err-rest
returns-in_err-rest c =
    let s = c.args.s.now in
    let at = c.args.at in
    rw c.from_residual.ensures (too_few s at (drop at s) refl (elim c.in_err-rest.ensures.lookup.0 [ inl p ↦ omega (arith, length-drop at s) | inr p ↦ omega arith ]))

pub returns-in_default : goal.returns-in_default
returns-in_default c = too_few c.args.s.now c.args.at _ (to_end c.args.s.now c.args.at c.in_ok-rest.ensures.lookup.0.2) c.in_default.len_below

pub returns-then-length-eq0 : goal.returns-then-length-eq0
returns-then-length-eq0 c =
    let s = c.args.s.now in
    let there = to_end s c.args.at c.in_ok-rest.ensures.lookup.0.2 in
    let n = c.length_of-length.ensures.0 in
    elim c.then-length-eq0.branch [
      | then-length-eq0-via-then-length-eq0 w ↦ no_kind s c.args.at _ there (omega (arith, n))
      | then-length-eq0-via-else-length-eq0+then-from_high_first-length w ↦
          other_length s c.args.at _ there c.in-len3-up.len_at_least (λ e. w.if-from_high_first-length.true (w.from_high_first.ensures ∙ e ∙ sym n))
    ]

pub returns : goal.returns
returns c =
    let s = c.args.s.now in
    let there = to_end s c.args.at c.in_ok-rest.ensures.lookup.0.2 in
    let n = c.length_of-length.ensures.0 in
    let said = sym c.from_high_first.ensures ∙ c.if-from_high_first-length.false ∙ n in
    in_both c.get-2.result c.get-2.ensures.lookup.0
    (λ short. cut_short s c.args.at _ there c.in-len3-up.len_at_least (elim short [ inl p ↦ omega arith | inr p ↦ omega (arith, n) ]))
    (λ x p.
    let a = all_there s c.args.at _ there c.in-len3-up.len_at_least (omega (arith, n)) said (omega (arith, n)) in
    (a.0, p.2 ∙ between_from_start c.in_ok-rest.rest.now _ ∙ ap (λ length. take (2 + length) c.in_ok-rest.rest.now) n ∙ a.1))
