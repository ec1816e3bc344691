-- `of_kind` hands out the record of a kind at a place.
-- By a part as long as such a record: its kind and its length. Assumes nothing.
use Rattle.std.proofs.Common.{◌≡◌, ℕ, List, ◌+◌, length, drop, take, sym, ap, ◌∙◌, inl, inr, arith, length-drop}
use Rattle.std.specs.List.{between}
use Rattle.std.proofs.lemmas.Slice.{between_to_end, between_from_start}
use Rattle.records.specs.Records.{length_of}
use Rattle.fields.proofs.Parts.{no_room, right_there, stands_there}
use Rattle.fields.proofs.of_kind.Goals as goal
use Rattle.fields.proofs.of_kind.Goals.{else-r-kind-via-then-r-kind+else-said-length, else-r-kind-via-else-r-kind}

-- the part up to the end, and the part of it, as `get` hands them out
to_end : (s : List ℕ) (at : ℕ) (rest : List ℕ) → rest ≡ between at (length s) s → rest ≡ drop at s
to_end s at rest e = e ∙ between_to_end s at (length s) (omega arith)

part : (s : List ℕ) (at size many : ℕ) (rest r : List ℕ) → rest ≡ between at (length s) s → many ≡ 2 + size → r ≡ between 0 many rest
    → r ≡ take (2 + size) (drop at s)
part s at size many rest r e m f = f ∙ between_from_start rest many ∙ rw (m, to_end s at rest e)

pub returns-in_err-get : goal.returns-in_err-get
returns-in_err-get c =
    rw c.from_residual.ensures
    (no_room c.args.s.now c.args.at c.args.kind c.requires
    (elim c.in_err-get.ensures.lookup.0 [ inl p ↦ omega (arith, length-drop c.args.at c.args.s.now) | inr p ↦ omega arith ]))

pub returns-in_err-r : goal.returns-in_err-r
returns-in_err-r c =
    let s = c.args.s.now in
    let rest = to_end s c.args.at c.in_ok-get.field-0.now c.in_ok-get.ensures.lookup.0.2 in
    rw c.from_residual-in_err-r.ensures
    (no_room s c.args.at c.args.kind c.requires
    (elim c.in_err-r.ensures.lookup.0 [ inl p ↦ omega arith | inr p ↦ omega (arith, ap length rest, c.length_of-length.ensures.0) ]))

pub returns-then-said-length : goal.returns-then-said-length
returns-then-said-length c =
    let s = c.args.s.now in
    let rest = to_end s c.args.at c.in_ok-get.field-0.now c.in_ok-get.ensures.lookup.0.2 in
    let n = c.length_of-length.ensures.0 in
    let inside = c.in_ok-r.ensures.lookup.0 in
    stands_there s c.args.at c.args.kind c.requires c.in_ok-r.r.now
    (part s c.args.at (length_of c.args.kind) _ _ _ c.in_ok-get.ensures.lookup.0.2 (ap (λ (m : ℕ). 2 + m) n) inside.2)
    (omega (arith, ap length rest, n, inside.1)) c.if-r-kind.true (sym c.number_at-said.ensures ∙ c.if-said-length.true ∙ n)

pub returns-else-r-kind : goal.returns-else-r-kind
returns-else-r-kind c =
    let s = c.args.s.now in
    let n = c.length_of-length.ensures.0 in
    let inside = c.in_ok-r.ensures.lookup.0 in
    λ k.
    let right =
    right_there s c.args.at c.args.kind c.requires c.in_ok-r.r.now
    (part s c.args.at (length_of c.args.kind) _ _ _ c.in_ok-get.ensures.lookup.0.2 (ap (λ (m : ℕ). 2 + m) n) inside.2) k in
    elim c.else-r-kind.branch [
      | else-r-kind-via-then-r-kind+else-said-length w ↦ w.if-said-length.false (c.number_at-said.ensures ∙ right.1 ∙ sym n)
      | else-r-kind-via-else-r-kind w ↦ w.if-r-kind.false right.0
    ]
