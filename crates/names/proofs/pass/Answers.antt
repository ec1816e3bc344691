-- `names::pass` comes to the check of a book and the place of a code's entry.
-- The loop's invariant: over the entries that are left, with what was found before, the pass comes to that over the whole book. Assumes nothing.
use Rattle.std.proofs.Common.{◌≡◌, Bool, true, false, ◌&&◌, Option, Some, None, refl, sym, ap, ◌∙◌, rules}
use lib.Dec.{eqb}
use Rattle.std.specs.Option.{option_or}
use Rattle.std.specs.Bool.{then_some}
use Rattle.octets.specs.Choice.{when◌then◌else◌}
use Rattle.names.specs.declared.Code.{Code}
use Rattle.names.specs.declared.Place.{Place}
use Rattle.names.specs.Codes.{same_code}
use Rattle.names.specs.working.Pass.{kept}
use Rattle.names.proofs.Turns.{pass_no_version, pass_start, pass_end, pass_fault, pass_entry}
use Rattle.names.proofs.pass.Goals as goal

-- codes that are equal are the same
and_same : (a b : Code) → (eqb a.spa b.spa && eqb a.spq b.spq) ≡ same_code a b
unfolding same_code
and_same a b = by_tests (eqb a.spa b.spa) (eqb a.spq b.spq)
  where
    by_tests : (t u : Bool) → (t && u) ≡ (when t then u else false)
    by_tests true u = refl
    by_tests false u = refl

-- what is found here is kept behind what was found before
then_kept : (found : Option Place) (here : Bool) (p : Place) → option_or found (then_some here p) ≡ kept found (when here then Some p else None)
unfolding kept
then_kept found true p = refl
then_kept found false p = refl

pub returns-then-octet_at-ne1 : goal.returns-then-octet_at-ne1
returns-then-octet_at-ne1 c = sym (pass_no_version _ _ (λ e. c.if-octet_at-ne1.true (c.octet_at.ensures ∙ e)))

pub loop-entry-init : goal.loop-entry-init
loop-entry-init c =
    let e = c.entries_of-entry-items.ensures in
    rw (c.into_iter-entry-iterator.ensures.into_iter_gives, e.0, e.1, e.2, e.3) (pass_start _ _ (sym c.octet_at.ensures ∙ c.if-octet_at-ne1.false))

pub returns-in_err-entry : goal.returns-in_err-entry
returns-in_err-entry c =
    let e = pass_fault c.args.wanted c.loop-entry.found c.in-Some.ensures.steps c.in_err-entry.was ∙ c.loop-entry.invariant in
    search (rules, e)

pub loop-entry-preserved : goal.loop-entry-preserved
loop-entry-preserved c =
    let here = c.eq.ensures ∙ and_same c.in_ok-entry.entry.code c.args.wanted in
    let p = c.in_ok-entry.entry.place in
    let found = c.or-found.ensures ∙ ap (option_or c.loop-entry.found) c.then_some.ensures ∙ then_kept c.loop-entry.found c.eq.result p
    ∙ ap (λ (t : Bool). kept c.loop-entry.found (when t then Some p else None)) here in
    rw found (pass_entry c.args.wanted c.loop-entry.found c.in-Some.ensures.steps c.in_ok-entry.was ∙ c.loop-entry.invariant)

pub returns : goal.returns
returns c = pass_end _ _ c.in-None.ensures.steps.0 ∙ c.loop-entry.invariant
