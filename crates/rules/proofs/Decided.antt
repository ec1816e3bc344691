-- The rule that `decide` gives holds, and none before it does: where a rule applies, none behind it in document 01's order is given.
-- By the law of the first that applies, over the rules of all messages and then those by type. Assumes nothing.
use Rattle.std.specs.Prelude.{Some}
use Prim.Native.Nat.{ℕ, ◌≤◌, ◌<◌}
use mathlib.Core.Bool.{Bool, true, false, not, ◌&&◌, ◌||◌, and-false, or-false, false≢true}
use mathlib.Core.List.{List, [], ◌∷◌, ◌++◌}
use mathlib.Core.Path.{◌≡◌, refl, sym, ap, ◌∙◌}
use native.Mathlib.Omega.{arith}
use lib.Dec.{eqb, leb}
use borrow.Author.Tests.{eq-eqb, ne_eqb, eqb-true, leb-true}
use Rattle.octets.specs.First.{When, first_of◌else◌}
use Rattle.octets.proofs.Choice.{refuted, flipped, not_both}
use Rattle.octets.proofs.Conditions.{and_left, and_right}
use Rattle.octets.proofs.First.{Gives, none, here, later, first_gives}
use Rattle.address.specs.declared.PointAddress.{PointAddress}
use Rattle.message.specs.declared.Request.{Request}
use Rattle.message.specs.declared.Row.{Row}
use Rattle.message.specs.Requests.{objects_offered, asks_readings}
use Rattle.message.specs.Table.{table, row_in}
use Rattle.fields.specs.Answers.{point_found, dates_found}
use Rattle.rules.proofs.Rules.{place, only_objects}
use Rattle.rules.specs.declared.Session.{Session}
use Rattle.rules.specs.declared.Session.TheVariants.{Closed, Open}
use Rattle.rules.specs.declared.Rule.{Rule}
use Rattle.rules.specs.declared.Rule.TheVariants.{NoSession, OtherSession, Shape, Objects, NoDates, WrongPassword, Accepted}
use Rattle.rules.specs.Rules.{cause_by}
use Rattle.rules.specs.Decide.{marked, is_closed, is_other, shaped, addressed, dated, rules, type_rules, by_type, decide}

-- whether a rule applies: one of the tests that give it holds
abbrev pub applies : Rule → List (When Rule) → Bool
applies rule [] = false
applies rule (w ∷ ws) = (eqb (place w.gives) (place rule) && w.test) || applies rule ws

-- rules in that order, from a place on
abbrev ordered : ℕ → List (When Rule) → Bool
ordered least [] = true
ordered least (w ∷ ws) = leb least (place w.gives) && ordered (place w.gives) ws

by_either : {P : Type 0} (t u : Bool) → (t || u) ≡ true → (t ≡ true → P) → (u ≡ true → P) → P
by_either true u e f g = f refl
by_either false u e f g = g e

either_true : (t u : Bool) → u ≡ true → (t || u) ≡ true
either_true true u e = refl
either_true false u e = e

-- a test that gives a rule is one of its place
its_place : (w : When Rule) (rule : Rule) → (eqb (place w.gives) (place rule) && w.test) ≡ true → place w.gives ≡ place rule
its_place w rule e = eqb-true _ _ (and_left (eqb (place w.gives) (place rule)) w.test e)

-- a rule that applies stands at that place or behind it
at_least : (least : ℕ) (ws : List (When Rule)) (rule : Rule) → ordered least ws ≡ true → applies rule ws ≡ true → least ≤ place rule
at_least least [] rule o a = absurd (false≢true a)
at_least least (w ∷ ws) rule o a =
    let first = leb-true least (place w.gives) (and_left (leb least (place w.gives)) _ o) in
    by_either (eqb (place w.gives) (place rule) && w.test) (applies rule ws) a (λ e. omega (arith, first, its_place w rule e))
    (λ e. omega (arith, first, at_least (place w.gives) ws rule (and_right (leb least (place w.gives)) _ o) e))

-- what is given stands there or before it
not_behind : (least : ℕ) (ws : List (When Rule)) (rule : Rule) {given : Rule} → ordered least ws ≡ true → applies rule ws ≡ true → Gives Accepted ws given
    → place given ≤ place rule
not_behind least [] rule o a g = absurd (false≢true a)
not_behind least (w ∷ ws) rule o a (here t) =
    by_either (eqb (place w.gives) (place rule) && w.test) (applies rule ws) a (λ e. omega (arith, its_place w rule e))
    (at_least (place w.gives) ws rule (and_right (leb least (place w.gives)) _ o))
not_behind least (w ∷ ws) rule o a (later t g) =
    by_either (eqb (place w.gives) (place rule) && w.test) (applies rule ws) a
    (λ e. absurd (not_both t (and_right (eqb (place w.gives) (place rule)) w.test e)))
    (λ e. not_behind (place w.gives) ws rule (and_right (leb least (place w.gives)) _ o) e g)

-- what is given applies, or no rule does
given_applies : (ws : List (When Rule)) {given : Rule} → Gives Accepted ws given → (given ≡ Accepted → ⊥) → applies given ws ≡ true
given_applies [] none refusal = absurd (refusal refl)
given_applies (w ∷ ws) (here t) refusal = rw (eq-eqb (place w.gives) (place w.gives) refl, t)
given_applies (w ∷ ws) {given} (later t g) refusal =
    either_true (eqb (place w.gives) (place given) && w.test) (applies given ws) (given_applies ws g refusal)

-- of two tests that do not both hold, the second holds
fails_first : (t u : Bool) → u ≡ true → ((t && u) || false) ≡ false → t ≡ false
fails_first true u e f = absurd (not_both (sym (or-false u) ∙ f) e)
fails_first false u e f = refl

-- a session that is neither closed nor another point's is that of the point
open_for : (session : Session) (point : PointAddress) → is_closed session ≡ false → is_other session point ≡ false → session ≡ Open point
open_for Closed point c o = absurd (not_both c refl)
open_for (Open p) point c o = ap (λ (n : ℕ). Open (record { 0 = n })) (eqb-true p.0 point.0 (flipped _ _ o))

module _ (session : Session) (image clock : List ℕ) (r : Request) where
  -- the rules of all messages, then those by type
  abbrev pub all_rules : List (When Rule)
  all_rules = rules session image r ++ type_rules image clock r

  abbrev pub given : Rule
  given = decide session image clock r

  -- the first that applies is given
  pub first_applies : Gives Accepted all_rules given
  unfolding decide by_type
  first_applies = first_gives all_rules Accepted

  -- none before it applies
  pub none_before : (rule : Rule) → place rule < place given → applies rule all_rules ≡ false
  none_before rule before = sym (refuted (applies rule all_rules) (λ a. omega (arith, before, not_behind 0 all_rules rule refl a first_applies)))

  -- where a rule applies, none behind it is given
  pub past : (rule wrong : Rule) → applies rule all_rules ≡ true → place rule < place wrong → wrong ≡ given → ⊥
  past rule wrong a behind e = omega (arith, behind, ap place e, not_behind 0 all_rules rule refl a first_applies)

  -- a rule that is given applies
  pub holds_of : (rule : Rule) → place rule < 18 → given ≡ rule → applies rule all_rules ≡ true
  holds_of rule refusal e = rw e at (given_applies all_rules first_applies (λ last. omega (arith, refusal, ap place (sym e ∙ last))))

  -- what is given last is given past every rule
  passed : given ≡ Accepted → (rule : Rule) → place rule < 18 → applies rule all_rules ≡ false
  passed last rule before = none_before rule (omega (arith, before, ap place last))

  -- what is accepted has as many octets as its row says
  pub accepted_octets : given ≡ Accepted → (w : Row) → row_in table r.header.type_id ≡ Some w → r.octets ≡ w.octets
  accepted_octets last w found =
      let shape : shaped (row_in table r.header.type_id) r ≡ true = flipped _ _ (sym (or-false _) ∙ passed last Shape (omega arith)) in
      eqb-true _ _ (and_left (eqb r.octets w.octets) _ (and_right (eqb r.header.structure w.count) _ (rw found at shape)))

  -- it stands in the session of its point, unless it is a 183
  pub accepted_open : given ≡ Accepted → (r.header.type_id ≡ 183 → ⊥) → session ≡ Open r.header.point
  accepted_open last other =
      let not_183 : not (eqb r.header.type_id 183) ≡ true = ap not (ne_eqb r.header.type_id 183 other) in
      open_for session r.header.point (fails_first (is_closed session) _ not_183 (passed last NoSession (omega arith)))
      (fails_first (is_other session r.header.point) _ not_183 (passed last OtherSession (omega arith)))

  -- a request for readings is accepted only for objects that are offered
  pub accepted_offered : given ≡ Accepted → asks_readings r.header.type_id ≡ true → objects_offered r.objects ≡ true
  accepted_offered last asks =
      let so : (asks_readings r.header.type_id && not (objects_offered r.objects)) ≡ false = sym (or-false _) ∙ passed last Objects (omega arith) in
      flipped _ _ (rw asks at so)

  -- cause 17 is for such a request with objects that are not offered, and for no other
  pub objects_only : cause_by given ≡ 17 → (asks_readings r.header.type_id ≡ true) × (objects_offered r.objects ≡ false)
  objects_only e =
      let seventh : place given ≡ 7 = only_objects given e in
      let so : (asks_readings r.header.type_id && not (objects_offered r.objects)) ≡ true =
      sym (or-false _) ∙ (rw seventh at (holds_of given (omega (arith, seventh)) refl)) in
      (and_left _ _ so, flipped _ _ (and_right (asks_readings r.header.type_id) _ so))

  -- and it gets 17, unless a rule of all messages applies before
  pub objects_refused : asks_readings r.header.type_id ≡ true → objects_offered r.objects ≡ false → given ≡ (first_of rules session image r else Objects)
  unfolding decide by_type
  objects_refused asks e = rw (asks, e)

  -- a 185 is accepted only where the image has dates
  pub accepted_dated : given ≡ Accepted → r.header.type_id ≡ 185 → dated (dates_found image) ≡ true
  accepted_dated last type =
      let so : ((eqb r.header.type_id 185 || eqb r.header.type_id 186) && not (dated (dates_found image))) ≡ false =
      sym (or-false _) ∙ passed last NoDates (omega arith) in
      flipped _ _ (rw (eq-eqb r.header.type_id 185 type) at so)

  -- only a 183 is refused by a wrong password
  pub wrong_183 : given ≡ WrongPassword → r.header.type_id ≡ 183
  wrong_183 e = eqb-true _ _ (and_left (eqb r.header.type_id 183) _ (sym (or-false _) ∙ holds_of WrongPassword (omega arith) e))

  -- a 183 in its shape and with its point's own password is accepted in whatever session
  pub opened : marked r.header.cause ≡ false → r.header.type_id ≡ 183 → shaped (row_in table r.header.type_id) r ≡ true
      → addressed (row_in table r.header.type_id) r.header.record_address ≡ true → (number : ℕ)
      → point_found r.header.point image ≡ Some (record { number = number; password = r.password }) → given ≡ Accepted
  unfolding decide by_type asks_readings table row_in
  opened unmarked type shape address number found =
      rw (
        unmarked,
        shape,
        address,
        found,
        type,
        and-false (is_closed session),
        and-false (is_other session r.header.point),
        eq-eqb r.password r.password refl,
      )
