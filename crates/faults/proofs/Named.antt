-- Rules each of which names a fault: either no test holds, and what is given is what comes after them; or a fault is given, whatever comes after.
-- By the rules, one after the other. Assumes nothing.
use mathlib.Core.Bool.{Bool, true, false, not, ◌&&◌, false≢true}
use mathlib.Core.List.{List, [], ◌∷◌}
use mathlib.Core.Path.{◌≡◌, refl, ap}
use borrow.Author.Tests.{not-true, not-false}
use Rattle.octets.specs.Choice.{when◌then◌else◌}
use Rattle.octets.specs.Conditions.{holds}
use Rattle.octets.specs.First.{When, ◌⇒◌▸◌, first_of◌else◌}
use Rattle.octets.proofs.Choice.{either, not_both}
use Rattle.octets.proofs.Conditions.{and_left, and_right, holds_more, holds_none}

-- a test that is not refused holds, and the other way round
pub unrefused : (t : Bool) → not (not t) ≡ true → t ≡ true
unrefused t e = not-false t (not-true (not t) e)

pub refused_not : {t : Bool} → t ≡ true → not (not t) ≡ true
refused_not e = ap not (ap not e)

pub both : {t u : Bool} → t ≡ true → u ≡ true → (t && u) ≡ true
both e f = rw (e, f)

-- of conditions that hold, those behind the first
pub holds_later : (t : Bool) (ts : List Bool) → holds (t ∷ ts) ≡ true → holds ts ≡ true
unfolding holds
holds_later t ts e = and_right t (holds ts) e

module _ {A : Type 0} where
  -- that each test fails
  abbrev pub fails : List (When A) → List Bool
  fails [] = []
  fails (rule ∷ rules) = not rule.test ∷ fails rules

  -- each gives a fault
  abbrev pub naming : (A → Bool) → List (When A) → Bool
  naming fault [] = true
  naming fault (rule ∷ rules) = fault rule.gives && naming fault rules

  -- the same rules, with what each gives named otherwise
  abbrev pub renamed : {B : Type 0} → (A → B) → List (When A) → List (When B)
  renamed f [] = []
  renamed f (rule ∷ rules) = rule.test ⇒ f rule.gives ▸ renamed f rules

  -- what rules come to
  pub data Comes (fault : A → Bool) (rules : List (When A)) (other : A) : Type 0 where
    quiet : holds (fails rules) ≡ true → Comes fault rules other
    loud : fault (first_of rules else other) ≡ true → Comes fault rules other

  pub comes : (fault : A → Bool) (rules : List (When A)) (other : A) → naming fault rules ≡ true → Comes fault rules other
  comes fault [] other n = quiet holds_none
  comes fault (rule ∷ rules) other n = by_test (comes fault rules other (and_right (fault rule.gives) _ n)) rule.test refl
    where
      by_test : Comes fault rules other → (t : Bool) → rule.test ≡ t → Comes fault (rule ∷ rules) other
      by_test rest true e = loud (rw e (and_left (fault rule.gives) _ n))
      by_test (quiet all) false e = quiet (holds_more (fails rules) (ap not e) all)
      by_test (loud named) false e = loud (rw e named)

  -- where what comes after is a fault too, one is given
  pub always : (fault : A → Bool) (rules : List (When A)) (other : A) → naming fault rules ≡ true → fault other ≡ true → fault (first_of rules else other) ≡ true
  always fault [] other n o = o
  always fault (rule ∷ rules) other n o =
      either (λ (a : A). fault a ≡ true) rule.test (λ e. and_left (fault rule.gives) _ n)
      (λ e. always fault rules other (and_right (fault rule.gives) _ n) o)

  -- no test holds: what comes after is given
  pub passes : (rules : List (When A)) (other : A) → holds (fails rules) ≡ true → (first_of rules else other) ≡ other
  unfolding holds
  passes [] other h = refl
  passes (rule ∷ rules) other h = by_test (passes rules other) rule.test h
    where
      by_test : (holds (fails rules) ≡ true → (first_of rules else other) ≡ other)
          → (t : Bool) → (not t && holds (fails rules)) ≡ true → (when t then rule.gives else first_of rules else other) ≡ other
      by_test rest true h = absurd (false≢true h)
      by_test rest false h = rest h

  -- no fault is given: no test holds
  pub passed : (fault : A → Bool) (rules : List (When A)) (other : A) → naming fault rules ≡ true
      → fault (first_of rules else other) ≡ false → holds (fails rules) ≡ true
  passed fault rules other n e = by_way (comes fault rules other n)
    where
      by_way : Comes fault rules other → holds (fails rules) ≡ true
      by_way (quiet all) = all
      by_way (loud named) = absurd (not_both e named)

  -- a fault is given: it is, whatever comes after, and under its other name
  pub named_first : {B : Type 0} (fault : A → Bool) (f : A → B) (rules : List (When A)) (none : A) (other : B) → fault none ≡ false
      → fault (first_of rules else none) ≡ true → (first_of renamed f rules else other) ≡ f (first_of rules else none)
  named_first fault f [] none other z n = absurd (not_both z n)
  named_first fault f (rule ∷ rules) none other z n = by_test (named_first fault f rules none other z) rule.test n
    where
      by_test : (fault (first_of rules else none) ≡ true → (first_of renamed f rules else other) ≡ f (first_of rules else none))
          → (t : Bool) → fault (when t then rule.gives else first_of rules else none) ≡ true
          → (when t then f rule.gives else first_of renamed f rules else other) ≡ f (when t then rule.gives else first_of rules else none)
      by_test rest true n = refl
      by_test rest false n = rest n
