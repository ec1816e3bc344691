-- A range splits at any instant: what is chosen to t, and then what is chosen from t + 1 on, is what is chosen in all.
-- Records of one point and record address do not fall back to an earlier minute. Assumes nothing.
use Prim.Native.Nat.{ℕ, zero, suc}
use mathlib.Core.Bool.{Bool, true, false, not, ◌&&◌, ◌||◌, false≢true}
use mathlib.Core.List.{List, [], ◌∷◌, ◌++◌}
use mathlib.Core.Path.{◌≡◌, refl, ap, sym, ◌∙◌}
use native.Mathlib.Omega.{arith}
use borrow.Author.Tests.{eqb-true, leb-true, leb-false, le-leb, lt-leb}
use lib.Dec.{leb, eqb, leb-zero}
use lib.IntN.{ℤ, pos, negsuc, suc_ℤ}
use lib.Signed.{le_z}
use Rattle.octets.specs.Choice.{when◌then◌else◌}
use Rattle.octets.proofs.Choice.{not_both, refuted}
use Rattle.octets.proofs.Conditions.{and_left, and_right}
use Rattle.label.specs.Label.{instant}
use Rattle.records.specs.Records.{kind_of}
use Rattle.records.specs.Said.{linked, keep}
use Rattle.records.proofs.Said.{keep_none}
use Rattle.fields.specs.Parts.{point_of, record_address, reading_label, event_label}
use Rattle.fields.specs.Answers.{records_of}
use Rattle.image.specs.Image.{in_order, sound_image}
use Rattle.image.proofs.Order.{linked_tail, before_rest, readings_rise, events_rise}
use Rattle.image.proofs.Soundness.{rules}
use Rattle.choice.specs.declared.Span.{Span}
use Rattle.choice.specs.declared.Query.TheVariants.{Reading, Event}
use Rattle.choice.specs.Choice.{in_span, chosen, choice}

-- the order of signed numbers
le_trans : (a b c : ℤ) → le_z a b ≡ true → le_z b c ≡ true → le_z a c ≡ true
le_trans (pos a) (pos b) (pos c) e f = le-leb a c (omega (arith, leb-true a b e, leb-true b c f))
le_trans (pos a) (pos b) (negsuc c) e f = absurd (false≢true f)
le_trans (pos a) (negsuc b) c e f = absurd (false≢true e)
le_trans (negsuc a) (pos b) (pos c) e f = refl
le_trans (negsuc a) (pos b) (negsuc c) e f = absurd (false≢true f)
le_trans (negsuc a) (negsuc b) (pos c) e f = refl
le_trans (negsuc a) (negsuc b) (negsuc c) e f = le-leb c a (omega (arith, leb-true b a e, leb-true c b f))

less_or_not : (m n : ℕ) → leb (suc n) m ≡ not (leb m n)
less_or_not m n = by_test (leb m n) refl
  where
    by_test : (t : Bool) → leb m n ≡ t → leb (suc n) m ≡ not t
    by_test true e = lt-leb (suc n) m (omega (arith, leb-true m n e))
    by_test false e = le-leb (suc n) m (leb-false m n e)

from_next : (t x : ℤ) → le_z (suc_ℤ t) x ≡ not (le_z x t)
from_next (pos n) (pos m) = less_or_not m n
from_next (pos n) (negsuc m) = refl
from_next (negsuc zero) (pos m) = leb-zero m
from_next (negsuc zero) (negsuc m) = rw (leb-zero m)
from_next (negsuc (suc n)) (pos m) = refl
from_next (negsuc (suc n)) (negsuc m) = sym (ap not (less_or_not m n) ∙ twice (leb m n))
  where
    twice : (t : Bool) → not (not t) ≡ t
    twice true = refl
    twice false = refl

-- an instant lies in one of the two parts, and in no more
module _ (first last t : ℤ) (low : le_z first (suc_ℤ t) ≡ true) (high : le_z t last ≡ true) (x : ℤ) where
  in_parts : (le_z first x && le_z x last) ≡ ((le_z first x && le_z x t) || (le_z (suc_ℤ t) x && le_z x last))
  in_parts = rw (from_next t x) (by_test (le_z x t) refl)
    where
      by_test : (u : Bool) → le_z x t ≡ u → (le_z first x && le_z x last) ≡ ((le_z first x && u) || (not u && le_z x last))
      by_test true e = rw (le_trans x t last e high) (either_way (le_z first x))
        where
          either_way : (v : Bool) → (v && true) ≡ ((v && true) || false)
          either_way true = refl
          either_way false = refl
      by_test false e =
          let after : le_z (suc_ℤ t) x ≡ true = from_next t x ∙ ap not e in
          rw (le_trans first (suc_ℤ t) x low after)

-- what is kept splits where the second part's records stand behind the first part's
keep_split : (f g h : List ℕ → Bool) → ((r : List ℕ) → f r ≡ (g r || h r)) → ((r : List ℕ) → g r ≡ true → h r ≡ false)
    → ((r q : List ℕ) → in_order r q ≡ true → h r ≡ true → g q ≡ false)
    → (rs : List (List ℕ)) → linked in_order rs ≡ true → keep f rs ≡ keep g rs ++ keep h rs
unfolding keep
keep_split f g h both apart behind [] l = refl
keep_split f g h both apart behind (r ∷ rs) l =
    by_tests (keep_split f g h both apart behind rs (linked_tail in_order r rs l)) (g r) (h r) refl refl
  where
    by_tests : keep f rs ≡ keep g rs ++ keep h rs → (t u : Bool) → g r ≡ t → h r ≡ u
        → (when f r then r ∷ keep f rs else keep f rs) ≡ (when t then r ∷ keep g rs else keep g rs) ++ (when u then r ∷ keep h rs else keep h rs)
    by_tests rest true true p q = absurd (not_both (apart r p) q)
    by_tests rest true false p q = rw (both r, p) (ap (r ∷◌) rest)
    by_tests rest false true p q =
        let none : keep g rs ≡ [] = keep_none g (in_order r) (λ s o. behind r s o q) rs (before_rest r rs l) in
        rw (both r, p, q, none) (ap (r ∷◌) (rest ∙ rw none))
    by_tests rest false false p q = rw (both r, p, q) rest

-- the two parts of a span
abbrev pub up_to : ℤ → Span → Span
up_to t span = record { point = span.point; record_address = span.record_address; first = span.first; last = t }

abbrev pub from_after : ℤ → Span → Span
from_after t span = record { point = span.point; record_address = span.record_address; first = suc_ℤ t; last = span.last }

-- a test of five conditions, taken apart; and with its last two in two parts
record Inside (k p a u v : Bool) : Type 0 where
  of_kind : k ≡ true
  of_point : p ≡ true
  of_address : a ≡ true
  after_first : u ≡ true
  before_last : v ≡ true

inside : (k p a u v : Bool) → (k && (p && (a && (u && v)))) ≡ true → Inside k p a u v
inside k p a u v e =
    let e₁ = and_right k (p && (a && (u && v))) e in
    let e₂ = and_right p (a && (u && v)) e₁ in
    let e₃ = and_right a (u && v) e₂ in
    record {
      of_kind = and_left k (p && (a && (u && v))) e;
      of_point = and_left p (a && (u && v)) e₁;
      of_address = and_left a (u && v) e₂;
      after_first = and_left u v e₃;
      before_last = and_right u v e₃;
    }

two_parts : (k p a t u v : Bool) → t ≡ (u || v) → (k && (p && (a && t))) ≡ ((k && (p && (a && u))) || (k && (p && (a && v))))
two_parts false p a t u v e = refl
two_parts true false a t u v e = refl
two_parts true true false t u v e = refl
two_parts true true true t u v e = e

-- records of a kind with a time that does not fall back
module _ (kind : ℕ) (time : List ℕ → ℤ)
    (rise : (r q : List ℕ) → point_of r ≡ point_of q → record_address r ≡ record_address q → in_order r q ≡ true → kind_of r ≡ kind → kind_of q ≡ kind → le_z (time r) (time q) ≡ true)
    (span : Span) (t : ℤ) (low : le_z span.first (suc_ℤ t) ≡ true) (high : le_z t span.last ≡ true) where
  of : Span → List ℕ → Bool
  of s r = eqb (kind_of r) kind && in_span s r (time r)

  parts_of_law : (s : Span) (r : List ℕ) → of s r ≡ true
      → Inside (eqb (kind_of r) kind) (eqb (point_of r) s.point.0) (eqb (record_address r) s.record_address) (le_z s.first (time r)) (le_z (time r) s.last)
  unfolding of in_span
  parts_of_law s r e = inside (eqb (kind_of r) kind) (eqb (point_of r) s.point.0) (eqb (record_address r) s.record_address) (le_z s.first (time r)) (le_z (time r) s.last) e

  not_later : (r : List ℕ) → le_z (time r) t ≡ true → le_z (suc_ℤ t) (time r) ≡ true → ⊥
  not_later r e f = not_both (from_next t (time r) ∙ ap not e) f

  either_part : (r : List ℕ) → of span r ≡ (of (up_to t span) r || of (from_after t span) r)
  unfolding of in_span
  either_part r =
      two_parts (eqb (kind_of r) kind) (eqb (point_of r) span.point.0) (eqb (record_address r) span.record_address) _ _ _
      (in_parts span.first span.last t low high (time r))

  not_both_parts : (r : List ℕ) → of (up_to t span) r ≡ true → of (from_after t span) r ≡ false
  not_both_parts r e = sym (refuted _ (λ f. not_later r (parts_of_law (up_to t span) r e).before_last (parts_of_law (from_after t span) r f).after_first))

  not_behind : (r q : List ℕ) → in_order r q ≡ true → of (from_after t span) r ≡ true → of (up_to t span) q ≡ false
  not_behind r q o e =
      sym (refuted _ (λ f.
      let x = parts_of_law (from_after t span) r e in
      let y = parts_of_law (up_to t span) q f in
      let points : point_of r ≡ point_of q = eqb-true _ _ x.of_point ∙ sym (eqb-true _ _ y.of_point) in
      let addresses : record_address r ≡ record_address q = eqb-true _ _ x.of_address ∙ sym (eqb-true _ _ y.of_address) in
      let later : le_z (time r) (time q) ≡ true = rise r q points addresses o (eqb-true _ _ x.of_kind) (eqb-true _ _ y.of_kind) in
      not_later r (le_trans (time r) (time q) t later y.before_last) x.after_first))

  split : (rs : List (List ℕ)) → linked in_order rs ≡ true → keep (of span) rs ≡ keep (of (up_to t span)) rs ++ keep (of (from_after t span)) rs
  split = keep_split (of span) (of (up_to t span)) (of (from_after t span)) either_part not_both_parts not_behind

-- of a sound image
module _ (image : List ℕ) (e : sound_image image ≡ true) (span : Span) (t : ℤ) (low : le_z span.first (suc_ℤ t) ≡ true) (high : le_z t span.last ≡ true) where
  pub readings_split : choice (Reading span) image ≡ choice (Reading (up_to t span)) image ++ choice (Reading (from_after t span)) image
  unfolding choice chosen of
  readings_split = split 4 (λ r. instant (reading_label r)) readings_rise span t low high (records_of image) (rules image e).in_order

  pub events_split : choice (Event span) image ≡ choice (Event (up_to t span)) image ++ choice (Event (from_after t span)) image
  unfolding choice chosen of
  events_split = split 5 (λ r. instant (event_label r).a) events_rise span t low high (records_of image) (rules image e).in_order
