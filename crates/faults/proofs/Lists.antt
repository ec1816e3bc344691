-- Lists of records with one more behind them, and cut in two: what holds of each, of neighbours, and how many there are.
-- By recursion on the records in front. Assumes nothing.
use Prim.Native.Nat.{ℕ, ◌+◌}
use mathlib.Core.Bool.{Bool, true, false}
use mathlib.Core.List.{List, [], ◌∷◌, ◌++◌, flatten}
use mathlib.Core.Path.{◌≡◌, refl, ap, ◌∙◌}
use native.Mathlib.Omega.{arith}
use borrow.Author.Tests.{ltb-true, lt-ltb}
use lib.Dec.{ltb, leb}
use lib.ListN.{length, length-append}
use Rattle.octets.specs.Choice.{when◌then◌else◌}
use Rattle.octets.proofs.Conditions.{and_left, and_right}
use Rattle.records.specs.Records.{kind_of}
use Rattle.records.specs.Said.{every, linked, keep, how_many}
use Rattle.records.proofs.Places.{keep_append}
use Rattle.fields.specs.Parts.{point_of, is_point}
use Rattle.image.specs.Image.{in_order, knows}
use Rattle.image.proofs.Order.{linked_tail}
use Rattle.faults.specs.Images.{follows}

module _ (f : List ℕ → Bool) where
  pub every_more : (rs : List (List ℕ)) (r : List ℕ) → every f rs ≡ true → f r ≡ true → every f (rs ++ (r ∷ [])) ≡ true
  unfolding every
  every_more [] r e p = rw p
  every_more (q ∷ rs) r e p = rw (and_left (f q) (every f rs) e, every_more rs r (and_right (f q) (every f rs) e) p)

  pub every_back : (rs qs : List (List ℕ)) → every f (rs ++ qs) ≡ true → every f qs ≡ true
  unfolding every
  every_back [] qs e = e
  every_back (r ∷ rs) qs e = every_back rs qs (and_right (f r) (every f (rs ++ qs)) e)

  pub how_many_law : (rs qs : List (List ℕ)) → how_many f (rs ++ qs) ≡ how_many f rs + how_many f qs
  unfolding how_many
  how_many_law rs qs = ap length (keep_append f rs qs) ∙ length-append (keep f rs) (keep f qs)

  pub one_more : (r : List ℕ) → f r ≡ true → how_many f (r ∷ []) ≡ 1
  unfolding how_many keep
  one_more r e = rw e

  pub no_more : (r : List ℕ) → f r ≡ false → how_many f (r ∷ []) ≡ 0
  unfolding how_many keep
  no_more r e = rw e

-- neighbours in order
pub linked_more : (rs : List (List ℕ)) (r : List ℕ) → linked in_order rs ≡ true → follows rs r ≡ true → linked in_order (rs ++ (r ∷ [])) ≡ true
unfolding linked follows
linked_more [] r l p = refl
linked_more (q ∷ []) r l p = rw p
linked_more (q ∷ o ∷ rs) r l p =
    rw (and_left (in_order q o) (linked in_order (o ∷ rs)) l, linked_more (o ∷ rs) r (and_right (in_order q o) (linked in_order (o ∷ rs)) l) p)

pub linked_back : (rs qs : List (List ℕ)) → linked in_order (rs ++ qs) ≡ true → linked in_order qs ≡ true
linked_back [] qs l = l
linked_back (r ∷ rs) qs l = linked_back rs qs (linked_tail in_order r (rs ++ qs) l)

pub linked_follows : (before : List (List ℕ)) (r : List ℕ) (rs : List (List ℕ)) → linked in_order (before ++ (r ∷ rs)) ≡ true → follows before r ≡ true
unfolding linked follows
linked_follows [] r rs l = refl
linked_follows (q ∷ []) r rs l = and_left (in_order q r) (linked in_order (r ∷ rs)) l
linked_follows (q ∷ o ∷ before) r rs l = linked_follows (o ∷ before) r rs (and_right (in_order q o) (linked in_order (o ∷ (before ++ (r ∷ rs)))) l)

pub follows_last : (rs : List (List ℕ)) (q r : List ℕ) → follows (rs ++ (q ∷ [])) r ≡ in_order q r
unfolding follows
follows_last [] q r = refl
follows_last (p ∷ []) q r = refl
follows_last (p ∷ o ∷ rs) q r = follows_last (o ∷ rs) q r

-- a point that is known stays known
pub knows_more : (rs qs : List (List ℕ)) (r : List ℕ) → knows rs r ≡ true → knows (rs ++ qs) r ≡ true
unfolding knows
knows_more rs qs r e = by_test (leb 4 (kind_of r)) e
  where
    by_test : (t : Bool) → (when t then ltb 0 (how_many (is_point (point_of r)) rs) else true) ≡ true
        → (when t then ltb 0 (how_many (is_point (point_of r)) (rs ++ qs)) else true) ≡ true
    by_test true h = lt-ltb 0 (how_many (is_point (point_of r)) (rs ++ qs)) (omega (arith, ltb-true 0 (how_many (is_point (point_of r)) rs) h, how_many_law (is_point (point_of r)) rs qs))
    by_test false h = refl

-- the octets of records end to end
pub flatten_more : (rs : List (List ℕ)) (r : List ℕ) → length (flatten (rs ++ (r ∷ []))) ≡ length (flatten rs) + length r
unfolding flatten
flatten_more [] r = length-append r [] ∙ omega arith
flatten_more (q ∷ rs) r =
    let rest = flatten_more rs r in
    omega (arith, length-append q (flatten (rs ++ (r ∷ []))), length-append q (flatten rs))
