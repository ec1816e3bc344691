-- What is found in a sound image, as records that are there: a point, its password, the switch dates. All points stand behind the first
-- record, where they are looked for, and they rise strictly: the first with an address is the only one. Assumes nothing.
use Prim.Native.Nat.{ℕ, ◌+◌}
use mathlib.Core.Bool.{Bool, true, false}
use mathlib.Core.List.{List, [], ◌∷◌}
use mathlib.Core.Path.{◌≡◌, refl, ap, sym, ◌∙◌}
use native.Mathlib.Omega.{arith}
use borrow.Author.Tests.{eqb-true, ltb-true}
use lib.Dec.{ltb, eqb}
use lib.ListN.{length}
use Rattle.octets.proofs.Choice.{refuted, either, if_both}
use Rattle.octets.proofs.Conditions.{and_left, and_right}
use Rattle.address.specs.declared.PointAddress.{PointAddress}
use Rattle.records.specs.Records.{kind_of, record_at, records_from, kind_at, place_after}
use Rattle.records.specs.Said.{linked, keep, how_many}
use Rattle.records.proofs.Said.{keep_none}
use Rattle.fields.specs.Parts.{point_of, password_of, is_kind, is_point}
use Rattle.fields.specs.Answers.{records_of, leading, points_from, points_of, point_in, point_found, dates_place, dates_at, dates_found}
use Rattle.image.specs.Image.{in_order, sound_image}
use Rattle.image.proofs.Order.{linked_tail, before_rest}
use Rattle.image.proofs.Known.{keep_front, found_point, from_kind, points_2, head_first, kept_points}
use Rattle.image.proofs.Soundness.{Sound, sound_facts}
use Rattle.image.proofs.Dates.{dates_found_law}
use Rattle.rules.specs.Decide.{known, dated, opens}
use Rattle.why.specs.InImage.{is_opened_by}

module _ (a p : ℕ) where
  -- what has an address and a password is a point with that address
  opened : (q : List ℕ) → is_opened_by a p q ≡ true → (kind_of q ≡ 2) × (point_of q ≡ a)
  unfolding is_opened_by
  opened q e =
      let point = and_left (is_point a q) _ e in (points_2 a q point, eqb-true (point_of q) a (and_right (eqb (kind_of q) 2) _ point))

  -- a record behind a point is no point with its address
  not_again : (r q : List ℕ) → kind_of r ≡ 2 → point_of r ≡ a → in_order r q ≡ true → is_opened_by a p q ≡ false
  unfolding in_order
  not_again r q k f o = sym (refuted _ (λ e. omega (arith, ltb-true (point_of r) (point_of q) (rw (k, (opened q e).0) at o), (opened q e).1)))

  -- so among the points behind it there is none
  none_behind : (r : List ℕ) (rs : List (List ℕ)) → linked in_order (r ∷ rs) ≡ true → kind_of r ≡ 2 → point_of r ≡ a
      → keep (is_opened_by a p) (leading (is_kind 2) rs) ≡ []
  none_behind r rs l k f =
      keep_front (is_opened_by a p) (λ q e. (opened q e).0) rs (from_kind r rs l 2 (omega arith)) (linked_tail in_order r rs l)
      ∙ keep_none (is_opened_by a p) (in_order r) (λ q. not_again r q k f) rs (before_rest r rs l)

  -- the first of some points with the address has the password exactly when one of them has both
  abbrev Agrees : ℕ → List (List ℕ) → Type 0
  Agrees n ps = opens (point_in a n ps) p ≡ ltb 0 (how_many (is_opened_by a p) ps)

  -- so it is where they stand in order: a point with the address is the only one, and else those behind it decide
  found_password : (n : ℕ) (rs : List (List ℕ)) → linked in_order rs ≡ true → Agrees n (leading (is_kind 2) rs)
  unfolding point_in leading how_many keep is_opened_by
  found_password n [] l = refl
  found_password n (r ∷ rs) l =
      either (Agrees n) (eqb (kind_of r) 2) (λ k. by_test (found_password (n + 1) rs (linked_tail in_order r rs l)) (eqb-true _ 2 k) (eqb (point_of r) a) refl) (λ k. refl)
    where
      by_test : Agrees (n + 1) (leading (is_kind 2) rs) → kind_of r ≡ 2 → (t : Bool) → eqb (point_of r) a ≡ t → Agrees n (r ∷ leading (is_kind 2) rs)
      by_test rest k false e = rw (k, e) rest
      by_test rest k true e =
          rw (k, e, none_behind r rs l k (eqb-true _ a e)) (either (λ (ps : List (List ℕ)). eqb (password_of r) p ≡ ltb 0 (length ps)) (eqb (password_of r) p) (λ f. f) (λ f. f))

-- a test that only points pass holds of as many points behind the first record as there are records that pass it
all_behind : {image : List ℕ} → Sound image → (f : List ℕ → Bool) → ((q : List ℕ) → f q ≡ true → kind_of q ≡ 2)
    → how_many f (points_of image) ≡ how_many f (records_of image)
unfolding how_many
all_behind s f point_only = ap length (sym (kept_points _ s.rules_hold.in_order s.head_stands f point_only))

-- a point is found in a sound image exactly when a record of it is there
pub point_there : (image : List ℕ) → sound_image image ≡ true → (address : PointAddress)
    → known (point_found address image) ≡ ltb 0 (how_many (is_point address.0) (records_of image))
unfolding point_found points_of points_from
point_there image e address =
    found_point _ 1 (records_from image (place_after image 1)) ∙ ap (ltb 0) (all_behind (sound_facts image e) (is_point address.0) (points_2 _))

-- its password is the right one exactly when a record of it with that password is there
pub password_there : (image : List ℕ) → sound_image image ≡ true → (address : PointAddress) (password : ℕ)
    → opens (point_found address image) password ≡ ltb 0 (how_many (is_opened_by address.0 password) (records_of image))
unfolding point_found points_of points_from
password_there image e address p =
    let s = sound_facts image e in
    let order = rw (head_first image s.rules_hold.in_order s.head_stands) at s.rules_hold.in_order in
    found_password _ p 1 _ (linked_tail in_order (record_at image 1) _ order) ∙ ap (ltb 0) (all_behind s (is_opened_by address.0 p) (λ q f. (opened _ p q f).0))

-- the switch dates are found exactly when a record of them is there
pub dates_there : (image : List ℕ) → sound_image image ≡ true
    → dated (dates_found image) ≡ ltb 0 (how_many (is_kind 3) (records_of image))
unfolding dates_found dates_at how_many
dates_there image e =
    rw (dates_found_law image e) (if_both (λ found (rs : List (List ℕ)). dated found ≡ ltb 0 (length rs)) (eqb (kind_at image (dates_place image)) 3) (λ k. refl) (λ k. refl))
