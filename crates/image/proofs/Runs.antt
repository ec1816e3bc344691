-- A run of readings or of events, record by record: what is left from here on, behind the last key, is what was left at its start.
-- One law serves both kinds; a record's key says whether it fits. Assumes nothing.
use Rattle.std.specs.Prelude.{Some, None}
use Rattle.std.specs.Bool.{then_some}
use Prim.Native.Nat.{ℕ, ◌+◌, ◌≤◌, ◌<◌}
use mathlib.Core.Bool.{Bool, true, false, not, ◌&&◌, and-false, and-true}
use mathlib.Core.List.{List}
use mathlib.Core.Path.{◌≡◌, refl, ap, ap₂, sym, ◌∙◌}
use native.Mathlib.Omega.{arith}
use borrow.Author.Tests.{not-false, eqb-true, eqb-false, leb-true, leb-false, eq-eqb, ne_eqb, lt-ltb, le-ltb}
use lib.Dec.{ltb, leb, eqb}
use lib.IntN.{ℤ}
use lib.Signed.{lt_z}
use Rattle.std.proofs.lemmas.Int.{ints}
use Rattle.label.specs.declared.LabelB.{LabelB}
use lib.ListN.{length}
use Rattle.octets.specs.Choice.{when◌then◌else◌}
use Rattle.octets.proofs.Conditions.{and_right}
use Rattle.label.specs.Label.{instant, before_a, in_minute, before_b}
use Rattle.records.specs.Records.{length_of, kind_of, whole_at, record_at, kind_at, place_after}
use Rattle.records.proofs.Records.{Whole, whole_facts, whole_itself, last_kind, OfKind, kind_facts}
use Rattle.fields.specs.declared.Key.{Key}
use Rattle.fields.specs.working.Key.{key_of, key_at, key_as}
use Rattle.fields.specs.Answers.{points_of}
use Rattle.fields.proofs.Parts.{key_kind, key_4, key_5, key_whole, key_at_kind, key_as_law, key_not_as}
use Rattle.image.specs.declared.Walk.{Walk}
use Rattle.image.specs.Image.{right}
use Rattle.image.specs.working.Keys.{by_key, key_before, keys_in_order, fits, left, key_right, key_known, key_fits, AtStart, Passed, Behind, Runs, of_readings, of_events, kind_address, kind_valid, kind_follows, run_key, instant_where, Onward}
use Rattle.image.proofs.Keys.{minutes_only, left_step, left_stop}
use Rattle.image.proofs.Order.{part, part_not}
use Rattle.image.proofs.Known.{known_keys}

-- by its key, a record of such a kind
key_starts : (r : List ℕ) → AtStart (key_of r)
key_starts r e = rw (key_4 r (sym (key_kind r) ∙ e))

right_keys : {kind : ℕ} → Runs kind → (r : List ℕ) → kind_of r ≡ kind → key_right (key_of r) ≡ right r
unfolding key_right right
right_keys of_readings r k = rw (key_4 r k, k)
right_keys of_events r k = rw (key_5 r k, k)

fits_keys : {kind : ℕ} → Runs kind → (points : List (List ℕ)) (last : Key) (r : List ℕ) → Whole r → kind_of r ≡ kind
    → key_fits points last (key_of r) ≡ fits points last r
unfolding key_fits fits
fits_keys runs points last r w k = rw (right_keys runs r k, known_keys points r w)

-- any record, condition by condition
module _ (s : List ℕ) (at : ℕ) (last k : Key) (e : whole_at s at ≡ true) (there : k ≡ key_of (record_at s at)) where
  pub fits_known : right (record_at s at) ≡ true → keys_in_order last k ≡ true → key_known (points_of s) k ≡ fits (points_of s) last (record_at s at)
  unfolding fits
  fits_known p o =
      let r = record_at s at in
      let ordered : keys_in_order last (key_of r) ≡ true = ap (keys_in_order last) (sym there) ∙ o in
      ap (key_known (points_of s)) there ∙ known_keys (points_of s) r (whole_facts r (whole_itself s at e)) ∙ sym (rw (p, ordered))

  -- where it fits, what is left behind it is what was left in front of it
  pub left_behind : {next : ℕ} → next ≡ place_after s at → fits (points_of s) last (record_at s at) ≡ true → left s next k ≡ left s at last
  left_behind p f = ap₂ (left s) p there ∙ left_step s at last e f

  -- and it has passed
  pub passed : fits (points_of s) last (record_at s at) ≡ true → Passed s k
  unfolding fits
  passed f =
      let r = record_at s at in
      let w = whole_facts r (whole_itself s at e) in
      rw there
      (record {
        some_kind = rw (key_kind r) (last_kind (kind_of r) w.some);
        known = known_keys (points_of s) r w ∙ and_right (keys_in_order last (key_of r)) _ (and_right (right r) _ f);
        at_start_law = key_starts r;
      })

  pub fits_unordered : right (record_at s at) ≡ true → keys_in_order last k ≡ false → false ≡ fits (points_of s) last (record_at s at)
  unfolding fits
  fits_unordered p o =
      let ordered : keys_in_order last (key_of (record_at s at)) ≡ false = ap (keys_in_order last) (sym there) ∙ o in
      sym (rw (p, ordered))

  pub fits_wrong : right (record_at s at) ≡ false → false ≡ fits (points_of s) last (record_at s at)
  unfolding fits
  fits_wrong p = sym (rw p)

-- where a walk over a run stands, behind its start: the last record is of the kind, has passed, and its instant has been kept
pub record Stood (kind : ℕ) (s : List ℕ) (from walk : Walk) (minute : ℤ) : Type 0 where
  pub onward : Onward s from walk
  pub last_kind : walk.last.kind ≡ kind
  pub last_passed : Passed s walk.last
  pub kept : minute ≡ instant walk.last.label.a

pub run_begins : {kind : ℕ} {s : List ℕ} {from : Walk} {minute : ℤ} → from.last.kind ≡ kind → Passed s from.last → minute ≡ instant from.last.label.a
    → Stood kind s from from minute
run_begins k p m = record { onward = record { further = omega arith; decides = refl }; last_kind = k; last_passed = p; kept = m }

some_run : {kind : ℕ} → Runs kind → 0 < kind
some_run of_readings = omega arith
some_run of_events = omega arith

-- what is read there: a record of the kind, or none
module _ {kind : ℕ} {s : List ℕ} {from walk : Walk} {minute : ℤ} (runs : Runs kind) (stood : Stood kind s from walk minute) (k : Key) (e : Some k ≡ run_key kind s walk.at) where
  read_here : (kind_at s walk.at ≡ kind) × (k ≡ key_at s walk.at)
  read_here = by_test (eqb (kind_at s walk.at) kind) refl e
    where
      by_test : (t : Bool) → eqb (kind_at s walk.at) kind ≡ t → Some k ≡ (when t then Some (key_at s walk.at) else None)
          → (kind_at s walk.at ≡ kind) × (k ≡ key_at s walk.at)
      by_test true t same = (eqb-true _ _ t, cc)
      by_test false t same = absurd (cc)

  here : OfKind s walk.at kind
  here = kind_facts s walk.at kind read_here.0 (some_run runs)

  key_here : k ≡ key_of (record_at s walk.at)
  key_here = read_here.1 ∙ key_whole s walk.at here.whole_there

  fits_here : key_fits (points_of s) walk.last k ≡ fits (points_of s) walk.last (record_at s walk.at)
  fits_here =
      ap (key_fits (points_of s) walk.last) key_here
      ∙ fits_keys runs (points_of s) walk.last (record_at s walk.at) (whole_facts _ (whole_itself s walk.at here.whole_there)) here.of_kind

  pub run_room : walk.at + 2 + length_of kind ≤ length s
  run_room = here.room_there

  pub run_behind : Behind kind s walk.last minute k
  run_behind =
      record {
        last_kind = stood.last_kind;
        next_kind = ap (λ (l : Key). l.kind) key_here ∙ key_kind (record_at s walk.at) ∙ here.of_kind;
        last_passed = stood.last_passed;
        next_start = rw key_here (key_starts (record_at s walk.at));
        kept = stood.kept;
      }

  -- a record that fits is passed, and one that does not ends the walk
  pub run_advances : (octets : ℕ) (now : ℤ) → octets ≡ 2 + length_of kind → Some now ≡ instant_where (key_fits (points_of s) walk.last k) k
      → Stood kind s from (record { at = walk.at + octets; last = k }) now
  run_advances octets now o m = by_test (key_fits (points_of s) walk.last k) refl m
    where
      by_test : (t : Bool) → key_fits (points_of s) walk.last k ≡ t → Some now ≡ instant_where t k → Stood kind s from (record { at = walk.at + octets; last = k }) now
      by_test true f same =
          let f' = sym fits_here ∙ f in
          record {
            onward =
                record {
                  further = omega (arith, stood.onward.further);
                  decides = left_behind s walk.at walk.last k here.whole_there key_here (omega (arith, here.next, o)) f' ∙ stood.onward.decides;
                };
            last_kind = run_behind.next_kind;
            last_passed = passed s walk.at walk.last k here.whole_there key_here f';
            kept = cc;
          }
      by_test false f same = absurd (cc)

  pub run_stops : None ≡ instant_where (key_fits (points_of s) walk.last k) k → left s from.at from.last ≡ false
  run_stops m = by_test (key_fits (points_of s) walk.last k) refl m
    where
      by_test : (t : Bool) → key_fits (points_of s) walk.last k ≡ t → None ≡ instant_where t k → left s from.at from.last ≡ false
      by_test true f same = absurd (cc)
      by_test false f same = sym stood.onward.decides ∙ sym (left_stop s walk.at walk.last here.whole_there (sym fits_here ∙ f))

-- the key of the record of a kind, as it is read
pub read_key : (kind : ℕ) (s : List ℕ) (at : ℕ) (k : Key) → 0 < kind → k ≡ key_as kind s at → then_some (eqb k.kind kind) k ≡ run_key kind s at
read_key kind s at k some e = by_test (eqb (kind_at s at) kind) refl
  where
    by_test : (t : Bool) → eqb (kind_at s at) kind ≡ t → then_some (eqb k.kind kind) k ≡ (when t then Some (key_at s at) else None)
    by_test true t =
        let there = eqb-true _ _ t in
        let same = e ∙ key_as_law s at kind there in
        rw (same, eq-eqb (key_at s at).kind kind (key_at_kind s at ∙ there)) refl
    by_test false t =
        let same = e ∙ key_not_as s at kind (eqb-false _ _ t) in
        rw (same, ne_eqb 0 kind (λ z. omega arith)) refl

-- the order of two keys of one kind, by what their labels say
module _ (m n : ℕ) (t u v : Bool) where
  order_of_kinds : Bool
  order_of_kinds = when not (eqb m n) then ltb m n else when eqb m 2 then t else when eqb m 4 then u else when eqb m 5 then v else false

  order_4 : m ≡ 4 → n ≡ 4 → order_of_kinds ≡ u
  unfolding order_of_kinds
  order_4 e f = rw (e, f)

  order_5 : m ≡ 5 → n ≡ 5 → order_of_kinds ≡ v
  unfolding order_of_kinds
  order_5 e f = rw (e, f)

other_way : (k l : Key) (t : Bool) → not (by_key l k t) ≡ by_key k l (not t)
unfolding by_key
other_way k l t = part_not k.point.0 l.point.0 _ ∙ ap (part k.point.0 l.point.0) (part_not k.record_address l.record_address t)

run_order : {kind : ℕ} → Runs kind → {s : List ℕ} {last : Key} {minute : ℤ} {k : Key} → Behind kind s last minute k
    → by_key last k (kind_follows kind last.label k.label) ≡ keys_in_order last k
unfolding keys_in_order key_before order_of_kinds
run_order of_readings {last = last} {k = k} b =
    let labels : before_b last.label k.label ≡ before_a last.label.a k.label.a =
    ap₂ before_b (b.last_passed.at_start_law b.last_kind) (b.next_start b.next_kind) ∙ minutes_only last.label.a k.label.a in
    ap (by_key last k) (sym labels) ∙ sym (order_4 last.kind k.kind _ _ _ b.last_kind b.next_kind)
run_order of_events {last = last} {k = k} b =
    sym (other_way last k (before_b k.label last.label)) ∙ sym (order_5 last.kind k.kind _ _ _ b.last_kind b.next_kind)

-- the conditions of a key, one by one, where its label and then its record address have been judged
key_parts : {kind : ℕ} → Runs kind → (k : Key) → k.kind ≡ kind → key_right k ≡ (kind_address kind k.record_address && kind_valid kind k.label)
unfolding key_right
key_parts of_readings k n = rw n
key_parts of_events k n = rw n

module _ {kind : ℕ} (runs : Runs kind) {s : List ℕ} {last : Key} {minute : ℤ} {k : Key} (b : Behind kind s last minute k) where
  parts : key_fits (points_of s) last k ≡ ((kind_address kind k.record_address && kind_valid kind k.label) && (keys_in_order last k && key_known (points_of s) k))
  unfolding key_fits
  parts = rw (key_parts runs k b.next_kind)

  pub wrong_label : kind_valid kind k.label ≡ false → None ≡ instant_where (key_fits (points_of s) last k) k
  wrong_label v = rw (parts, v, and-false (kind_address kind k.record_address))

  -- the rest decides
  pub right_label : (address later goes : Bool) (now : ℤ) → kind_valid kind k.label ≡ true → now ≡ instant k.label.a
      → address ≡ kind_address kind k.record_address → later ≡ kind_follows kind last.label k.label
      → goes ≡ (by_key last k later && key_known (points_of s) k)
      → (when address && goes then Some now else None) ≡ instant_where (key_fits (points_of s) last k) k
  right_label address later goes now v m a l g =
      rw (parts, v, m, ← a, ← (run_order runs b), ← l, ← g, and-true address)

-- at most is not less the other way round
pub at_most : (x y : ℕ) → leb x y ≡ not (ltb y x)
at_most x y = by_test (leb x y) refl
  where
    by_test : (t : Bool) → leb x y ≡ t → t ≡ not (ltb y x)
    by_test true e = sym (rw (le-ltb y x (leb-true x y e)))
    by_test false e = sym (rw (lt-ltb y x (leb-false x y e)))

-- a key behind one of its kind whose point is known, part by part
module _ (points : List (List ℕ)) (last k : Key) (later : Bool) (n : last.kind ≡ k.kind) (e : key_known points last ≡ true) where
  other_point : Bool
  other_point = not (eqb last.point.0 k.point.0)

  still_known : other_point ≡ false → key_known points k ≡ true
  unfolding key_known other_point
  still_known p = rw (← n, ← (eqb-true last.point.0 k.point.0 (not-false _ p))) e

  pub by_point_law : not (eqb last.point.0 k.point.0) ≡ true → last.point.0 < k.point.0 → key_known points k ≡ (by_key last k later && key_known points k)
  unfolding by_key
  by_point_law p h = sym (rw (p, lt-ltb _ _ h))

  pub not_by_point : not (eqb last.point.0 k.point.0) ≡ true → k.point.0 ≤ last.point.0
      → ltb last.point.0 k.point.0 ≡ (by_key last k later && key_known points k)
  unfolding by_key
  not_by_point p h = rw (p, le-ltb _ _ h)

  pub by_address : not (eqb last.point.0 k.point.0) ≡ false → (last.record_address ≡ k.record_address → ⊥)
      → ltb last.record_address k.record_address ≡ (by_key last k later && key_known points k)
  unfolding by_key other_point
  by_address p a = sym (rw (still_known p, p, ne_eqb _ _ a) (and-true _))

  pub by_labels : not (eqb last.point.0 k.point.0) ≡ false → last.record_address ≡ k.record_address
      → later ≡ (by_key last k later && key_known points k)
  unfolding by_key other_point
  by_labels p a = sym (rw (still_known p, p, eq-eqb _ _ a) (and-true _))

-- the three ways of the order of events, by the instants of two labels
module _ (last l : LabelB) (x y : ℤ) (e : x ≡ instant last.a) (f : y ≡ instant l.a) where
  by_instants : before_b l last ≡ (when lt_z y x then true else when lt_z x y then false else ltb (in_minute l) (in_minute last))
  unfolding before_b before_a
  by_instants = rw (e, f)

  pub event_later : lt_z x y ≡ true → not (before_b l last) ≡ true
  event_later h = let not_before : lt_z y x ≡ false = grind (arith, ints) in rw (by_instants, h, not_before)

  pub event_same : x ≡ y → leb (in_minute last) (in_minute l) ≡ not (before_b l last)
  event_same h = let same : lt_z x x ≡ false = grind (arith, ints) in rw (by_instants, ← h, same) (at_most (in_minute last) (in_minute l))

  pub event_earlier : lt_z x y ≡ false → (x ≡ y → ⊥) → not (before_b l last) ≡ false
  event_earlier h n = let before : lt_z y x ≡ true = grind (arith, ints) in rw (by_instants, before)
