-- What the public contracts of this crate do not allow: two wrong outcomes or more of each.
-- By the laws of collecting and of the count. Assumes nothing.
use Prim.Native.Nat.{ℕ, ◌+◌, ◌≤◌, ◌<◌}
use mathlib.Core.Bool.{true, false, not, or-true}
use mathlib.Core.List.{List, [], ◌∷◌}
use mathlib.Core.Path.{◌≡◌, refl, sym, ap, ◌∙◌}
use native.Mathlib.Omega.{arith}
use contract.Lifetimes.{Lfts}
use lib.Dec.{ltb}
use lib.ListN.{length, get_or, replicate, get_or-replicate}
use lib.Seq.{get_or-set_same}
use borrow.Author.Tests.{lt-ltb, le-ltb}
use Rattle.octets.proofs.Choice.{either, not_both}
use Rattle.octets.proofs.Outcome.{RuledOut, Place, lent, never}
use Rattle.frame.specs.declared.Fault.TheVariants.{Empty, Parity, Malformed}
use Rattle.profile.specs.declared.Character.{Character}
use Rattle.profile.specs.declared.Profile.{Profile}
use Rattle.profile.specs.declared.Profile.TheVariants.{Ten}
use Rattle.profile.specs.Character.{even_parity}
use Rattle.profile.specs.Profile.{CharacterIn, octet_in, right_in}
use Rattle.collector.specs.declared.Collector.{Collector}
use Rattle.collector.specs.Collecting.{emptied, overfull, collected_in}
use Rattle.collector.specs.Calls.{collected_all_in, PutIn}
use Rattle.collector.specs.Damage.{one_more}
use Rattle.collector.proofs.Collecting.{collected_stores, collected_over}
use Rattle.collector.proofs.Collector.new.Reads as collector_new
use Rattle.collector.proofs.Collector.with.Reads as collector_with
use Rattle.collector.proofs.Collector.with_character.Reads as with_character
use Rattle.collector.proofs.Collector.with_all.Reads as collector_with_all
use Rattle.collector.proofs.is_damaged.Reads as is_damaged
use Rattle.collector.proofs.one_more.Reads as one_more_call

module _ (κs : Lfts 0) where
  -- a collector that is not empty, whatever stands in it
  collector_new_length : (wrong : Collector) → (wrong.length ≡ 0 → ⊥) → RuledOut (collector_new.Post κs) tt wrong
  unfolding emptied
  collector_new_length wrong some s p = some (ap (λ (c : Collector). c.length) p)

  -- an empty collector with an octet that is not zero
  collector_new_octets : (wrong : Collector) (i : ℕ) → i < 261 → (get_or wrong.octets i 0 ≡ 0 → ⊥) → RuledOut (collector_new.Post κs) tt wrong
  unfolding emptied
  collector_new_octets wrong i inside other s p = other (ap (λ (c : Collector). get_or c.octets i 0) p ∙ get_or-replicate 261 i 0 0 inside)

  -- the octet stored and not counted, whatever was in
  collector_with_uncounted : (c wrong : Collector) (octet : ℕ) → c.length < 261 → wrong.length ≡ c.length
      → RuledOut (collector_with.Post κs) (c, (octet, tt)) wrong
  unfolding collected_in
  collector_with_uncounted c wrong octet room same s p = omega (arith, ap (λ (d : Collector). d.length) (rw (lt-ltb c.length 261 room) at p))

  -- another octet in the place of the one that came, whatever was in
  collector_with_octet : (c wrong : Collector) (octet : ℕ) → c.length < 261 → length c.octets ≡ 261
      → (get_or wrong.octets c.length 0 ≡ octet → ⊥)
      → RuledOut (collector_with.Post κs) (c, (octet, tt)) wrong
  unfolding collected_in
  collector_with_octet c wrong octet room whole other s p =
      other (ap (λ (d : Collector). get_or d.octets c.length 0) (rw (lt-ltb c.length 261 room) at p)
      ∙ get_or-set_same c.octets c.length octet 0 (omega arith))

  -- a collector that is full and does not become overfull, whatever comes
  collector_with_mark : (c wrong : Collector) (octet : ℕ) → 261 ≤ c.length → (wrong.length ≡ 262 → ⊥)
      → RuledOut (collector_with.Post κs) (c, (octet, tt)) wrong
  unfolding collected_in overfull
  collector_with_mark c wrong octet full other s p = other (ap (λ (d : Collector). d.length) (rw (le-ltb c.length 261 full) at p))

  -- an octet kept in a collector that becomes overfull, the 262nd or one before it
  collector_with_kept : (c wrong : Collector) (octet i : ℕ) → 261 ≤ c.length → i < 261 → (get_or wrong.octets i 0 ≡ 0 → ⊥)
      → RuledOut (collector_with.Post κs) (c, (octet, tt)) wrong
  unfolding collected_in overfull
  collector_with_kept c wrong octet i full inside other s p =
      other (ap (λ (d : Collector). get_or d.octets i 0) (rw (le-ltb c.length 261 full) at p) ∙ get_or-replicate 261 i 0 0 inside)

  module _ (c wrong : Collector) (x : Character) where
    -- a wrong parity bit that leaves no mark, while there is room
    with_character_unmarked : c.length < 261 → even_parity x ≡ false → wrong.marked ≡ false → RuledOut (with_character.Post κs) (c, (x, tt)) wrong
    unfolding collected_in
    with_character_unmarked room odd lost s p = not_both lost (ap (λ (d : Collector). d.marked) (rw (lt-ltb c.length 261 room, odd) at p))

    -- a mark that a right parity bit behind it takes away
    with_character_forgotten : c.length < 261 → c.marked ≡ true → wrong.marked ≡ false → RuledOut (with_character.Post κs) (c, (x, tt)) wrong
    unfolding collected_in
    with_character_forgotten room marked lost s p =
        not_both lost (ap (λ (d : Collector). d.marked) (rw (lt-ltb c.length 261 room, marked) at p) ∙ or-true (not (even_parity x)))

    -- a mark without a wrong parity bit
    with_character_marked : c.marked ≡ false → even_parity x ≡ true → wrong.marked ≡ true → RuledOut (with_character.Post κs) (c, (x, tt)) wrong
    unfolding collected_in overfull
    with_character_marked unmarked even set s p =
        not_both (either (λ (d : Collector). d.marked ≡ false) (ltb c.length 261) (λ t. rw (even, unmarked)) (λ t. refl)) (sym (ap (λ (d : Collector). d.marked) p) ∙ set)

    -- a character with a wrong parity bit that does not count towards the length, or any other that does not
    with_character_uncounted : c.length < 261 → wrong.length ≡ c.length → RuledOut (with_character.Post κs) (c, (x, tt)) wrong
    unfolding collected_in
    with_character_uncounted room same s p = omega (arith, ap (λ (d : Collector). d.length) (rw (lt-ltb c.length 261 room) at p))

  -- an empty run called damaged
  is_damaged_empty : RuledOut (is_damaged.Post κs) (Empty, tt) true
  is_damaged_empty s p = never (cc)

  -- a run with a wrong parity bit passed over
  is_damaged_parity : RuledOut (is_damaged.Post κs) (Parity, tt) false
  is_damaged_parity s p = never (cc)

  -- a run that is not the form of a frame passed over
  is_damaged_malformed : RuledOut (is_damaged.Post κs) (Malformed, tt) false
  is_damaged_malformed s p = never (cc)

  -- the count as it was, below its end
  one_more_stays : (damaged : ℕ) → damaged < 65535 → RuledOut (one_more_call.Post κs) (damaged, tt) damaged
  unfolding one_more
  one_more_stays damaged room s p = omega (arith, rw (lt-ltb damaged 65535 room) at p)

  -- the count grown at its end
  one_more_over : (damaged : ℕ) → 65535 ≤ damaged → RuledOut (one_more_call.Post κs) (damaged, tt) (damaged + 1)
  unfolding one_more
  one_more_over damaged full s p = omega (arith, rw (le-ltb damaged 65535 full) at p)

module _ (κs : Lfts 1) (x : Place) where
  -- another collector than the one that was, though no octets came
  collector_with_all_none : (c wrong : Collector) → (wrong ≡ c → ⊥) → RuledOut (collector_with_all.Post κs) (c, (lent x [], tt)) wrong
  unfolding collected_all_in
  collector_with_all_none c wrong other s p = other p

  -- only the octets that came counted, and not those that were in
  collector_with_all_counted : (c wrong : Collector) (octets : List ℕ) → 0 < c.length → c.length + length octets ≤ 261
      → wrong.length ≡ length octets
      → RuledOut (collector_with_all.Post κs) (c, (lent x octets, tt)) wrong
  collector_with_all_counted c wrong octets some room only s p = omega (arith, ap (λ (d : Collector). d.length) (p ∙ collected_stores Ten octets c room))

  -- overfull where the octets just fill it
  collector_with_all_full : (c : Collector) (octets : List ℕ) → c.length + length octets ≡ 261
      → RuledOut (collector_with_all.Post κs) (c, (lent x octets, tt)) overfull
  unfolding overfull
  collector_with_all_full c octets full s p = omega (arith, ap (λ (d : Collector). d.length) (p ∙ collected_stores Ten octets c (omega arith)))

  -- not overfull where one of the octets finds no room
  collector_with_all_over : (c wrong : Collector) (octets : List ℕ) → 0 < length octets → 261 < c.length + length octets → (wrong.length ≡ 262 → ⊥)
      → RuledOut (collector_with_all.Post κs) (c, (lent x octets, tt)) wrong
  unfolding overfull
  collector_with_all_over c wrong octets some over other s p = other (ap (λ (d : Collector). d.length) (p ∙ collected_over Ten octets c some over))

  -- octets written over those that are in
  collector_with_all_place :
      RuledOut (collector_with_all.Post κs) (record { octets = 7 ∷ replicate 260 0; length = 1; marked = false }, (lent x (9 ∷ []), tt))
      (record { octets = 9 ∷ replicate 260 0; length = 2; marked = false })
  unfolding collected_all_in collected_in
  collector_with_all_place s p = omega (arith, ap (λ (d : Collector). get_or d.octets 0 0) p)

-- of a collector that is lent, by the relation that the contracts of `collect` and `collect_character` name, in both profiles
module _ (p : Profile) (before left : Collector) (x : CharacterIn p) (room : before.length < 261) where
  -- the collector as it was
  put_in_lost : PutIn p before x before → ⊥
  unfolding collected_in
  put_in_lost w = omega (arith, ap (λ (c : Collector). c.length) (rw (lt-ltb before.length 261 room) at w.leaves))

  -- another octet than the one that came
  put_in_octet : length before.octets ≡ 261 → (get_or left.octets before.length 0 ≡ octet_in p x → ⊥) → PutIn p before x left → ⊥
  unfolding collected_in
  put_in_octet whole other w =
      other (ap (λ (c : Collector). get_or c.octets before.length 0) (rw (lt-ltb before.length 261 room) at w.leaves)
      ∙ get_or-set_same before.octets before.length (octet_in p x) 0 (omega arith))

  -- no mark behind a wrong parity bit
  put_in_unmarked : right_in p x ≡ false → left.marked ≡ false → PutIn p before x left → ⊥
  unfolding collected_in
  put_in_unmarked wrong lost w = not_both lost (ap (λ (c : Collector). c.marked) (rw (lt-ltb before.length 261 room, wrong) at w.leaves))
