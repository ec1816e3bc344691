-- What the public contracts of this crate do not allow: two wrong outcomes or more of each.
-- By computation of the call, whatever the card, the image, the clock and the buffers. Assumes nothing.
use Prim.Native.Nat.{ℕ, ◌+◌, ◌≤◌}
use mathlib.Core.Bool.{true, false≢true}
use mathlib.Core.List.{List, [], ◌∷◌}
use mathlib.Core.Path.{◌≡◌, sym, ap, ◌∙◌}
use native.Mathlib.Omega.{arith}
use contract.Lifetimes.{Lfts}
use borrow.Author.Tests.{le-leb}
use lib.ListN.{length, get_or, take, drop, replicate}
use lib.Seq.{get_or-append-add, get_or-drop}
use Rattle.octets.specs.Numbers.{low_first, high_first}
use Rattle.octets.specs.Over.{over}
use Rattle.octets.specs.Calls.{fits_at}
use Rattle.octets.proofs.Outcome.{RuledOut, RuledOutWith, Place, lent, lent_mut}
use Rattle.profile.specs.declared.Profile.{Profile}
use Rattle.profile.specs.declared.Profile.TheVariants.{Eleven}
use Rattle.card.specs.State.{card_at_power_on, with_characters, with_octets}
use Rattle.card.proofs.State.{sent_all}
use Rattle.card.specs.Gap.{Outcome, gapped}
use Rattle.input.specs.Input.{length_of2, length_of3, clock_at, are_bits, characters_in, call_size, whole_call, call_found}
use Rattle.driving.specs.declared.Held.{Held}
use Rattle.driving.specs.declared.Left.{Left}
use Rattle.why.specs.Asking.{why_of}
use Rattle.why.specs.Told.{why_line}
use Rattle.why.proofs.Told.{line_short}
use Rattle.driving.specs.Driven.{why_text, why_step, at_start, with_clock, with_room, with_card, with_profile, with_buffer, line_step, gap_step, after_call, call_step}
use Rattle.driving.specs.Stepped.{bench_of, held_of, left_by}
use Rattle.driving.proofs.start.Reads as start
use Rattle.driving.proofs.step.Reads as step
use Rattle.driving.proofs.image_after.Reads as image_after

module _ (κs : Lfts 0) (wrong : Held) where
  -- another room at the start than 261
  start_room : (wrong.room ≡ 261 → ⊥) → RuledOut (start.Post κs) tt wrong
  unfolding held_of at_start
  start_room other s p = other (ap (λ (h : Held). h.room) p)

  -- another clock at the start than zeros
  start_clock : (wrong.clock ≡ replicate 7 0 → ⊥) → RuledOut (start.Post κs) tt wrong
  unfolding held_of at_start
  start_clock other s p = other (ap (λ (h : Held). h.clock) p)

  -- a card at the start that is not as at power-on
  start_card : (wrong.card ≡ card_at_power_on → ⊥) → RuledOut (start.Post κs) tt wrong
  unfolding held_of at_start
  start_card other s p = other (ap (λ (h : Held). h.card) p)

-- x, y, z, w: where the octets lie
module _ (κs : Lfts 4) (x y z w : Place) (out image buffer : List ℕ) (held : Held) (wrong : Left) where
  -- the gap that is done
  abbrev done : Outcome
  done = gapped held.card image held.clock (length (take held.room buffer))

  -- the card after a gap thrown away, or any other card in its place
  step_gap_card : (wrong.held.card ≡ done.card → ⊥)
      → RuledOut (step.Post κs) (lent_mut x out, (held, (lent y image, (lent_mut z buffer, (lent w (71 ∷ []), tt))))) wrong
  unfolding call_step call_found call_size whole_call after_call gap_step line_step bench_of left_by held_of with_card with_buffer
  step_gap_card other s p = other (ap (λ (l : Left). l.held.card) p.0.answers)

  -- no call let follow behind a gap
  step_gap_more : (wrong.more ≡ true → ⊥)
      → RuledOut (step.Post κs) (lent_mut x out, (held, (lent y image, (lent_mut z buffer, (lent w (71 ∷ []), tt))))) wrong
  unfolding call_step call_found call_size whole_call after_call gap_step line_step bench_of left_by
  step_gap_more other s p = other (ap (λ (l : Left). l.more) p.0.answers)

  -- an octet of the buffer changed behind a gap's reply
  step_gap_behind : (left : List ℕ) (i : ℕ) → (get_or left (length done.reply + i) 0 ≡ get_or buffer (length done.reply + i) 0 → ⊥)
      → RuledOutWith (λ s. s.1.1.1.0.now) (step.Post κs) (lent_mut x out, (held, (lent y image, (lent_mut z buffer, (lent w (71 ∷ []), tt))))) wrong left
  unfolding call_step call_found call_size whole_call after_call gap_step line_step bench_of left_by with_card with_buffer
  step_gap_behind left i other s e p =
      let reply = done.reply in
      other (ap (λ (l : List ℕ). get_or l (length reply + i) 0) (sym e ∙ p.1)
      ∙ get_or-append-add reply (drop (length reply) buffer) i 0 ∙ get_or-drop (length reply) buffer i 0)

  -- two octets given to the card in another order, or any other card in its place
  step_octets_order : (a b : ℕ) → (wrong.held.card ≡ with_octets held.card (a ∷ b ∷ []) → ⊥)
      → RuledOut (step.Post κs) (lent_mut x out, (held, (lent y image, (lent_mut z buffer, (lent w (79 ∷ 0 ∷ 2 ∷ a ∷ b ∷ []), tt))))) wrong
  unfolding call_step call_found call_size whole_call length_of2 high_first low_first after_call bench_of left_by held_of with_card
  step_octets_order a b other s p = other (ap (λ (l : Left). l.held.card) p.0.answers ∙ sent_all held.profile (a ∷ b ∷ []) held.card)

  -- anything changed that is held behind a W: the card, the clock, the room
  step_why_held : (a b : ℕ) → (wrong.held ≡ held → ⊥)
      → RuledOut (step.Post κs) (lent_mut x out, (held, (lent y image, (lent_mut z buffer, (lent w (87 ∷ 0 ∷ 2 ∷ a ∷ b ∷ []), tt))))) wrong
  unfolding call_step call_found call_size whole_call length_of2 high_first low_first after_call why_step bench_of left_by held_of
  step_why_held a b other s p = other (ap (λ (l : Left). l.held) p.0.answers)

  -- the buffer changed by it
  step_why_buffer : (a b : ℕ) (left : List ℕ) → (left ≡ buffer → ⊥)
      → RuledOutWith (λ s. s.1.1.1.0.now) (step.Post κs)
      (lent_mut x out, (held, (lent y image, (lent_mut z buffer, (lent w (87 ∷ 0 ∷ 2 ∷ a ∷ b ∷ []), tt))))) wrong left
  unfolding call_step call_found call_size whole_call length_of2 high_first low_first after_call why_step bench_of left_by
  step_why_buffer a b left other s e p = other (sym e ∙ p.1)

  -- no line for a W, or one of another length than the answer has
  step_why_line : (a b : ℕ) → 25 ≤ length out → (wrong.count ≡ length (why_text (bench_of held image buffer) (a ∷ b ∷ [])) → ⊥)
      → RuledOut (step.Post κs) (lent_mut x out, (held, (lent y image, (lent_mut z buffer, (lent w (87 ∷ 0 ∷ 2 ∷ a ∷ b ∷ []), tt))))) wrong
  unfolding call_step call_found call_size whole_call length_of2 high_first low_first after_call why_step why_text bench_of left_by fits_at
  step_why_line a b room other s p =
      let text = why_line (why_of held.card.link.session image held.clock (a ∷ b ∷ [])) in
      let fits : 0 + length text ≤ length out = omega (arith, room, line_short (why_of held.card.link.session image held.clock (a ∷ b ∷ []))) in
      other (ap (λ (l : Left). l.count) (rw (le-leb (0 + length text) (length out) fits) at p.0.answers))

  -- a card of the ten-bit profile behind an E, or of no profile that it says
  step_eleven_profile : (wrong.held.profile ≡ Eleven → ⊥)
      → RuledOut (step.Post κs) (lent_mut x out, (held, (lent y image, (lent_mut z buffer, (lent w (69 ∷ []), tt))))) wrong
  unfolding call_step call_found call_size whole_call after_call bench_of left_by held_of with_card with_profile
  step_eleven_profile other s p = other (ap (λ (l : Left). l.held.profile) p.0.answers)

  -- the card as it was behind an E
  step_eleven_card : (wrong.held.card ≡ card_at_power_on → ⊥)
      → RuledOut (step.Post κs) (lent_mut x out, (held, (lent y image, (lent_mut z buffer, (lent w (69 ∷ []), tt))))) wrong
  unfolding call_step call_found call_size whole_call after_call bench_of left_by held_of with_card with_profile
  step_eleven_card other s p = other (ap (λ (l : Left). l.held.card) p.0.answers)

  -- a character given to the card with another parity bit than the one that came
  step_characters_bit : (a : ℕ) → held.profile ≡ Eleven → (wrong.held.card ≡ with_characters Eleven held.card (record { octet = a; parity = true } ∷ []) → ⊥)
      → RuledOut (step.Post κs) (lent_mut x out, (held, (lent y image, (lent_mut z buffer, (lent w (80 ∷ 0 ∷ 1 ∷ a ∷ 1 ∷ []), tt))))) wrong
  unfolding call_step call_found call_size whole_call are_bits characters_in length_of2 high_first low_first after_call bench_of left_by held_of with_card
  step_characters_bit a eleven other s p = other (ap (λ (l : Left). l.held.card) (rw eleven at p.0.answers))

  -- the buffer changed by octets that come in
  step_octets_buffer : (a : ℕ) (left : List ℕ) → (left ≡ buffer → ⊥)
      → RuledOutWith (λ s. s.1.1.1.0.now) (step.Post κs)
      (lent_mut x out, (held, (lent y image, (lent_mut z buffer, (lent w (79 ∷ 0 ∷ 1 ∷ a ∷ []), tt))))) wrong left
  unfolding call_step call_found call_size whole_call length_of2 high_first low_first after_call bench_of left_by with_card
  step_octets_buffer a left other s e p = other (sym e ∙ p.1)

  -- the octets of an O that is cut given to the card
  step_cut_card : (a : ℕ) → (wrong.held.card ≡ held.card → ⊥)
      → RuledOut (step.Post κs) (lent_mut x out, (held, (lent y image, (lent_mut z buffer, (lent w (79 ∷ 0 ∷ 2 ∷ a ∷ []), tt))))) wrong
  unfolding call_step call_found call_size length_of2 high_first low_first after_call bench_of left_by held_of
  step_cut_card a other s p = other (ap (λ (l : Left). l.held.card) p.0.answers)

  -- a call let follow behind one that is cut
  step_cut_more : wrong.more ≡ true → RuledOut (step.Post κs) (lent_mut x out, (held, (lent y image, (lent_mut z buffer, (lent w (79 ∷ 0 ∷ []), tt))))) wrong
  unfolding call_step call_found call_size after_call bench_of left_by
  step_cut_more more s p = false≢true (sym (ap (λ (l : Left). l.more) p.0.answers) ∙ more)

  -- CUT for `cut`
  step_cut_case : (left : List ℕ) → 4 ≤ length out → (get_or left 0 0 ≡ 99 → ⊥)
      → RuledOutWith (λ s. s.0.now) (step.Post κs) (lent_mut x out, (held, (lent y image, (lent_mut z buffer, (lent w (79 ∷ 0 ∷ []), tt))))) wrong left
  unfolding call_step call_found call_size after_call bench_of left_by fits_at
  step_cut_case left room other s e p =
      other (ap (λ (l : List ℕ). get_or l 0 0) (sym e ∙ rw (le-leb 4 (length out) room) at p.0.left_so))

  -- a B of 301 taken
  step_room_over : wrong.more ≡ true
      → RuledOut (step.Post κs) (lent_mut x out, (held, (lent y image, (lent_mut z buffer, (lent w (66 ∷ 1 ∷ 45 ∷ []), tt))))) wrong
  unfolding call_step call_found call_size whole_call length_of2 high_first low_first after_call bench_of left_by
  step_room_over more s p = false≢true (sym (ap (λ (l : Left). l.more) p.0.answers) ∙ more)

  -- a B of 300 not taken
  step_room_most : (wrong.held.room ≡ 300 → ⊥)
      → RuledOut (step.Post κs) (lent_mut x out, (held, (lent y image, (lent_mut z buffer, (lent w (66 ∷ 1 ∷ 44 ∷ []), tt))))) wrong
  unfolding call_step call_found call_size whole_call length_of2 high_first low_first after_call bench_of left_by held_of with_room
  step_room_most other s p = other (ap (λ (l : Left). l.held.room) p.0.answers)

  -- a clock of six octets and a 0, whenever the seventh is not 0
  step_clock_six : (a b c d e f g : ℕ) → (0 ≡ g → ⊥) → wrong.held.clock ≡ a ∷ b ∷ c ∷ d ∷ e ∷ f ∷ 0 ∷ []
      → RuledOut (step.Post κs) (lent_mut x out, (held, (lent y image, (lent_mut z buffer, (lent w (67 ∷ a ∷ b ∷ c ∷ d ∷ e ∷ f ∷ g ∷ []), tt))))) wrong
  unfolding call_step call_found call_size whole_call after_call bench_of left_by held_of with_clock clock_at over
  step_clock_six a b c d e f g some six s p = some (ap (λ (l : List ℕ). get_or l 6 0) (sym six ∙ ap (λ (l : Left). l.held.clock) p.0.answers))

module _ (κs : Lfts 2) (p : Profile) (x y : Place) (space : List ℕ) (had wrong : ℕ) where
  -- the image of an I not lent, its octets not counted
  image_after_count : (a : ℕ) → 1 ≤ length space → (wrong ≡ 1 → ⊥)
      → RuledOut (image_after.Post κs) (p, (lent_mut x space, (had, (lent y (73 ∷ 0 ∷ 0 ∷ 1 ∷ a ∷ []), tt)))) wrong
  unfolding call_found call_size whole_call length_of3 high_first low_first fits_at
  image_after_count a room other s w = other (rw (le-leb 1 (length space) room) at w.answers)

  -- the image of an I not in the first octets of its space
  image_after_first : (a : ℕ) (left : List ℕ) → 1 ≤ length space → (get_or left 0 0 ≡ a → ⊥)
      → RuledOutWith (λ s. s.1.0.now) (image_after.Post κs) (p, (lent_mut x space, (had, (lent y (73 ∷ 0 ∷ 0 ∷ 1 ∷ a ∷ []), tt)))) wrong left
  unfolding call_found call_size whole_call length_of3 high_first low_first fits_at
  image_after_first a left room other s e w =
      other (ap (λ (l : List ℕ). get_or l 0 0) (sym e ∙ rw (le-leb 1 (length space) room) at w.left_so))

  -- another image behind a gap than before it
  image_after_gap : (wrong ≡ had → ⊥) → RuledOut (image_after.Post κs) (p, (lent_mut x space, (had, (lent y (71 ∷ []), tt)))) wrong
  unfolding call_found call_size whole_call
  image_after_gap other s w = other w.answers

  -- the octets of an O put into the image's space
  image_after_octets : (a : ℕ) (left : List ℕ) → (left ≡ space → ⊥)
      → RuledOutWith (λ s. s.1.0.now) (image_after.Post κs) (p, (lent_mut x space, (had, (lent y (79 ∷ 0 ∷ 1 ∷ a ∷ []), tt)))) wrong left
  unfolding call_found call_size whole_call length_of2 high_first low_first
  image_after_octets a left other s e w = other (sym e ∙ w.left_so)
