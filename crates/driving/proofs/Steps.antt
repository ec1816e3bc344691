-- Step after step comes to the definition: what is written for an input is the text of its first call and what is written for the rest of it; and
-- what a step and the image's space leave is the bench that the next call meets.
-- Each call takes one octet or more, so the length of what is left is fuel enough. Assumes nothing.
use Prim.Native.Nat.{ℕ, zero, suc, ◌+◌, ◌*◌, ◌≤◌}
use mathlib.Core.List.{List, [], ◌∷◌, ◌++◌}
use mathlib.Core.Path.{◌≡◌, refl, sym, ap, ◌∙◌}
use native.Mathlib.Omega.{arith}
use borrow.Author.Tests.{le-leb}
use lib.ListN.{length, take, drop, length-append, length-take, length-drop}
use lib.Seq.{take-nil, take-append_seam}
use Rattle.octets.specs.Choice.{when◌then◌else◌}
use Rattle.octets.specs.Over.{laid_in}
use Rattle.octets.specs.Calls.{fits_at}
use Rattle.octets.proofs.Choice.{if_both}
use Rattle.deeds.specs.declared.Order.{Order}
use Rattle.card.specs.Gap.{gapped}
use Rattle.profile.specs.declared.Profile.{Profile}
use Rattle.input.specs.declared.Call.{Call}
use Rattle.input.specs.declared.Call.TheVariants as call
use Rattle.input.specs.Input.{call_size, call_found}
use Rattle.printing.specs.Line.{beginning, gap_line}
use Rattle.printing.proofs.Text.{decimal_length, pairs_length}
use Rattle.printing.proofs.Lines.{word_length, time_length}
use Rattle.driving.specs.declared.Held.{Held}
use Rattle.driving.specs.declared.Left.{Left}
use Rattle.driving.specs.Driven.{Bench, with_image, with_clock, with_room, with_card, with_profile, with_buffer, image_of}
use Rattle.driving.specs.Driven.{line_step, gap_step, why_text, why_step, behind_length, after_call, call_step, first_call, behind_call, steps_text}
use Rattle.why.specs.Asking.{why_of}
use Rattle.why.proofs.Told.{line_short}
use Rattle.driving.specs.Stepped.{bench_of, held_of, left_by, Stepped, ImageAfter}
use Rattle.driving.proofs.Calls.{call_one, image_most}

-- nothing is written where nothing is left
steps_none : (fuel : ℕ) (b : Bench) (rest : List ℕ) → length rest ≤ 0 → steps_text fuel b rest ≡ []
unfolding steps_text call_step call_found call_size after_call
steps_none zero b rest h = refl
steps_none (suc fuel) b [] h = rw (take-nil {A = ℕ} (call_size b.profile []))
steps_none (suc fuel) b (octet ∷ rest) h = absurd (omega arith)

-- any fuel that is as long as what is left is enough
pub steps_same : (fuel other : ℕ) (b : Bench) (rest : List ℕ) → length rest ≤ fuel → length rest ≤ other → steps_text fuel b rest ≡ steps_text other b rest
unfolding steps_text
steps_same zero other b rest h k = sym (steps_none other b rest h)
steps_same (suc fuel) zero b rest h k = steps_none (suc fuel) b rest k
steps_same (suc fuel) (suc other) b rest h k =
    let s = call_step b (first_call b.profile rest) in
    let one = call_one b.profile rest in
    let less = length-drop (call_size b.profile rest) rest in
    ap (λ (l : List ℕ). s.text ++ l)
    (if_both ◌≡◌ s.more (λ _. steps_same fuel other s.bench (behind_call b.profile rest) (omega arith) (omega arith)) (λ _. refl))

-- so the texts are those of the first call and of those behind it
pub steps_next : (b : Bench) (rest : List ℕ)
    → steps_text (length rest) b rest
    ≡ (call_step b (first_call b.profile rest)).text
    ++ (when (call_step b (first_call b.profile rest)).more then steps_text (length (behind_call b.profile rest)) (call_step b (first_call b.profile rest)).bench (behind_call b.profile rest) else [])
unfolding steps_text
steps_next b rest =
    let s = call_step b (first_call b.profile rest) in
    steps_same (length rest) (suc (length rest)) b rest (omega arith) (omega arith)
    ∙ ap (λ (l : List ℕ). s.text ++ l)
    (if_both ◌≡◌ s.more
    (λ _. steps_same (length rest) (length (behind_call b.profile rest)) s.bench (behind_call b.profile rest) (omega (arith, length-drop (call_size b.profile rest) rest)) (omega arith))
    (λ _. refl))

-- the image that the next call meets: the one before, or that of an I, which fits its space
module _ (b : Bench) (octets space : List ℕ) (had count : ℕ) (left : List ℕ) (e : b.image ≡ take had space) where
  image_next : (x : Call) → (x ≡ call.Image → length (image_of octets) ≤ length space) → ImageAfter x space had (image_of octets) count left
      → take count left ≡ (after_call x b octets).bench.image
  unfolding after_call with_image with_clock with_room with_card with_profile with_buffer gap_step line_step why_step fits_at
  image_next call.Image fits p =
      let image = image_of octets in
      let after = rw (le-leb (0 + length image) (length space) (omega (arith, fits refl))) at p in
      rw (after.answers, after.left_so) (take-append_seam image (drop (length image) space))
  image_next call.End fits p = rw (p.answers, p.left_so) (sym e)
  image_next call.Cut fits p = rw (p.answers, p.left_so) (sym e)
  image_next call.Wrong fits p = rw (p.answers, p.left_so) (sym e)
  image_next call.Clock fits p = rw (p.answers, p.left_so) (sym e)
  image_next call.Room fits p = rw (p.answers, p.left_so) (sym e)
  image_next call.Octets fits p = rw (p.answers, p.left_so) (sym e)
  image_next call.ElevenBits fits p = rw (p.answers, p.left_so) (sym e)
  image_next call.Characters fits p = rw (p.answers, p.left_so) (sym e)
  image_next call.Gap fits p = rw (p.answers, p.left_so) (sym e)
  image_next call.Why fits p = rw (p.answers, p.left_so) (sym e)

-- the bench that the next call meets, of an image that fits its space
pub bench_next : (under : List ℕ) {buffer' left : List ℕ} {r : Left} (held : Held) (space buffer octets : List ℕ) (had count : ℕ) (space' : List ℕ)
    → (call_found held.profile octets ≡ call.Image → length (image_of octets) ≤ length space)
    → Stepped under (call_step (bench_of held (take had space) buffer) octets) r buffer' left
    → ImageAfter (call_found held.profile octets) space had (image_of octets) count space'
    → bench_of r.held (take count space') buffer' ≡ (call_step (bench_of held (take had space) buffer) octets).bench
unfolding bench_of held_of call_step left_by
bench_next under held space buffer octets had count space' fits p i =
    let b : Bench = bench_of held (take had space) buffer in
    rw (p.0.answers, p.1, image_next b octets space had count space' refl (call_found held.profile octets) fits i)

-- the program's space, of 65,600 octets, has room for every image that is lent
pub image_fits : (p : Profile) (rest : List ℕ) → call_found p (first_call p rest) ≡ call.Image → length (image_of (first_call p rest)) ≤ 65600
image_fits p rest e = omega (arith, image_most p rest e, length-take (call_size p rest) rest, length-drop 4 (first_call p rest))

-- the line of a gap is short
line_length : (number count : ℕ) (order : Order) (time : List ℕ) (damaged : ℕ) (buffer : List ℕ)
    → length (gap_line number count order time damaged buffer) ≤ 91 + length buffer * 2
unfolding gap_line beginning
line_length number count order time damaged buffer =
    simp length-append
    (omega (arith, decimal_length number, decimal_length count, word_length order, time_length order time, decimal_length damaged, pairs_length [] buffer))

-- so the program's 1,024 octets have room for every text
text_call : (x : Call) (b : Bench) (octets : List ℕ) → length (after_call x b octets).bench.buffer ≤ 300 → length (after_call x b octets).text ≤ 1024
unfolding after_call gap_step line_step why_step why_text with_card with_profile with_buffer
text_call call.End b octets h = omega arith
text_call call.Cut b octets h = omega arith
text_call call.Wrong b octets h = omega arith
text_call call.Image b octets h = omega arith
text_call call.Clock b octets h = omega arith
text_call call.Room b octets h = omega arith
text_call call.Octets b octets h = omega arith
text_call call.ElevenBits b octets h = omega arith
text_call call.Characters b octets h = omega arith
text_call call.Gap b octets h =
    let o = gapped b.card b.image b.clock (length (take b.room b.buffer)) in
    omega (arith, line_length o.number (length o.reply) o.order o.time o.card.damaged (laid_in b.buffer o.reply))
text_call call.Why b octets h =
    omega (arith, line_short (why_of b.card.link.session b.image b.clock (behind_length octets)))

pub text_fits : (b : Bench) (octets : List ℕ) → length (call_step b octets).bench.buffer ≤ 300 → length (call_step b octets).text ≤ 1024
unfolding call_step
text_fits b octets h = text_call (call_found b.profile octets) b octets h
