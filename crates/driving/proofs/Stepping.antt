-- What the parts of a call come to: octets and characters that come in one by one, an image put into its space, a gap that is lent a part of the buffer, and
-- a step's text. By the laws of lists, and by whether a text fits. Assumes nothing.
use Prim.Native.Nat.{ℕ, ◌+◌, ◌-◌, ◌≤◌}
use mathlib.Core.Bool.{Bool, true, false}
use mathlib.Core.List.{List, [], ◌∷◌, ◌++◌, append_assoc}
use mathlib.Core.Path.{◌≡◌, refl, sym, ap, ◌∙◌}
use native.Mathlib.Omega.{arith}
use types.Run.{OneOf, miss}
use denote.Enum.Declared.{tag_of}
use borrow.Author.Tests.{le-leb}
use lib.Dec.{eqb}
use lib.ListN.{length, take, drop, get_or, length-append, length-drop, take-append-drop}
use lib.Seq.{length-take-le, take_all, drop-append-le}
use Rattle.std.specs.List.{fold}
use Rattle.octets.specs.Over.{laid_in}
use Rattle.octets.specs.Calls.{fits_at}
use Rattle.octets.proofs.Choice.{told}
use Rattle.octets.proofs.Outcome.{one_outcome, does_one}
use Rattle.octets.proofs.Over.{Put, over_first}
use Rattle.profile.specs.declared.Profile.TheVariants.{Eleven}
use Rattle.card.specs.declared.Card.{Card}
use Rattle.card.specs.declared.Gone.{Gone}
use Rattle.card.specs.State.{with_character, with_characters, with_octet, with_octets}
use Rattle.card.specs.Gap.{Outcome, gapped, gone_by, Gapped}
use Rattle.input.specs.declared.Call.{Call}
use Rattle.input.specs.declared.Call.TheVariants as call
use Rattle.input.specs.Input.{characters_in, call_found}
use Rattle.input.specs.contracts.Call.{the_type}
use Rattle.input.proofs.Pairs.{pairs_in}
use Rattle.printing.specs.Line.{gap_line, Lined}
use Rattle.driving.specs.declared.Held.{Held}
use Rattle.driving.specs.declared.Left.{Left}
use Rattle.driving.specs.Driven.{Bench, Step, silent_step, line_step, with_card, with_buffer, after_call, call_step}
use Rattle.driving.specs.Stepped.{bench_of, held_of, left_by, Writes, Stepped, gone_line, is_image, ImageAfter}

-- octets that come in one by one
pub octets_fold : (card : Card) (octets : List ℕ) → fold with_octet card octets ≡ with_octets card octets
unfolding with_characters
octets_fold card [] = refl
octets_fold card (octet ∷ rest) = octets_fold (with_octet card octet) rest

-- the same of pairs of an octet and its parity bit
abbrev pub with_pair : Card → List ℕ → Card
with_pair card pair = with_character Eleven card (record { octet = get_or pair 0 0; parity = eqb (get_or pair 1 0) 1 })

pub pairs_fold : (card : Card) (octets : List ℕ) → fold with_pair card (pairs_in octets) ≡ with_characters Eleven card (characters_in octets)
unfolding with_characters characters_in pairs_in
pairs_fold card [] = refl
pairs_fold card (octet ∷ []) = refl
pairs_fold card (octet ∷ bit ∷ rest) = pairs_fold (with_pair card (octet ∷ bit ∷ [])) rest

-- all that stands behind an index
pub rest_all : (at : ℕ) (octets : List ℕ) → take (length octets) (drop at octets) ≡ drop at octets
rest_all at octets = take_all (length octets) (drop at octets) (omega (arith, length-drop at octets))

-- an image that is put into its space, and one that is not
module _ (space image : List ℕ) (had : ℕ) {left : List ℕ} {done : Bool} (p : Put space 0 image done left) where
  pub stood_whole : done ≡ true → ImageAfter call.Image space had image (length image) left
  stood_whole d =
      let fits : fits_at space 0 image ≡ true = told p.answers d in
      rw fits (record { answers = refl; left_so = rw fits at p.left_so ∙ over_first space image })

  pub stood_not : done ≡ false → ImageAfter call.Image space had image had left
  stood_not d =
      let fits : fits_at space 0 image ≡ false = told p.answers d in
      rw fits (record { answers = refl; left_so = rw fits at p.left_so })

-- a call that is no I leaves the image
abbrev others : List ℕ
others = 0 ∷ 1 ∷ 2 ∷ 4 ∷ 5 ∷ 6 ∷ 7 ∷ 8 ∷ 9 ∷ 10 ∷ []

no_image : (x : Call) → OneOf others (tag_of the_type x) → is_image x ≡ false
no_image call.End o = refl
no_image call.Cut o = refl
no_image call.Wrong o = refl
no_image call.Image o = absurd (miss others 3 tt o)
no_image call.Clock o = refl
no_image call.Room o = refl
no_image call.Octets o = refl
no_image call.ElevenBits o = refl
no_image call.Characters o = refl
no_image call.Gap o = refl
no_image call.Why o = refl

pub image_stays : (x : Call) (space : List ℕ) (had : ℕ) (image : List ℕ) → OneOf others (tag_of the_type x) → ImageAfter x space had image had space
image_stays x space had image o = rw (no_image x o) (record { answers = refl; left_so = refl })

-- a gap that is lent the first octets of a buffer leaves the rest of it
gap_first : (o : Outcome) {gone : Gone} {left : List ℕ} (buffer : List ℕ) (room : ℕ) → room ≤ length buffer → length left ≡ length (take room buffer)
    → Gapped o (take room buffer) gone left → Gapped o buffer gone (left ++ drop room buffer)
gap_first o buffer room h k g =
    let n = length o.reply in
    let lengths : room ≡ n + (room - n) =
    sym (k ∙ length-take-le room buffer h) ∙ ap length g.left_so ∙ length-append o.reply (drop n (take room buffer))
    ∙ ap (λ (m : ℕ). n + m) (length-drop n (take room buffer) ∙ rw (length-take-le room buffer h)) in
    record {
      answers = g.answers;
      left_so = rw g.left_so (append_assoc o.reply (drop n (take room buffer)) (drop room buffer)
          ∙ ap (λ (l : List ℕ). o.reply ++ l)
          (sym (drop-append-le n (take room buffer) (drop room buffer) (rw (length-take-le room buffer h) (omega arith)))
          ∙ ap (drop n) (take-append-drop room buffer)));
    }

-- and so one that is lent so many octets of it, or all that there are
pub gap_lent : {left : List ℕ} {gone : Gone} (card : Card) (image clock buffer : List ℕ) (room most : ℕ) → most ≤ length buffer
    → length (take room buffer) ≡ most → length left ≡ length (take most buffer)
    → Gapped (gapped card image clock (length (take most buffer))) (take most buffer) gone left
    → Gapped (gapped card image clock (length (take room buffer))) buffer gone (left ++ drop most buffer)
gap_lent card image clock buffer room most few same k g =
    let as_long : length (take most buffer) ≡ length (take room buffer) = length-take-le most buffer few ∙ sym same in
    gap_first (gapped card image clock (length (take room buffer))) buffer most few k (rw as_long at g)

-- a gap and its line
pub gap_stepped : (o : Outcome) (buffer under : List ℕ) (held : Held) (image : List ℕ) {left out : List ℕ} {gone : Gone} {count : ℕ}
    → Gapped o buffer gone left → Lined under (gone_line gone left) count out
    → Stepped under (line_step o (bench_of held image buffer))
    (record { count = count; held = record { profile = held.profile; card = gone.card; clock = held.clock; room = held.room }; more = true }) left out
unfolding line_step gone_by gone_line left_by held_of bench_of with_card with_buffer
gap_stepped o buffer under held image g l =
    let text = laid_in buffer o.reply in
    let line : Lined under (gap_line o.number (length o.reply) o.order o.time o.card.damaged text) _ _ = rw (g.answers, g.left_so) at l in
    (record { answers = rw (line.answers, g.answers); left_so = line.left_so }, g.left_so)

-- a line, and all as it was
pub kept_writes : (under text : List ℕ) (held : Held) (more : Bool) {left : List ℕ} {count : ℕ} → Lined under text count left
    → Writes under text held more (record { count = count; held = held; more = more }) left
unfolding left_by
kept_writes under text held more l = record { answers = rw l.answers; left_so = l.left_so }

-- a step with such a line, and one without a text
module _ (under : List ℕ) {r : Left} where
  pub kept_stepped : (text : List ℕ) (held : Held) (more : Bool) (image buffer : List ℕ) {left : List ℕ} → Writes under text held more r left
      → Stepped under (record { text = text; bench = bench_of held image buffer; more = more }) r buffer left
  unfolding bench_of held_of
  kept_stepped text held more image buffer p = (p, refl)

  pub silent_stepped : (b : Bench) → r ≡ left_by [] (record { profile = b.profile; card = b.card; clock = b.clock; room = b.room }) true → Stepped under (silent_step b) r b.buffer under
  unfolding held_of fits_at
  silent_stepped b e =
      let fits = le-leb 0 (length under) (omega arith) in
      (rw fits (record { answers = e; left_so = refl }), refl)

  -- a call by what it is found to be
  pub call_stepped : (b : Bench) (octets : List ℕ) (x : Call) {left buffer : List ℕ} {found : Call} → found ≡ call_found b.profile octets → found ≡ x
      → Stepped under (after_call x b octets) r buffer left → Stepped under (call_step b octets) r buffer left
  unfolding call_step
  call_stepped b octets x e f p = rw (sym e ∙ f) p

-- two lists by two
pairs_same : {a a' b b' : List ℕ} → a ≡ a' → b ≡ b' → ◌≡◌ {A = List ℕ × List ℕ} (a, b) (a', b')
pairs_same {a' = a'} {b} e f = ap (λ (l : List ℕ). (l, b)) e ∙ ap (λ (l : List ℕ). (a', l)) f

-- a step leaves one result, one reply buffer and one text
pub stepped_one : (under : List ℕ) (s : Step) {left left' buffer buffer' : List ℕ} {r r' : Left} → Stepped under s r buffer left
    → Stepped under s r' buffer' left' → (r ≡ r') × (◌≡◌ {A = List ℕ × List ℕ} (buffer, left) (buffer', left'))
stepped_one under s p q =
    let one = does_one p.0 q.0 in
    (one.0, pairs_same (one_outcome p.1 q.1) one.1)
