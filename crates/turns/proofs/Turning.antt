-- A turn's text in a lent buffer: a last text, the line of a gap, then the head and a run by what they are found to be; and what a turn leaves.
-- By whether the buffer is short; one that is not holds every text, since none has over 1,024 octets. Assumes nothing.
use Prim.Native.Nat.{ℕ, ◌+◌, ◌*◌, ◌≤◌, ◌<◌}
use mathlib.Core.Bool.{Bool, true}
use mathlib.Core.List.{List, [], ◌∷◌}
use mathlib.Core.Path.{◌≡◌, refl, sym, ap, ◌∙◌}
use native.Mathlib.Omega.{arith}
use lib.ListN.{length, take, drop, length-append, length-drop}
use lib.Seq.{take_all, take-append_seam}
use borrow.Author.Tests.{lt-ltb, le-ltb}
use Rattle.deeds.specs.declared.Order.{Order}
use Rattle.card.specs.declared.Card.{Card}
use Rattle.card.specs.declared.Gone.{Gone}
use Rattle.card.specs.State.{card_at_power_on, with_octets}
use Rattle.card.specs.Gap.{Outcome, gone_by, Gapped}
use Rattle.input.specs.declared.Head.{Head}
use Rattle.input.specs.declared.Run.{Run}
use Rattle.input.specs.declared.Run.TheVariants as run
use Rattle.input.specs.Input.{head_found, run_found}
use Rattle.printing.specs.Line.{space, reply_text, beginning, line_of, Lined}
use Rattle.printing.proofs.Text.{decimal_length, pairs_length}
use Rattle.printing.proofs.Lines.{word_length, counted, laid}
use Rattle.turns.specs.declared.Left.{Left}
use Rattle.turns.specs.Printed.{Turn, turn_by, last_turn, after_head, head_turn, line_turn, gap_turn, after_run, run_turn}
use Rattle.turns.specs.Turned.{fitting_turn, left_by, Taken, Turned}

-- with room for every text a turn is as it is, and with a short buffer it is refused
module _ (under : List ℕ) (before : Card) (t : Turn) where
  roomy_turn : 1024 ≤ length under → fitting_turn under before t ≡ t
  unfolding fitting_turn
  roomy_turn room = rw (le-ltb (length under) 1024 room)

  short_turn : length under < 1024 → fitting_turn under before t ≡ last_turn [] before
  unfolding fitting_turn
  short_turn short = rw (lt-ltb (length under) 1024 short)

  taken_turned : {left : List ℕ} {r : Left} → 1024 ≤ length under → Taken under t r left → Turned under before t r left
  taken_turned room p = rw (roomy_turn room) p

  pub short_turned : {r : Left} → length under < 1024 → r ≡ left_by (last_turn [] before) → Turned under before t r under
  short_turned short e = rw (short_turn short) (record { answers = e; left_so = refl }, omega arith)

-- a text that is written where there is room
pub written_taken : (under : List ℕ) (t : Turn) {left : List ℕ} {count : ℕ} → 1024 ≤ length under → length t.text ≤ 1024 → Lined under t.text count left
    → Taken under t (record { count = count; card = t.card; more = t.more }) left
unfolding left_by
written_taken under t room most l =
    let fits : length t.text ≤ length under = omega arith in
    (record { answers = rw (counted under t.text l fits); left_so = laid under t.text l fits }, most)

-- no text
pub silent_taken : (under : List ℕ) (card : Card) (more : Bool) → Taken under (turn_by [] card more) (record { count = 0; card = card; more = more }) under
unfolding left_by
silent_taken under card more = (record { answers = refl; left_so = refl }, omega arith)

-- how long a line is with a reply of 261 octets at most
reply_length : (reply : List ℕ) → length (reply_text reply) ≤ length reply * 3 + 2
reply_length [] = omega arith
reply_length (octet ∷ rest) = omega (arith, pairs_length space (octet ∷ rest))

line_most : (number result : ℕ) (order : Order) (reply : List ℕ) → length reply ≤ 261 → length (line_of number result order reply) ≤ 1024
unfolding line_of beginning
line_most number result order reply few =
    simp length-append (omega (arith, decimal_length number, decimal_length result, word_length order, reply_length reply))

-- the line of a gap: the reply stands in the first octets of its buffer
module _ (number : ℕ) (o : Outcome) (buffer : List ℕ) {left : List ℕ} {gone : Gone} (g : Gapped o buffer gone left) where
  gap_line_law : line_of number gone.number gone.order (take gone.length left) ≡ (line_turn number o).text
  unfolding line_turn gone_by
  gap_line_law = rw (g.answers, g.left_so, take-append_seam o.reply (drop (length o.reply) buffer))

  gap_card : gone.card ≡ o.card
  unfolding gone_by
  gap_card = ap (λ (x : Gone). x.card) g.answers

  gap_most : length left ≤ 261 → length (line_turn number o).text ≤ 1024
  unfolding line_turn
  gap_most few =
      let short : length o.reply ≤ 261 = omega (arith, ap length g.left_so, length-append o.reply (drop (length o.reply) buffer)) in
      line_most number o.number o.order o.reply short

  pub gap_taken : (under : List ℕ) {out : List ℕ} {count : ℕ} → 1024 ≤ length under → length left ≤ 261
      → Lined under (line_of number gone.number gone.order (take gone.length left)) count out
      → Taken under (line_turn number o) (record { count = count; card = gone.card; more = true }) out
  unfolding line_turn
  gap_taken under room few l = rw gap_card (written_taken under (line_turn number o) room (gap_most few) (rw gap_line_law at l))

-- the head by what it is found to be
pub head_turned : (under read text : List ℕ) (h : Head) (more : Bool) {left : List ℕ} {r : Left} {found : Head} {card : Card} → 1024 ≤ length under
    → card ≡ card_at_power_on → found ≡ head_found read → found ≡ h → after_head h ≡ turn_by text card_at_power_on more → Taken under (turn_by text card more) r left
    → Turned under card_at_power_on (head_turn read) r left
unfolding head_turn
head_turned under read text h more room start e f t p = taken_turned under card_at_power_on (head_turn read) room (rw (sym e ∙ f, t) (rw start at p))

-- and a run
module _ (under : List ℕ) (card : Card) (image clock : List ℕ) (number : ℕ) (octets : List ℕ) {left : List ℕ} {r : Left} {found : Run} (room : 1024 ≤ length under)
    (e : found ≡ run_found octets) where
  pub run_turned : (x : Run) → found ≡ x → Taken under (after_run x card image clock number octets) r left
      → Turned under card (run_turn card image clock number octets) r left
  unfolding run_turn
  run_turned x f p = taken_turned under card (run_turn card image clock number octets) room (rw (sym e ∙ f) p)

  -- a whole one: its octets are put in, and a gap follows
  pub run_answered : {put : List ℕ} {with : Card} → found ≡ run.Whole → put ≡ take (length octets) (drop 2 octets) → with ≡ with_octets card put
      → Taken under (gap_turn with image clock number) r left → Turned under card (run_turn card image clock number octets) r left
  unfolding after_run
  run_answered {put} f p w t =
      let all : put ≡ drop 2 octets = p ∙ take_all (length octets) (drop 2 octets) (omega (arith, length-drop 2 octets)) in
      run_turned run.Whole f (rw (← all, ← w) t)

-- what a turn returns, and what is left: with room, and with a short buffer
module _ (under : List ℕ) (before : Card) (t : Turn) {left : List ℕ} {r : Left} (p : Turned under before t r left) where
  -- all of the turn
  taken : 1024 ≤ length under → Taken under t r left
  taken room = rw (roomy_turn under before t room) at p

  pub whole : 1024 ≤ length under → r ≡ left_by t
  whole room = (taken room).0.answers

  -- the text stands in the first octets
  pub stands : 1024 ≤ length under → take (length t.text) left ≡ t.text
  stands room = rw (taken room).0.left_so (take-append_seam t.text (drop (length t.text) under))

  -- a refusal's result
  pub refused : length under < 1024 → r ≡ left_by (last_turn [] before)
  refused short = rw (short_turn under before t short) at p.0.answers

  -- and what it leaves
  pub kept : length under < 1024 → left ≡ under
  kept short = rw (short_turn under before t short) at p.0.left_so

  -- with room for 1,024 octets the octets that are counted are the text, and nothing is refused
  pub roomy : 1024 ≤ length under → (r ≡ left_by t) × (take r.count left ≡ t.text)
  unfolding left_by
  roomy room = (whole room, rw (ap (λ (l : Left). l.count) (whole room)) (stands room))
