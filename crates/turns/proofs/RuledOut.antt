-- What the public contracts of this crate do not allow: two wrong outcomes or more of each.
-- By what is returned and left with a short buffer and with any other. That the next run gets the next number is not a turn's to say: `turns_text` and
-- `Steps` fix it, and a turn prints the number that it is called with. Assumes nothing.
use Prim.Native.Nat.{ℕ, ◌≤◌, ◌<◌}
use mathlib.Core.Bool.{true, false, false≢true}
use mathlib.Core.List.{List, [], ◌∷◌}
use mathlib.Core.Path.{◌≡◌, refl, sym, ap, ◌∙◌}
use native.Mathlib.Omega.{arith}
use contract.Lifetimes.{Lfts}
use lib.Dec.{ltb}
use lib.ListN.{length, get_or, take, drop}
use Rattle.octets.proofs.Choice.{either}
use Rattle.octets.proofs.Outcome.{RuledOut, RuledOutWith, Place, lent, lent_mut}
use Rattle.card.specs.declared.Card.{Card}
use Rattle.card.specs.State.{card_at_power_on, with_octets}
use Rattle.card.specs.Gap.{Outcome, gapped}
use Rattle.input.specs.declared.Head.{Head}
use Rattle.input.specs.declared.Head.TheVariants as head
use Rattle.input.specs.declared.Run.{Run}
use Rattle.input.specs.declared.Run.TheVariants as run
use Rattle.input.specs.Input.{head_found, run_found}
use Rattle.printing.specs.Line.{cut_line, line_of}
use Rattle.turns.specs.declared.Left.{Left}
use Rattle.turns.specs.Printed.{Turn, last_turn, after_head, head_turn, line_turn, gap_turn, after_run, run_turn}
use Rattle.turns.specs.Turned.{fitting_turn, left_by, Turned}
use Rattle.turns.proofs.Turning.{whole, stands, refused, kept}
use Rattle.turns.proofs.start.Reads as start
use Rattle.turns.proofs.turn.Reads as turn

-- a head that is not whole is the last turn, and every head leaves the card at power-on
head_last : (h : Head) → (h ≡ head.Whole → ⊥) → (after_head h).more ≡ false
unfolding after_head
head_last head.Version n = refl
head_last head.Cut n = refl
head_last head.Image n = refl
head_last head.Whole n = absurd (n refl)

head_card : (h : Head) → (after_head h).card ≡ card_at_power_on
unfolding after_head
head_card head.Version = refl
head_card head.Cut = refl
head_card head.Image = refl
head_card head.Whole = refl

-- what holds of a turn and of its refusal holds with whatever buffer: so of the card, the last turn and no text
module _ (under : List ℕ) (before : Card) (t : Turn) where
  fitting_so : (P : Turn → Type 0) → P (last_turn [] before) → P t → P (fitting_turn under before t)
  unfolding fitting_turn
  fitting_so P refusal all = either P (ltb (length under) 1024) (λ _. refusal) (λ _. all)

  fitting_card : t.card ≡ before → (fitting_turn under before t).card ≡ before
  fitting_card e = fitting_so (λ (u : Turn). u.card ≡ before) refl e

  fitting_last : t.more ≡ false → (fitting_turn under before t).more ≡ false
  fitting_last e = fitting_so (λ (u : Turn). u.more ≡ false) refl e

  fitting_none : t.text ≡ [] → (fitting_turn under before t).text ≡ []
  fitting_none e = fitting_so (λ (u : Turn). u.text ≡ []) refl e

module _ (κs : Lfts 2) (x y : Place) (out read : List ℕ) (wrong : Left) where
  -- another card than that at power-on, whatever the head
  start_card : (wrong.card ≡ card_at_power_on → ⊥) → RuledOut (start.Post κs) (lent_mut x out, (lent y read, tt)) wrong
  unfolding left_by head_turn
  start_card other s p =
      other (ap (λ (l : Left). l.card) p.0.answers ∙ fitting_card out card_at_power_on (head_turn read) (head_card (head_found read)))

  -- runs after another version, an unsound image or a head that is cut
  start_runs : (head_found read ≡ head.Whole → ⊥) → wrong.more ≡ true → RuledOut (start.Post κs) (lent_mut x out, (lent y read, tt)) wrong
  unfolding left_by head_turn
  start_runs other more s p =
      false≢true (sym (fitting_last out card_at_power_on (head_turn read) (head_last (head_found read) other)) ∙ sym (ap (λ (l : Left). l.more) p.0.answers) ∙ more)

  -- no run after a whole head
  start_none : head_found read ≡ head.Whole → 1024 ≤ length out → wrong.more ≡ false → RuledOut (start.Post κs) (lent_mut x out, (lent y read, tt)) wrong
  unfolding left_by head_turn after_head
  start_none found room none s p =
      let said : Turned out card_at_power_on (after_head head.Whole) wrong s.0.now = rw found at p in
      false≢true (sym none ∙ ap (λ (l : Left). l.more) (whole _ _ _ said room))

  -- CUT for cut, whatever is answered
  start_case : head_found read ≡ head.Cut → 1024 ≤ length out
      → RuledOutWith (λ s. take 4 s.0.now) (start.Post κs) (lent_mut x out, (lent y read, tt)) wrong (67 ∷ 85 ∷ 84 ∷ 10 ∷ [])
  unfolding head_turn after_head
  start_case found room s e p =
      let said : Turned out card_at_power_on (after_head head.Cut) wrong s.0.now = rw found at p in
      omega (arith, ap (λ (l : List ℕ). get_or l 0 0) (sym e ∙ stands _ _ _ said room))

  -- nothing said of another version
  start_version : head_found read ≡ head.Version → 1024 ≤ length out → (wrong.count ≡ 8 → ⊥) → RuledOut (start.Post κs) (lent_mut x out, (lent y read, tt)) wrong
  unfolding left_by head_turn after_head
  start_version found room other s p =
      let said : Turned out card_at_power_on (after_head head.Version) wrong s.0.now = rw found at p in
      other (ap (λ (l : Left). l.count) (whole _ _ _ said room))

  -- a short buffer, and a text yet counted
  start_short : length out < 1024 → (wrong.count ≡ 0 → ⊥) → RuledOut (start.Post κs) (lent_mut x out, (lent y read, tt)) wrong
  unfolding left_by
  start_short short other s p = other (ap (λ (l : Left). l.count) (refused _ _ _ p short))

module _ (κs : Lfts 3) (x y z : Place) (out : List ℕ) (card : Card) (image clock : List ℕ) (number : ℕ) (octets : List ℕ) (wrong : Left) where
  -- the turn by what the run is
  said_of : (r : Run) → run_found octets ≡ r → {left : List ℕ} → Turned out card (run_turn card image clock number octets) wrong left
      → Turned out card (after_run r card image clock number octets) wrong left
  unfolding run_turn
  said_of r found p = rw found at p

  -- a cut run given to the card, or the card changed by one in any other way
  turn_cut_card : run_found octets ≡ run.Cut → (wrong.card ≡ card → ⊥)
      → RuledOut (turn.Post κs) (lent_mut x out, (card, (lent y image, (clock, (number, (lent z octets, tt)))))) wrong
  unfolding left_by after_run
  turn_cut_card found other s p =
      other (ap (λ (l : Left). l.card) (said_of run.Cut found p).0.answers ∙ fitting_card out card (last_turn cut_line card) refl)

  -- another run after a cut one
  turn_cut_more : run_found octets ≡ run.Cut → wrong.more ≡ true
      → RuledOut (turn.Post κs) (lent_mut x out, (card, (lent y image, (clock, (number, (lent z octets, tt)))))) wrong
  unfolding left_by after_run
  turn_cut_more found more s p =
      false≢true (sym (fitting_last out card (last_turn cut_line card) refl) ∙ sym (ap (λ (l : Left). l.more) (said_of run.Cut found p).0.answers) ∙ more)

  -- CUT for cut, whatever is answered
  turn_cut_case : run_found octets ≡ run.Cut → 1024 ≤ length out
      → RuledOutWith (λ s. take 4 s.0.now) (turn.Post κs) (lent_mut x out, (card, (lent y image, (clock, (number, (lent z octets, tt)))))) wrong
      (67 ∷ 85 ∷ 84 ∷ 10 ∷ [])
  unfolding after_run
  turn_cut_case found room s e p = omega (arith, ap (λ (l : List ℕ). get_or l 0 0) (sym e ∙ stands _ _ _ (said_of run.Cut found p) room))

  -- a text where the input ends
  turn_end_text : run_found octets ≡ run.End → (wrong.count ≡ 0 → ⊥)
      → RuledOut (turn.Post κs) (lent_mut x out, (card, (lent y image, (clock, (number, (lent z octets, tt)))))) wrong
  unfolding left_by after_run
  turn_end_text found other s p =
      other (ap (λ (l : Left). l.count) (said_of run.End found p).0.answers ∙ ap length (fitting_none out card (last_turn [] card) refl))

  -- a short buffer, and the run yet carried out
  turn_short_card : length out < 1024 → (wrong.card ≡ card → ⊥)
      → RuledOut (turn.Post κs) (lent_mut x out, (card, (lent y image, (clock, (number, (lent z octets, tt)))))) wrong
  unfolding left_by
  turn_short_card short other s p = other (ap (λ (l : Left). l.card) (refused _ _ _ p short))

  -- a short buffer, and another run yet let follow
  turn_short_more : length out < 1024 → wrong.more ≡ true
      → RuledOut (turn.Post κs) (lent_mut x out, (card, (lent y image, (clock, (number, (lent z octets, tt)))))) wrong
  unfolding left_by
  turn_short_more short more s p = false≢true (sym (ap (λ (l : Left). l.more) (refused _ _ _ p short)) ∙ more)

  -- a short buffer, and the buffer yet changed
  turn_short_buffer : (other : List ℕ) → length out < 1024 → (other ≡ out → ⊥)
      → RuledOutWith (λ s. s.0.now) (turn.Post κs) (lent_mut x out, (card, (lent y image, (clock, (number, (lent z octets, tt)))))) wrong other
  turn_short_buffer other short differ s e p = differ (sym e ∙ kept _ _ _ p short)

  -- a whole run
  module _ (found : run_found octets ≡ run.Whole) where
    -- its outcome: the run's octets without their length, and a gap
    abbrev outcome : Outcome
    outcome = gapped (with_octets card (drop 2 octets)) image clock 261

    -- its line
    abbrev text : List ℕ
    text = line_of number outcome.number outcome.order outcome.reply

    -- what is said of it
    said_whole : {left : List ℕ} → Turned out card (run_turn card image clock number octets) wrong left → Turned out card (line_turn number outcome) wrong left
    unfolding after_run gap_turn
    said_whole p = said_of run.Whole found p

    -- the card thrown away after a run, or any other card than the one that the gap left
    turn_card : 1024 ≤ length out → (wrong.card ≡ outcome.card → ⊥)
        → RuledOut (turn.Post κs) (lent_mut x out, (card, (lent y image, (clock, (number, (lent z octets, tt)))))) wrong
    unfolding left_by line_turn
    turn_card room other s p = other (ap (λ (l : Left). l.card) (whole _ _ _ (said_whole p) room))

    -- no run after a whole one
    turn_none : 1024 ≤ length out → wrong.more ≡ false
        → RuledOut (turn.Post κs) (lent_mut x out, (card, (lent y image, (clock, (number, (lent z octets, tt)))))) wrong
    unfolding left_by line_turn
    turn_none room none s p = false≢true (sym none ∙ ap (λ (l : Left). l.more) (whole _ _ _ (said_whole p) room))

    -- another text than the run's line, with another number too
    turn_line : (other : List ℕ) → 1024 ≤ length out → (other ≡ text → ⊥)
        → RuledOutWith (λ s. take (length text) s.0.now) (turn.Post κs) (lent_mut x out, (card, (lent y image, (clock, (number, (lent z octets, tt)))))) wrong
        other
    unfolding line_turn
    turn_line other room differ s e p = differ (sym e ∙ stands _ _ _ (said_whole p) room)
