-- Condition 3. "Take any history of octets and gaps from power-on, with one sound image, one clock reading throughout and a reply buffer of full
-- size. Directly after a gap, or at the start, insert one or more non-empty runs that are not sound frames, each closed by a gap. No inserted run
-- is answered. All other replies and orders, and the link and session at the end, are those that the definition in 2 gives for the history
-- without them; only the count of damaged runs may differ. A sound frame with exactly one octet changed is always such a run. An answered data
-- or collection frame, received again as the next run, gets the same reply, gives no order and changes nothing."
-- The first four sentences are `Condition3`, the fifth is `OneOctetNoise`, the last is `Repeats`. An octet is a character of the profile: with eleven bits its
-- parity bit comes with it. Assumes nothing.
use Rattle.std.specs.Prelude.{ℕ, ◌≤◌, ◌<◌, Bool, true, false, List, [], ◌∷◌, ◌≡◌, length, get_or, drop, set, Some}
use Rattle.history.specs.History.{Event, Symbol, Gap, Call, Stepped, AllFit, Each}
use Rattle.history.specs.Noise.{Noised, inserted, remaining}
use Rattle.frame.specs.declared.Service.{Service}
use Rattle.frame.specs.Family.{sapr}
use Rattle.frame.specs.Frame.{Frame, sound}
use Rattle.frame.specs.Controls.{asked_by, Counts}
use Rattle.profile.specs.declared.Profile.{Profile}
use Rattle.profile.specs.Profile.{CharacterIn, octet_in, octets_in, judge_in}
use Rattle.image.specs.Image.{sound_image}
use Rattle.deeds.specs.declared.Order.TheVariants.{NoOrder}
use Rattle.card.specs.declared.Card.{Card}
use Rattle.tender.specs.Card.{Loan, Seen, reply_in, no_time, AnyCard, History, answers_of, end_of, received, ours, our_card}

-- one sound image, one clock reading, a reply buffer of full size
pub record Fit (image clock : List ℕ) (loan : Loan) : Type 0 where
  pub sound_image_law : sound_image image ≡ true
  pub one_image : loan.image ≡ image
  pub one_clock : loan.clock ≡ clock
  pub full_size : 261 ≤ length loan.buffer

-- a non-empty run that is not a sound frame
pub record Noise (p : Profile) (run : List (CharacterIn p)) : Type 0 where
  pub some : length run ≡ 0 → ⊥
  pub not_sound : (f : Frame) → judge_in p sapr run ≡ sound f → ⊥

-- the same link and session, and the same run so far; only the count of damaged runs may differ
pub record Alike (s t : Card) : Type 0 where
  pub collectors : s.collector ≡ t.collector
  pub links : s.link ≡ t.link

-- not answered: no reply, no order. That the buffer is untouched is condition 1's `Refused`
pub record Mute (seen : Seen) : Type 0 where
  pub not_0 : seen.number ≡ 0 → ⊥
  pub no_reply : seen.count ≡ 0
  pub no_order : seen.order ≡ NoOrder
  pub no_time_law : seen.time ≡ no_time

-- `n` says how h' is h with runs of noise put in: h' is what the card hears, h is what the definition is asked about
pub record Undisturbed {p : Profile} (c : AnyCard p) {image clock : List ℕ} {h h' : History p} (n : Noised (Fit image clock) (Noise p) true h h') : Type 0 where
  -- no inserted run is answered
  pub unanswered : Each Mute (inserted n (answers_of c h'))
  -- all other replies and orders are those that the definition gives for the history without them
  pub same : remaining n (answers_of c h') ≡ answers_of (our_card p) h
  -- and so are the link and session at the end
  pub alike : Alike (end_of (our_card p) h) (end_of c h')

abbrev pub Condition3 : {p : Profile} → AnyCard p → Type 0
Condition3 {p} c = (image clock : List ℕ) (h h' : History p) (n : Noised (Fit image clock) (Noise p) true h h') → Undisturbed c n

-- a sound frame with exactly one octet changed is always such a run, whatever parity bit comes with the octet
abbrev pub OneOctetNoise : Profile → Type 0
OneOctetNoise p =
    (run : List (CharacterIn p)) (f : Frame) (place : ℕ) (new : CharacterIn p)
    → ((i : ℕ) → get_or (octets_in p run) i 0 < 256) → judge_in p sapr run ≡ sound f → place < length run → octet_in p new < 256
    → (octet_in p new ≡ get_or (octets_in p run) place 0 → ⊥) → Noise p (set run place new)

-- a data or a collection frame: function 3 or 11
pub record Counting (p : Profile) (run : List (CharacterIn p)) : Type 0 where
  pub frame : Frame
  pub service : Service
  pub bit : ℕ
  pub is_sound : judge_in p sapr run ≡ sound frame
  pub asks : asked_by frame ≡ Some service
  pub counts : Counts service bit

-- what two receptions of one frame do, one after the other, the second with this buffer lent
pub record Again (first second : Stepped Card Seen) (buffer : List ℕ) : Type 0 where
  pub answered : first.answer.number ≡ 0
  pub answered_again : second.answer.number ≡ 0
  -- it gets the same reply, in the first octets of the buffer, the rest unchanged
  pub same_length : second.answer.count ≡ first.answer.count
  pub same_reply : reply_in second.answer ≡ reply_in first.answer
  pub rest_kept : drop second.answer.count second.answer.buffer ≡ drop second.answer.count buffer
  -- gives no order
  pub no_order : second.answer.order ≡ NoOrder
  pub no_time_law : second.answer.time ≡ no_time
  -- and changes nothing
  pub nothing_changes : second.state ≡ first.state

-- whether a history ends directly after a gap, or is at its start; `fresh` says it of the place where it begins
abbrev pub ends_fresh : {A : Type 0} → Bool → List (Event A Loan ⊥) → Bool
ends_fresh fresh [] = fresh
ends_fresh fresh (Symbol x ∷ h) = ends_fresh false h
ends_fresh fresh (Gap loan ∷ h) = ends_fresh true h
ends_fresh fresh (Call none ∷ h) = ends_fresh fresh h

-- after any history that ends so: a data or collection frame that the definition answers is answered, and received again as the next run it
-- gets what `Again` says
abbrev pub Repeats : {p : Profile} → AnyCard p → Type 0
Repeats {p} c =
    (image clock : List ℕ) (h : History p) (run : List (CharacterIn p)) (loan loan' : Loan)
    → AllFit (Fit image clock) h → ends_fresh true h ≡ true → Counting p run → Fit image clock loan → Fit image clock loan'
    → (received (ours p) (end_of (our_card p) h) run loan).answer.number ≡ 0
    → (let first = received c.calls (end_of c h) run loan in
    Again first (received c.calls first.state run loan') loan'.buffer)
