-- The ways in which a frame is answered: reset, status, not reset, repeated, NACK, carried out, given, nothing to give.
-- By the tests of the definition, one after the other. Assumes nothing.
use Rattle.std.specs.Bool.{MatchBool}
use Prim.Native.Nat.{ℕ}
use mathlib.Core.Bool.{Bool, true, false, not, ◌||◌}
use Rattle.octets.specs.Choice.{when◌then◌else◌}
use Rattle.link.specs.working.Counting.{IsCounted}
use mathlib.Core.List.{List}
use mathlib.Core.Path.{◌≡◌, refl, ap}
use native.Mathlib.Omega.{arith}
use borrow.Author.Tests.{eq-eqb, ne_eqb, eqb-true, eqb-false}
use lib.Dec.{ltb, eqb}
use Rattle.octets.specs.declared.Kept.{Kept}
use Rattle.octets.proofs.Choice.{either, flipped}
use Rattle.address.specs.declared.LinkAddress.{LinkAddress}
use Rattle.frame.specs.declared.Control.TheVariants.{Ack, Nack, NothingToGive}
use Rattle.frame.specs.declared.Service.{Service}
use Rattle.frame.specs.declared.Service.TheVariants.{Reset, UserData, Collection}
use Rattle.frame.specs.declared.Service.TheVariants as service
use Rattle.frame.specs.Controls.{Counts, user_data_law, collects}
use Rattle.frame.specs.Writing.{plain}
use Rattle.fields.specs.Answers.{identity_found}
use Rattle.deeds.specs.declared.Order.TheVariants.{NoOrder}
use Rattle.deeds.specs.Deeds.{is_waiting, carried_out}
use Rattle.waiting.specs.NextReply.{next_of, is_given, message_in}
use Rattle.link.specs.declared.Link.{Link}
use Rattle.link.specs.declared.Sends.{Sends}
use Rattle.link.specs.declared.Sends.TheVariants.{NotReset, Remembered, Status}
use Rattle.link.specs.declared.Answered.{Answered}
use Rattle.link.specs.State.{data_reply, after_reset, after_new}
use Rattle.link.specs.Answering.{link_in, answered_by, noted, carried, user_data, given, collection, counted, answered}

-- what is sent, to tell the three apart
unfoldable pub which : Sends → ℕ
which NotReset = 0
which Remembered = 1
which (Status address) = 2

-- functions 3 and 11, by their FCB
module _ (bit : ℕ) (link : Link) (afresh : Answered) where
  pub before_reset : link.reset ≡ false → counted bit link afresh ≡ answered_by NotReset link
  unfolding counted
  before_reset r = rw r

  pub with_last : link.reset ≡ true → bit ≡ link.fcb → counted bit link afresh ≡ answered_by Remembered link
  unfolding counted
  with_last r e = rw (r, eq-eqb bit link.fcb e)

  pub with_new : link.reset ≡ true → (bit ≡ link.fcb → ⊥) → counted bit link afresh ≡ afresh
  unfolding counted
  with_new r n = rw (r, ne_eqb bit link.fcb n)

-- what is told by a relation comes to what is counted, where the relation leaves one answer
pub is_counted : (bit : ℕ) (link : Link) {Afresh : Answered → Type 0} {answer : Answered} (afresh : Answered) → IsCounted bit link Afresh answer
    → ((x : Answered) → Afresh x → x ≡ afresh) → answer ≡ counted bit link afresh
unfolding counted IsCounted
is_counted bit link {Afresh = Afresh} {answer = answer} afresh c one = by_reset link.reset c
  where
    by_bit : (t : Bool) → MatchBool t (answer ≡ answered_by Remembered link) (Afresh answer) → answer ≡ (when t then answered_by Remembered link else afresh)
    by_bit true e = e
    by_bit false a = one answer a

    by_reset : (t : Bool) → MatchBool t (MatchBool (eqb bit link.fcb) (answer ≡ answered_by Remembered link) (Afresh answer)) (answer ≡ answered_by NotReset link)
        → answer ≡ (when not t then answered_by NotReset link else when eqb bit link.fcb then answered_by Remembered link else afresh)
    by_reset true c = by_bit (eqb bit link.fcb) c
    by_reset false e = e

-- a new FCB, after a reset
pub record Fresh (link : Link) (bit : ℕ) : Type 0 where
  pub is_reset : link.reset ≡ true
  pub new : bit ≡ link.fcb → ⊥

module _ (link : Link) (user : Kept) (image clock : List ℕ) where
  abbrev address : LinkAddress
  address = link_in (identity_found image)

  -- how a service is answered
  pub data Way : Service → Answered → Type 0 where
    as_reset : Way Reset (answered_by Remembered (after_reset (plain Ack address)))
    as_status : Way service.Status (answered_by (Status address) link)
    not_reset : {asked : Service} {bit : ℕ} → Counts asked bit → link.reset ≡ false → Way asked (answered_by NotReset link)
    repeated : {asked : Service} {bit : ℕ} → Counts asked bit → link.reset ≡ true → bit ≡ link.fcb → Way asked (answered_by Remembered link)
    as_nack : {bit : ℕ} → Fresh link bit → (is_waiting link.pending.waiting || ltb user.length 6) ≡ true → Way (UserData bit) (noted bit (plain Nack address) link)
    carried_out_law : {bit : ℕ} → Fresh link bit → (is_waiting link.pending.waiting || ltb user.length 6) ≡ false
        → Way (UserData bit) (carried address bit link (carried_out link.session image clock user))
    as_given : {bit : ℕ} → Fresh link bit → (is_given (next_of link.pending image)) ≡ true
        → Way (Collection bit)
        (answered_by Remembered
        (after_new bit (data_reply (message_in (next_of link.pending image)) address) link.session (next_of link.pending image).pending link))
    nothing_given : {bit : ℕ} → Fresh link bit → (is_given (next_of link.pending image)) ≡ false
        → Way (Collection bit) (noted bit (plain NothingToGive address) link)

  of_counted : {asked : Service} {bit : ℕ} (afresh : Answered) → Counts asked bit → (Fresh link bit → Way asked afresh) → Way asked (counted bit link afresh)
  unfolding counted
  of_counted {asked} {bit} afresh counts new =
      either (Way asked) (not link.reset) (λ r. not_reset counts (flipped _ _ r))
      (λ r. either (Way asked) (eqb bit link.fcb) (λ e. repeated counts (flipped _ _ r) (eqb-true _ _ e))
      (λ n. new (record { is_reset = flipped _ _ r; new = eqb-false _ _ n })))

  -- each frame is answered in one of these ways
  pub way : (asked : Service) → Way asked (answered link asked user image clock)
  unfolding answered user_data collection given
  way Reset = as_reset
  way service.Status = as_status
  way (UserData bit) =
      of_counted _ user_data_law (λ fresh.
      either (Way (UserData bit)) (is_waiting link.pending.waiting || ltb user.length 6) (as_nack fresh) (carried_out_law fresh))
  way (Collection bit) =
      of_counted _ collects (λ fresh. either (Way (Collection bit)) (is_given (next_of link.pending image)) (as_given fresh) (nothing_given fresh))

-- what answered user data or collection leaves: its FCB is the last, and the reply that is sent is the remembered one
pub record Noted (bit : ℕ) (a : Answered) : Type 0 where
  pub is_reset : a.link.reset ≡ true
  pub last : bit ≡ a.link.fcb
  pub remembers : a.sends ≡ Remembered

module _ (link : Link) (user : Kept) (image clock : List ℕ) where
  way_noted : {asked : Service} {bit : ℕ} {a : Answered} → Counts asked bit → Way link user image clock asked a → (a.sends ≡ NotReset → ⊥) → Noted bit a
  unfolding answered_by noted carried after_new
  way_noted {bit = bit} counts as_reset some = elim counts [ ]
  way_noted {bit = bit} counts as_status some = elim counts [ ]
  way_noted counts (not_reset c r) some = absurd (some refl)
  way_noted user_data_law (repeated user_data_law r e) some = record { is_reset = r; last = e; remembers = refl }
  way_noted collects (repeated collects r e) some = record { is_reset = r; last = e; remembers = refl }
  way_noted user_data_law (as_nack fresh w) some = record { is_reset = fresh.is_reset; last = refl; remembers = refl }
  way_noted user_data_law (carried_out_law fresh w) some = record { is_reset = fresh.is_reset; last = refl; remembers = refl }
  way_noted collects (as_given fresh f) some = record { is_reset = fresh.is_reset; last = refl; remembers = refl }
  way_noted collects (nothing_given fresh f) some = record { is_reset = fresh.is_reset; last = refl; remembers = refl }

  pub answered_noted : {asked : Service} {bit : ℕ} → Counts asked bit → ((answered link asked user image clock).sends ≡ NotReset → ⊥)
      → Noted bit (answered link asked user image clock)
  answered_noted {asked} counts = way_noted counts (way link user image clock asked)

  -- by the FCB: before the first reset, and with the last one
  pub answered_unreset : {asked : Service} {bit : ℕ} → Counts asked bit → link.reset ≡ false → answered link asked user image clock ≡ answered_by NotReset link
  unfolding answered
  answered_unreset user_data_law r = before_reset _ link _ r
  answered_unreset collects r = before_reset _ link _ r

  pub answered_last : {asked : Service} {bit : ℕ} → Counts asked bit → link.reset ≡ true → bit ≡ link.fcb
      → answered link asked user image clock ≡ answered_by Remembered link
  unfolding answered
  answered_last user_data_law r e = with_last _ link _ r e
  answered_last collects r e = with_last _ link _ r e

-- what a refusal gives and leaves: no order, and the link as it was
pub record Plain (link : Link) (a : Answered) : Type 0 where
  pub order_none : a.order ≡ NoOrder
  pub link_kept : a.link ≡ link

-- whether a reply is sent
sent : Sends → ℕ
sent NotReset = 0
sent Remembered = 1
sent (Status address) = 1

module _ (link : Link) (user : Kept) (image clock : List ℕ) where
  way_plain : {asked : Service} {a : Answered} → Way link user image clock asked a → a.sends ≡ NotReset → Plain link a
  unfolding answered_by noted carried sent
  way_plain as_reset e = absurd (omega (arith, ap sent e))
  way_plain as_status e = absurd (omega (arith, ap sent e))
  way_plain (not_reset c r) e = record { order_none = refl; link_kept = refl }
  way_plain (repeated c r l) e = absurd (omega (arith, ap sent e))
  way_plain (as_nack fresh w) e = absurd (omega (arith, ap sent e))
  way_plain (carried_out_law fresh w) e = absurd (omega (arith, ap sent e))
  way_plain (as_given fresh f) e = absurd (omega (arith, ap sent e))
  way_plain (nothing_given fresh f) e = absurd (omega (arith, ap sent e))

  pub answered_plain : (asked : Service) → (answered link asked user image clock).sends ≡ NotReset → Plain link (answered link asked user image clock)
  answered_plain asked = way_plain (way link user image clock asked)
