-- What the public contracts of this crate do not allow: two wrong outcomes or more of each.
-- By the rules of the link, whatever the link, the image and the clock. Assumes nothing.
use Prim.Native.Nat.{ℕ, ◌≤◌, ◌<◌}
use mathlib.Core.Bool.{true, false, or-true, false≢true}
use mathlib.Core.List.{List}
use mathlib.Core.Logic.{◌⊎◌, inl, inr}
use mathlib.Core.Path.{◌≡◌, sym, ap, ◌∙◌}
use native.Mathlib.Omega.{arith}
use contract.Lifetimes.{Lfts}
use denote.Ref.{Bor}
use borrow.Author.Tests.{lt-ltb, le-ltb}
use Rattle.octets.specs.declared.Kept.{Kept}
use Rattle.octets.proofs.Outcome.{RuledOut, Place, lent}
use Rattle.address.specs.declared.LinkAddress.{LinkAddress}
use Rattle.frame.specs.declared.Control.TheVariants.{Ack, Nack}
use Rattle.frame.specs.declared.Reply.{Reply}
use Rattle.frame.specs.declared.Service.{Service}
use Rattle.frame.specs.declared.Service.TheVariants.{Reset, UserData, Collection}
use Rattle.frame.specs.declared.Service.TheVariants as service
use Rattle.frame.specs.Controls.{Counts, control_of}
use Rattle.frame.specs.Writing.{plain}
use Rattle.fields.specs.Answers.{identity_found}
use Rattle.rules.specs.declared.Session.TheVariants.{Closed}
use Rattle.deeds.specs.declared.Waiting.TheVariants.{NoReply}
use Rattle.deeds.specs.declared.Order.TheVariants.{NoOrder}
use Rattle.deeds.specs.declared.Carried.{Carried}
use Rattle.deeds.specs.Deeds.{is_waiting, carried_out, nothing_pending}
use Rattle.waiting.specs.declared.Next.{Next}
use Rattle.waiting.specs.NextReply.{nothing_found, next_of, is_given, message_in}
use Rattle.link.specs.declared.Link.{Link}
use Rattle.link.specs.declared.Sends.TheVariants.{NotReset, Remembered, Status}
use Rattle.link.specs.declared.Answered.{Answered}
use Rattle.link.specs.State.{power_on, after_reset, after_new}
use Rattle.link.specs.Answering.{link_in, answered_by, noted, carried, user_data, given, collection, answered, reply_sent}
use Rattle.link.proofs.Answering.{Fresh, Plain, answered_plain, with_new, answered_unreset, answered_last}
use Rattle.link.proofs.Link.power_on.Reads as link_power_on
use Rattle.link.proofs.Link.answer.Reads as answer

module _ (κs : Lfts 0) (wrong : Link) where
  -- a link that counts as reset at power-on
  power_on_reset : wrong.reset ≡ true → RuledOut (link_power_on.Post κs) tt wrong
  unfolding power_on
  power_on_reset set s p = false≢true (sym (ap (λ (l : Link). l.reset) p) ∙ set)

  -- a session open at power-on, of whatever point
  power_on_session : (wrong.session ≡ Closed → ⊥) → RuledOut (link_power_on.Post κs) tt wrong
  unfolding power_on
  power_on_session other s p = other (ap (λ (l : Link). l.session) p)

  -- a reply waiting at power-on, whatever it is
  power_on_waiting : is_waiting wrong.pending.waiting ≡ true → RuledOut (link_power_on.Post κs) tt wrong
  unfolding power_on nothing_pending
  power_on_waiting waits s p = false≢true (sym (ap (λ (l : Link). is_waiting l.pending.waiting) p) ∙ waits)

  -- another reply remembered at power-on than the ACK of address 0
  power_on_remembered : (wrong.remembered ≡ plain Ack (record { 0 = 0 }) → ⊥) → RuledOut (link_power_on.Post κs) tt wrong
  unfolding power_on
  power_on_remembered other s p = other (ap (λ (l : Link). l.remembered) p)

-- the reply that is sent
abbrev reply : Answered → Reply
reply a = reply_sent a.sends a.link

-- its control octet
abbrev control : Answered → ℕ
control a = control_of (reply a).control

module _ (κs : Lfts 1) (x : Place) (link : Link) (user : Kept) (image clock : List ℕ) (wrong : Answered) where
  -- what the call is given
  abbrev asking : Service → Link × (Service × (Kept × (Bor (List ℕ) × (List ℕ × Unit {0}))))
  asking service = (link, (service, (user, (lent x image, (clock, tt)))))

  -- the link address of the image
  abbrev address : LinkAddress
  address = link_in (identity_found image)

  -- a reset refused, or answered by a status
  answer_reset_refused : (wrong.sends ≡ Remembered → ⊥) → RuledOut (answer.Post κs) (asking Reset) wrong
  unfolding answered answered_by
  answer_reset_refused other s p = other (ap (λ (a : Answered). a.sends) p)

  -- a session that is not closed by a reset
  answer_reset_session : (wrong.link.session ≡ Closed → ⊥) → RuledOut (answer.Post κs) (asking Reset) wrong
  unfolding answered answered_by after_reset
  answer_reset_session other s p = other (ap (λ (a : Answered). a.link.session) p)

  -- waiting replies kept by a reset
  answer_reset_waiting : is_waiting wrong.link.pending.waiting ≡ true → RuledOut (answer.Post κs) (asking Reset) wrong
  unfolding answered answered_by after_reset nothing_pending
  answer_reset_waiting waits s p = false≢true (sym (ap (λ (a : Answered). is_waiting a.link.pending.waiting) p) ∙ waits)

  -- another last FCB than 0 after a reset
  answer_reset_bit : (wrong.link.fcb ≡ 0 → ⊥) → RuledOut (answer.Post κs) (asking Reset) wrong
  unfolding answered answered_by after_reset
  answer_reset_bit other s p = other (ap (λ (a : Answered). a.link.fcb) p)

  -- a link that is not reset after a reset
  answer_reset_unset : wrong.link.reset ≡ false → RuledOut (answer.Post κs) (asking Reset) wrong
  unfolding answered answered_by after_reset
  answer_reset_unset unset s p = false≢true (sym unset ∙ ap (λ (a : Answered). a.link.reset) p)

  -- the ACK of a reset not remembered
  answer_reset_forgotten : (wrong.link.remembered ≡ plain Ack address → ⊥) → RuledOut (answer.Post κs) (asking Reset) wrong
  unfolding answered answered_by after_reset
  answer_reset_forgotten other s p = other (ap (λ (a : Answered). a.link.remembered) p)

  -- a status that changes the link, whatever the link
  answer_status_changes : (wrong.link ≡ link → ⊥) → RuledOut (answer.Post κs) (asking service.Status) wrong
  unfolding answered answered_by
  answer_status_changes other s p = other (ap (λ (a : Answered). a.link) p)

  -- a status refused, before the first reset too, or answered by the remembered reply
  answer_status_refused : (wrong.sends ≡ Status address → ⊥) → RuledOut (answer.Post κs) (asking service.Status) wrong
  unfolding answered answered_by
  answer_status_refused other s p = other (ap (λ (a : Answered). a.sends) p)

  module _ (asked : Service) where
    -- a refusal that the contract allows
    refused_plain : wrong ≡ answered link asked user image clock → wrong.sends ≡ NotReset → Plain link (answered link asked user image clock)
    refused_plain p none = answered_plain link user image clock asked (sym (ap (λ (a : Answered). a.sends) p) ∙ none)

    -- an order to the meter with a refusal, whatever is asked
    answer_refused_order : wrong.sends ≡ NotReset → (wrong.order ≡ NoOrder → ⊥) → RuledOut (answer.Post κs) (asking asked) wrong
    answer_refused_order none other s p = other (ap (λ (a : Answered). a.order) p ∙ (refused_plain p none).order_none)

    -- a refusal that changes the link, whatever is asked
    answer_refused_link : wrong.sends ≡ NotReset → (wrong.link ≡ link → ⊥) → RuledOut (answer.Post κs) (asking asked) wrong
    answer_refused_link none other s p = other (ap (λ (a : Answered). a.link) p ∙ (refused_plain p none).link_kept)

    -- functions 3 and 11, by their FCB
    module _ (bit : ℕ) (counts : Counts asked bit) where
      -- a reply before the first reset
      answer_unreset_replied : link.reset ≡ false → (wrong.sends ≡ NotReset → ⊥) → RuledOut (answer.Post κs) (asking asked) wrong
      unfolding answered_by
      answer_unreset_replied unset other s p = other (ap (λ (a : Answered). a.sends) (p ∙ answered_unreset link user image clock counts unset))

      -- a link changed before the first reset
      answer_unreset_link : link.reset ≡ false → (wrong.link ≡ link → ⊥) → RuledOut (answer.Post κs) (asking asked) wrong
      unfolding answered_by
      answer_unreset_link unset other s p = other (ap (λ (a : Answered). a.link) (p ∙ answered_unreset link user image clock counts unset))

      -- an order to the meter before the first reset
      answer_unreset_order : link.reset ≡ false → (wrong.order ≡ NoOrder → ⊥) → RuledOut (answer.Post κs) (asking asked) wrong
      unfolding answered_by
      answer_unreset_order unset other s p = other (ap (λ (a : Answered). a.order) (p ∙ answered_unreset link user image clock counts unset))

      -- an order to the meter with a repeat, the clock set twice
      answer_repeat_order : link.reset ≡ true → bit ≡ link.fcb → (wrong.order ≡ NoOrder → ⊥) → RuledOut (answer.Post κs) (asking asked) wrong
      unfolding answered_by
      answer_repeat_order set same other s p = other (ap (λ (a : Answered). a.order) (p ∙ answered_last link user image clock counts set same))

      -- a repeat that changes the link: session, FCB or what waits
      answer_repeat_link : link.reset ≡ true → bit ≡ link.fcb → (wrong.link ≡ link → ⊥) → RuledOut (answer.Post κs) (asking asked) wrong
      unfolding answered_by
      answer_repeat_link set same other s p = other (ap (λ (a : Answered). a.link) (p ∙ answered_last link user image clock counts set same))

      -- a repeat that is answered by another reply than the remembered one
      answer_repeat_reply : link.reset ≡ true → bit ≡ link.fcb → (reply wrong ≡ link.remembered → ⊥) → RuledOut (answer.Post κs) (asking asked) wrong
      unfolding answered_by
      answer_repeat_reply set same other s p = other (ap reply (p ∙ answered_last link user image clock counts set same))

  -- with a new FCB, after a reset
  module _ (bit : ℕ) (fresh : Fresh link bit) where
    -- user data is answered afresh
    data_afresh : answered link (UserData bit) user image clock ≡ user_data address bit link user image clock
    unfolding answered
    data_afresh = with_new bit link _ fresh.is_reset fresh.new

    -- by NACK while replies wait or with fewer than 6 octets
    data_nack : (is_waiting link.pending.waiting ≡ true) ⊎ (user.length < 6)
        → answered link (UserData bit) user image clock ≡ noted bit (plain Nack address) link
    unfolding user_data
    data_nack (inl waits) = data_afresh ∙ rw waits
    data_nack (inr short) = data_afresh ∙ rw (lt-ltb user.length 6 short, or-true (is_waiting link.pending.waiting))

    -- what the message does when it is carried out
    abbrev done : Carried
    done = carried_out link.session image clock user

    -- else by ACK, and the message is carried out
    data_carried : is_waiting link.pending.waiting ≡ false → 6 ≤ user.length
        → answered link (UserData bit) user image clock ≡ carried address bit link done
    unfolding user_data
    data_carried idle long = data_afresh ∙ rw (idle, le-ltb user.length 6 long)

    -- the reply that waits
    abbrev next : Next
    next = next_of link.pending image

    -- a collection is answered afresh
    collected : answered link (Collection bit) user image clock ≡ given address bit link next
    unfolding answered collection
    collected = with_new bit link _ fresh.is_reset fresh.new

    -- a NACK is due
    module _ (no : (is_waiting link.pending.waiting ≡ true) ⊎ (user.length < 6)) where
      -- user data taken by ACK while replies wait or with fewer than 6 octets
      answer_nack_taken : control wrong ≡ 0x00 → RuledOut (answer.Post κs) (asking (UserData bit)) wrong
      unfolding answered_by noted after_new
      answer_nack_taken ack s p = omega (arith, ap control (p ∙ data_nack no))

      -- an order to the meter with a NACK
      answer_nack_order : (wrong.order ≡ NoOrder → ⊥) → RuledOut (answer.Post κs) (asking (UserData bit)) wrong
      unfolding answered_by noted after_new
      answer_nack_order other s p = other (ap (λ (a : Answered). a.order) (p ∙ data_nack no))

      -- a session that a NACK changes
      answer_nack_session : (wrong.link.session ≡ link.session → ⊥) → RuledOut (answer.Post κs) (asking (UserData bit)) wrong
      unfolding answered_by noted after_new
      answer_nack_session other s p = other (ap (λ (a : Answered). a.link.session) (p ∙ data_nack no))

      -- waiting replies that a NACK drops
      answer_nack_waiting : (wrong.link.pending ≡ link.pending → ⊥) → RuledOut (answer.Post κs) (asking (UserData bit)) wrong
      unfolding answered_by noted after_new
      answer_nack_waiting other s p = other (ap (λ (a : Answered). a.link.pending) (p ∙ data_nack no))

      -- a NACK after which the new FCB is not the last
      answer_nack_bit : (wrong.link.fcb ≡ bit → ⊥) → RuledOut (answer.Post κs) (asking (UserData bit)) wrong
      unfolding answered_by noted after_new
      answer_nack_bit other s p = other (ap (λ (a : Answered). a.link.fcb) (p ∙ data_nack no))

      -- a NACK that is not remembered
      answer_nack_forgotten : (wrong.link.remembered ≡ plain Nack address → ⊥) → RuledOut (answer.Post κs) (asking (UserData bit)) wrong
      unfolding answered_by noted after_new
      answer_nack_forgotten other s p = other (ap (λ (a : Answered). a.link.remembered) (p ∙ data_nack no))

    -- the message is to be carried out
    module _ (idle : is_waiting link.pending.waiting ≡ false) (long : 6 ≤ user.length) where
      -- NACK for 6 user octets or more where nothing waits
      answer_data_nack : control wrong ≡ 0x01 → RuledOut (answer.Post κs) (asking (UserData bit)) wrong
      unfolding carried after_new
      answer_data_nack nack s p = omega (arith, ap control (p ∙ data_carried idle long))

      -- the session of the message that is carried out not taken over
      answer_data_session : (wrong.link.session ≡ done.session → ⊥) → RuledOut (answer.Post κs) (asking (UserData bit)) wrong
      unfolding carried after_new
      answer_data_session other s p = other (ap (λ (a : Answered). a.link.session) (p ∙ data_carried idle long))

      -- other replies waiting than those of the message
      answer_data_waiting : (wrong.link.pending ≡ done.pending → ⊥) → RuledOut (answer.Post κs) (asking (UserData bit)) wrong
      unfolding carried after_new
      answer_data_waiting other s p = other (ap (λ (a : Answered). a.link.pending) (p ∙ data_carried idle long))

      -- another order to the meter than that of the message
      answer_data_order : (wrong.order ≡ done.order → ⊥) → RuledOut (answer.Post κs) (asking (UserData bit)) wrong
      unfolding carried
      answer_data_order other s p = other (ap (λ (a : Answered). a.order) (p ∙ data_carried idle long))

      -- an ACK after which the new FCB is not the last
      answer_data_bit : (wrong.link.fcb ≡ bit → ⊥) → RuledOut (answer.Post κs) (asking (UserData bit)) wrong
      unfolding carried after_new
      answer_data_bit other s p = other (ap (λ (a : Answered). a.link.fcb) (p ∙ data_carried idle long))

      -- an ACK that is not remembered
      answer_data_forgotten : (wrong.link.remembered ≡ plain Ack address → ⊥) → RuledOut (answer.Post κs) (asking (UserData bit)) wrong
      unfolding carried after_new
      answer_data_forgotten other s p = other (ap (λ (a : Answered). a.link.remembered) (p ∙ data_carried idle long))

    -- data given instead of 09 where nothing waits
    answer_collection_nothing : link.pending.waiting ≡ NoReply → control wrong ≡ 0x08 → RuledOut (answer.Post κs) (asking (Collection bit)) wrong
    unfolding given noted answered_by after_new next_of nothing_found
    answer_collection_nothing idle gives s p = omega (arith, ap control (rw idle at (p ∙ collected)))

    -- a reply waits
    module _ (waits : is_given next ≡ true) where
      -- 09 where a reply waits
      answer_collection_found : control wrong ≡ 0x09 → RuledOut (answer.Post κs) (asking (Collection bit)) wrong
      unfolding given noted answered_by after_new
      answer_collection_found none s p = omega (arith, ap control (rw waits at (p ∙ collected)))

      -- another message given than the next that waits
      answer_collection_message : ((reply wrong).user ≡ (message_in next) → ⊥) → RuledOut (answer.Post κs) (asking (Collection bit)) wrong
      unfolding given noted answered_by after_new
      answer_collection_message other s p = other (ap (λ (a : Answered). (reply a).user) (rw waits at (p ∙ collected)))

      -- what waits not advanced when a reply is given
      answer_collection_kept : (wrong.link.pending ≡ next.pending → ⊥) → RuledOut (answer.Post κs) (asking (Collection bit)) wrong
      unfolding given noted answered_by after_new
      answer_collection_kept other s p = other (ap (λ (a : Answered). a.link.pending) (rw waits at (p ∙ collected)))

      -- an order to the meter with a collection
      answer_collection_order : (wrong.order ≡ NoOrder → ⊥) → RuledOut (answer.Post κs) (asking (Collection bit)) wrong
      unfolding given noted answered_by after_new
      answer_collection_order other s p = other (ap (λ (a : Answered). a.order) (rw waits at (p ∙ collected)))
