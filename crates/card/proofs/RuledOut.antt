-- What the public contracts of this crate do not allow: two wrong outcomes or more of each.
-- By the ends of a gap, whatever the card, the image, the clock and the buffer. Assumes nothing.
use Rattle.std.specs.Prelude.{Result, Ok, Err}
use Prim.Native.Nat.{ℕ, ◌+◌, ◌≤◌, ◌<◌}
use mathlib.Core.Bool.{true, false, false≢true}
use mathlib.Core.List.{List, []}
use mathlib.Core.Path.{◌≡◌, refl, sym, ap, ◌∙◌}
use native.Mathlib.Omega.{arith}
use contract.Lifetimes.{Lfts}
use Rattle.std.proofs.Common.{Bor, MutBor}
use borrow.Author.Tests.{lt-ltb}
use lib.ListN.{length, get_or, take, drop}
use lib.Seq.{take-append_seam, get_or-append-add, get_or-drop, get_or-set_same}
use Rattle.octets.specs.Over.{laid_in}
use Rattle.octets.proofs.Choice.{not_both}
use Rattle.octets.proofs.Outcome.{RuledOut, RuledOutWith, Place, lent, lent_mut}
use Rattle.image.specs.Image.{sound_image}
use Rattle.frame.specs.declared.Fault.{Fault}
use Rattle.frame.specs.declared.Fault.TheVariants.{Empty, Long, Parity, Malformed, Spoiled}
use Rattle.frame.specs.Family.{sapr}
use Rattle.frame.specs.Frame.{refused, fault_number}
use Rattle.frame.specs.Writing.{reply_octets}
use Rattle.profile.specs.declared.Character.{Character}
use Rattle.profile.specs.declared.Profile.TheVariants.{Ten}
use Rattle.profile.specs.Character.{even_parity}
use Rattle.collector.specs.declared.Collector.{Collector}
use Rattle.collector.specs.Collecting.{emptied, collected_in, verdict_of}
use Rattle.collector.specs.Damage.{damages, one_more}
use Rattle.collector.proofs.Collecting.{empty_verdict, marked_verdict, collected_stores}
use Rattle.deeds.specs.declared.Order.TheVariants.{NoOrder}
use Rattle.link.specs.declared.Sends.TheVariants.{NotReset}
use Rattle.link.specs.declared.Answered.{Answered}
use Rattle.link.specs.State.{power_on}
use Rattle.link.specs.Answering.{answered, reply_sent}
use Rattle.link.proofs.Answering.{answered_plain}
use Rattle.card.specs.declared.Card.{Card}
use Rattle.card.specs.declared.Asked.{Asked}
use Rattle.card.specs.declared.NoAnswer.{NoAnswer}
use Rattle.card.specs.declared.NoAnswer.TheVariants.{Faulty, OtherLink, NotOffered}
use Rattle.card.specs.declared.Gone.{Gone}
use Rattle.card.specs.State.{card_at_power_on, with_character, left_with, damaged_by}
use Rattle.card.specs.Examining.{examined}
use Rattle.card.specs.Gap.{Outcome, refusal, replied_by, after_answer, after_examining, gapped, gone_by}
use Rattle.card.proofs.State.{characters_collected}
use Rattle.card.proofs.Gap.{answer_unreset, answer_replied, gap_short, gap_unsound, gap_examined, gap_end, End, short, unsound, faulty, other_link, not_offered, not_reset, replied}
use Rattle.card.proofs.Card.gap.Reads as card_gap
use Rattle.card.proofs.Card.power_on.Reads as card_power_on
use Rattle.card.proofs.Card.octet.Reads as card_octet
use Rattle.card.proofs.Card.octets.Reads as card_octets
use Rattle.card.proofs.Card.character.Reads as card_character
use Rattle.card.proofs.NoAnswerFromFault.from.Reads as no_answer_from

-- another reason than the fault of the run
from_other : (κs : Lfts 0) (fault : Fault) (wrong : NoAnswer) → (wrong ≡ Faulty fault → ⊥) → RuledOut (no_answer_from.Post κs) (fault, tt) wrong
from_other κs fault wrong other s p = other p

module _ (κs : Lfts 0) (wrong : Card) where
  -- a count of damaged runs at power-on that is not 0
  power_on_count : (wrong.damaged ≡ 0 → ⊥) → RuledOut (card_power_on.Post κs) tt wrong
  unfolding card_at_power_on
  power_on_count some s p = some (ap (λ (c : Card). c.damaged) p)

  -- a collector at power-on that is not empty
  power_on_collector : (wrong.collector.length ≡ 0 → ⊥) → RuledOut (card_power_on.Post κs) tt wrong
  unfolding card_at_power_on emptied
  power_on_collector some s p = some (ap (λ (c : Card). c.collector.length) p)

  -- a link that counts as reset at power-on
  power_on_reset : wrong.link.reset ≡ true → RuledOut (card_power_on.Post κs) tt wrong
  unfolding card_at_power_on power_on
  power_on_reset set s p = false≢true (sym (ap (λ (c : Card). c.link.reset) p) ∙ set)

  module _ (card : Card) (octet : ℕ) where
    -- an octet that changes the link, whatever the card
    octet_link : (wrong.link ≡ card.link → ⊥) → RuledOut (card_octet.Post κs) (card, (octet, tt)) wrong
    unfolding with_character
    octet_link other s p = other (ap (λ (c : Card). c.link) p)

    -- an octet that is counted as a damaged run, or changes that count
    octet_damaged : (wrong.damaged ≡ card.damaged → ⊥) → RuledOut (card_octet.Post κs) (card, (octet, tt)) wrong
    unfolding with_character
    octet_damaged other s p = other (ap (λ (c : Card). c.damaged) p)

    -- another octet put in than the one that came
    octet_other : card.collector.length < 261 → length card.collector.octets ≡ 261
        → (get_or wrong.collector.octets card.collector.length 0 ≡ octet → ⊥)
        → RuledOut (card_octet.Post κs) (card, (octet, tt)) wrong
    unfolding with_character collected_in
    octet_other room whole other s p =
        other (ap (λ (c : Card). get_or c.collector.octets card.collector.length 0) (rw (lt-ltb card.collector.length 261 room) at p)
        ∙ get_or-set_same card.collector.octets card.collector.length octet 0 (omega arith))

  module _ (card : Card) (x : Character) where
    -- a character that changes the link, whatever the card
    character_link : (wrong.link ≡ card.link → ⊥) → RuledOut (card_character.Post κs) (card, (x, tt)) wrong
    unfolding with_character
    character_link other s p = other (ap (λ (c : Card). c.link) p)

    -- a wrong parity bit counted as a damaged run before the gap
    character_damaged : (wrong.damaged ≡ card.damaged → ⊥) → RuledOut (card_character.Post κs) (card, (x, tt)) wrong
    unfolding with_character
    character_damaged other s p = other (ap (λ (c : Card). c.damaged) p)

    -- a wrong parity bit that leaves the run without a mark
    character_unmarked : card.collector.length < 261 → even_parity x ≡ false → wrong.collector.marked ≡ false
        → RuledOut (card_character.Post κs) (card, (x, tt)) wrong
    unfolding with_character collected_in
    character_unmarked room odd lost s p =
        not_both lost (ap (λ (c : Card). c.collector.marked) (rw (lt-ltb card.collector.length 261 room, odd) at p))

module _ (κs : Lfts 1) (x : Place) (card wrong : Card) (octets : List ℕ) where
  -- octets that change the link, whatever the card
  octets_link : (wrong.link ≡ card.link → ⊥) → RuledOut (card_octets.Post κs) (card, (lent x octets, tt)) wrong
  octets_link other s p = other (ap (λ (c : Card). c.link) (p ∙ characters_collected Ten octets card))

  -- octets that are counted as a damaged run, or change that count
  octets_damaged : (wrong.damaged ≡ card.damaged → ⊥) → RuledOut (card_octets.Post κs) (card, (lent x octets, tt)) wrong
  octets_damaged other s p = other (ap (λ (c : Card). c.damaged) (p ∙ characters_collected Ten octets card))

  -- only the first of the octets put in, or one more than came
  octets_counted : card.collector.length + length octets ≤ 261 → (wrong.collector.length ≡ card.collector.length + length octets → ⊥)
      → RuledOut (card_octets.Post κs) (card, (lent x octets, tt)) wrong
  octets_counted room other s p =
      other (ap (λ (c : Card). c.collector.length) (p ∙ characters_collected Ten octets card)
      ∙ ap (λ (c : Collector). c.length) (collected_stores Ten octets card.collector room))

-- what a damaged run leaves
module _ (card : Card) where
  damaged_link : (fault : Fault) → (damaged_by fault card).link ≡ card.link
  unfolding damaged_by
  damaged_link Empty = refl
  damaged_link Long = refl
  damaged_link Parity = refl
  damaged_link Malformed = refl
  damaged_link Spoiled = refl

  damaged_emptied : (fault : Fault) → (fault_number fault ≡ 1 → ⊥) → (damaged_by fault card).collector ≡ emptied
  unfolding damaged_by
  damaged_emptied Empty some = absurd (some refl)
  damaged_emptied Long some = refl
  damaged_emptied Parity some = refl
  damaged_emptied Malformed some = refl
  damaged_emptied Spoiled some = refl

-- what holds of every gap
module _ (card : Card) (image clock : List ℕ) (room : ℕ) where
  -- a refusal gives no reply and no order, and keeps the link
  record Plain (o : Outcome) : Type 0 where
    reply_none : o.reply ≡ []
    order_none : o.order ≡ NoOrder
    link_kept : o.card.link ≡ card.link

  -- so it is of every gap
  refused_plain : {o : Outcome} → End card image clock room o → (o.number ≡ 0 → ⊥) → Plain o
  unfolding refusal replied_by left_with
  refused_plain (short h) n = record { reply_none = refl; order_none = refl; link_kept = refl }
  refused_plain (unsound h s) n = record { reply_none = refl; order_none = refl; link_kept = refl }
  refused_plain (faulty h s fault x) n = record { reply_none = refl; order_none = refl; link_kept = damaged_link card fault }
  refused_plain (other_link h s x) n = record { reply_none = refl; order_none = refl; link_kept = refl }
  refused_plain (not_offered h s x) n = record { reply_none = refl; order_none = refl; link_kept = refl }
  refused_plain (not_reset h s asked x e) n =
      record { reply_none = refl; order_none = refl; link_kept = (answered_plain card.link asked.user image clock asked.service e).link_kept }
  refused_plain (replied h s asked x some) n = absurd (n refl)

  -- the run stays with 1, 8 and 9 only
  else_emptied : {o : Outcome} → End card image clock room o → (o.number ≡ 1 → ⊥) → (o.number ≡ 8 → ⊥) → (o.number ≡ 9 → ⊥)
      → o.card.collector ≡ emptied
  unfolding refusal replied_by left_with
  else_emptied (short h) a b c = absurd (c refl)
  else_emptied (unsound h s) a b c = absurd (b refl)
  else_emptied (faulty h s fault x) a b c = damaged_emptied card fault a
  else_emptied (other_link h s x) a b c = refl
  else_emptied (not_offered h s x) a b c = refl
  else_emptied (not_reset h s asked x e) a b c = refl
  else_emptied (replied h s asked x some) a b c = refl

module _ (κs : Lfts 2) (x y : Place) (card : Card) (image clock buffer : List ℕ) (wrong : Gone) where
  -- what the call is given
  abbrev given : Card × (Bor (List ℕ) × (List ℕ × (MutBor (List ℕ) × Unit {0})))
  given = (card, (lent x image, (clock, (lent_mut y buffer, tt))))

  -- the outcome that the contract says
  abbrev said : Outcome
  said = gapped card image clock (length buffer)

  -- what the run is found to be
  abbrev found : Result Asked NoAnswer
  found = examined card.collector image

  -- a refusal that the contract allows
  plain : wrong ≡ gone_by said → (wrong.number ≡ 0 → ⊥) → Plain card image clock (length buffer) said
  unfolding gone_by
  plain answers refused_by =
      refused_plain card image clock (length buffer) (gap_end card image clock (length buffer)) (λ e. refused_by (ap (λ (g : Gone). g.number) answers ∙ e))

  -- a refusal by a number, with the card that it leaves
  module _ (n : ℕ) (left : Card) (e : said ≡ refusal n left) (answers : wrong ≡ gone_by said) where
    numbered : wrong.number ≡ n
    unfolding gone_by refusal
    numbered = ap (λ (g : Gone). g.number) (answers ∙ ap gone_by e)

    leaves : wrong.card ≡ left
    unfolding gone_by refusal
    leaves = ap (λ (g : Gone). g.card) (answers ∙ ap gone_by e)

  -- 8 or another number where 9 is due, with a buffer under 261 octets, whatever else
  gap_short_number : length buffer < 261 → (wrong.number ≡ 9 → ⊥) → RuledOut (card_gap.Post κs) given wrong
  gap_short_number few other s p = other (numbered 9 card (gap_short card image clock (length buffer) few) p.answers)

  -- 9 and the run lost, or anything else of the card changed
  gap_short_card : length buffer < 261 → (wrong.card ≡ card → ⊥) → RuledOut (card_gap.Post κs) given wrong
  gap_short_card few other s p = other (leaves 9 card (gap_short card image clock (length buffer) few) p.answers)

  -- 9 or another number where 8 is due, with an image that is not sound
  gap_unsound_number : 261 ≤ length buffer → sound_image image ≡ false → (wrong.number ≡ 8 → ⊥) → RuledOut (card_gap.Post κs) given wrong
  gap_unsound_number room bad other s p = other (numbered 8 card (gap_unsound card image clock (length buffer) room bad) p.answers)

  -- 8 and the run lost, or anything else of the card changed
  gap_unsound_card : 261 ≤ length buffer → sound_image image ≡ false → (wrong.card ≡ card → ⊥) → RuledOut (card_gap.Post κs) given wrong
  gap_unsound_card room bad other s p = other (leaves 8 card (gap_unsound card image clock (length buffer) room bad) p.answers)

  -- a refusal that gives an order
  gap_refused_order : (wrong.number ≡ 0 → ⊥) → (wrong.order ≡ NoOrder → ⊥) → RuledOut (card_gap.Post κs) given wrong
  unfolding gone_by
  gap_refused_order refused_by other s p = other (ap (λ (g : Gone). g.order) p.answers ∙ (plain p.answers refused_by).order_none)

  -- a refusal that gives a length
  gap_refused_length : (wrong.number ≡ 0 → ⊥) → (wrong.length ≡ 0 → ⊥) → RuledOut (card_gap.Post κs) given wrong
  unfolding gone_by
  gap_refused_length refused_by other s p =
      other (ap (λ (g : Gone). g.length) p.answers ∙ ap (λ (l : List ℕ). length l) (plain p.answers refused_by).reply_none)

  -- a refusal that changes the link, the last FCB too
  gap_refused_link : (wrong.number ≡ 0 → ⊥) → (wrong.card.link ≡ card.link → ⊥) → RuledOut (card_gap.Post κs) given wrong
  unfolding gone_by
  gap_refused_link refused_by other s p = other (ap (λ (g : Gone). g.card.link) p.answers ∙ (plain p.answers refused_by).link_kept)

  -- a refusal that changes the buffer
  gap_refused_buffer : (left : List ℕ) → (wrong.number ≡ 0 → ⊥) → (left ≡ buffer → ⊥)
      → RuledOutWith (λ s. s.1.1.1.0.now) (card_gap.Post κs) given wrong left
  gap_refused_buffer left refused_by other s e p =
      other (sym e ∙ p.left_so ∙ ap (λ (l : List ℕ). laid_in buffer l) (plain p.answers refused_by).reply_none)

  -- a run that is kept after an answer, or after a refusal by 2 to 7 or 10
  gap_run_kept : (wrong.number ≡ 1 → ⊥) → (wrong.number ≡ 8 → ⊥) → (wrong.number ≡ 9 → ⊥) → (wrong.card.collector ≡ emptied → ⊥)
      → RuledOut (card_gap.Post κs) given wrong
  unfolding gone_by
  gap_run_kept a b c other s p =
      let number = ap (λ (g : Gone). g.number) p.answers in
      other (ap (λ (g : Gone). g.card.collector) p.answers
      ∙ else_emptied card image clock (length buffer) (gap_end card image clock (length buffer)) (λ e. a (number ∙ e)) (λ e. b (number ∙ e))
      (λ e. c (number ∙ e)))

  -- a sound image and room for a reply
  module _ (room : 261 ≤ length buffer) (whole : sound_image image ≡ true) where
    -- what is said is that of what the run is found to be
    by_found : {x : Result Asked NoAnswer} → found ≡ x → said ≡ after_examining card x image clock
    by_found f = gap_examined card image clock (length buffer) room whole ∙ rw f

    by_other_link : found ≡ Err OtherLink → said ≡ refusal 5 (left_with card.link card)
    unfolding after_examining
    by_other_link = by_found

    by_not_offered : found ≡ Err NotOffered → said ≡ refusal 6 (left_with card.link card)
    unfolding after_examining
    by_not_offered = by_found

    -- a run that is no sound frame
    by_fault : (fault : Fault) → verdict_of sapr card.collector ≡ refused fault → said ≡ refusal (fault_number fault) (damaged_by fault card)
    unfolding examined after_examining
    by_fault fault v = by_found {x = Err (Faulty fault)} (rw v)

    -- an empty run among them
    by_empty : card.collector.length ≡ 0 → said ≡ refusal 1 card
    unfolding damaged_by
    by_empty none = by_fault Empty (empty_verdict sapr card.collector none)

    -- another number than 1 for an empty run
    gap_empty_number : card.collector.length ≡ 0 → (wrong.number ≡ 1 → ⊥) → RuledOut (card_gap.Post κs) given wrong
    gap_empty_number none other s p = other (numbered 1 card (by_empty none) p.answers)

    -- an empty run counted as damaged, or anything else of the card changed by it
    gap_empty_card : card.collector.length ≡ 0 → (wrong.card ≡ card → ⊥) → RuledOut (card_gap.Post κs) given wrong
    gap_empty_card none other s p = other (leaves 1 card (by_empty none) p.answers)

    -- a run that is no sound frame answered, or refused by another number than that of its fault
    gap_damaged_answered : (fault : Fault) → verdict_of sapr card.collector ≡ refused fault → (wrong.number ≡ fault_number fault → ⊥)
        → RuledOut (card_gap.Post κs) given wrong
    gap_damaged_answered fault v other s p = other (numbered (fault_number fault) (damaged_by fault card) (by_fault fault v) p.answers)

    -- a marked run answered, or refused by another number than 10
    gap_marked_number : 0 < card.collector.length → card.collector.length ≤ 261 → length card.collector.octets ≡ 261 → card.collector.marked ≡ true
        → (wrong.number ≡ 10 → ⊥) → RuledOut (card_gap.Post κs) given wrong
    gap_marked_number some h octets marked = gap_damaged_answered Parity (marked_verdict sapr card.collector some h octets marked)

    -- a damaged run that is not counted, though the count is not at its end
    gap_damaged_uncounted : (fault : Fault) → verdict_of sapr card.collector ≡ refused fault → damages fault ≡ true → card.damaged < 65535
        → wrong.card.damaged ≡ card.damaged
        → RuledOut (card_gap.Post κs) given wrong
    unfolding damaged_by one_more
    gap_damaged_uncounted fault v damaged end same s p =
        let after = ap (λ (c : Card). c.damaged) (leaves (fault_number fault) (damaged_by fault card) (by_fault fault v) p.answers) in
        omega (arith, rw (damaged, lt-ltb card.damaged 65535 end) at after)

    -- a frame of another link address answered, or refused by another number than 5
    gap_other_link_number : found ≡ Err OtherLink → (wrong.number ≡ 5 → ⊥) → RuledOut (card_gap.Post κs) given wrong
    gap_other_link_number f other s p = other (numbered 5 _ (by_other_link f) p.answers)

    -- a frame with a control field that is not offered answered, or refused by another number than 6
    gap_not_offered_number : found ≡ Err NotOffered → (wrong.number ≡ 6 → ⊥) → RuledOut (card_gap.Post κs) given wrong
    gap_not_offered_number f other s p = other (numbered 6 _ (by_not_offered f) p.answers)

    -- a frame of another link address counted as damaged
    gap_other_link_counted : found ≡ Err OtherLink → (wrong.card.damaged ≡ card.damaged → ⊥) → RuledOut (card_gap.Post κs) given wrong
    unfolding left_with
    gap_other_link_counted f other s p = other (ap (λ (c : Card). c.damaged) (leaves 5 _ (by_other_link f) p.answers))

    -- a frame with a control field that is not offered counted as damaged
    gap_not_offered_counted : found ≡ Err NotOffered → (wrong.card.damaged ≡ card.damaged → ⊥) → RuledOut (card_gap.Post κs) given wrong
    unfolding left_with
    gap_not_offered_counted f other s p = other (ap (λ (c : Card). c.damaged) (leaves 6 _ (by_not_offered f) p.answers))

    -- a frame that is heard
    module _ (asked : Asked) (heard : found ≡ Ok asked) where
      -- what the link answers
      abbrev meant : Answered
      meant = answered card.link asked.service asked.user image clock

      by_heard : said ≡ after_answer card meant
      unfolding after_examining
      by_heard = by_found heard

      -- another number than 7 for a frame that the link refuses
      gap_unreset_number : meant.sends ≡ NotReset → (wrong.number ≡ 7 → ⊥) → RuledOut (card_gap.Post κs) given wrong
      gap_unreset_number none other s p = other (numbered 7 _ (by_heard ∙ answer_unreset card meant none) p.answers)

      -- a frame that is answered
      module _ (some : meant.sends ≡ NotReset → ⊥) where
        -- the octets of the reply
        abbrev reply : List ℕ
        reply = reply_octets (reply_sent meant.sends meant.link)

        -- what is said is the answer
        by_answer : said ≡ replied_by card meant (reply_sent meant.sends meant.link)
        by_answer = by_heard ∙ answer_replied card meant some

        -- a refusal of a frame that is to be answered
        gap_answered_number : (wrong.number ≡ 0 → ⊥) → RuledOut (card_gap.Post κs) given wrong
        unfolding gone_by replied_by
        gap_answered_number other s p = other (ap (λ (g : Gone). g.number) (p.answers ∙ ap gone_by by_answer))

        -- the link of the answer not taken over
        gap_answered_link : (wrong.card.link ≡ meant.link → ⊥) → RuledOut (card_gap.Post κs) given wrong
        unfolding gone_by replied_by left_with
        gap_answered_link other s p = other (ap (λ (g : Gone). g.card.link) (p.answers ∙ ap gone_by by_answer))

        -- another length than that of the reply, its low octet too
        gap_answered_length : (wrong.length ≡ length reply → ⊥) → RuledOut (card_gap.Post κs) given wrong
        unfolding gone_by replied_by
        gap_answered_length other s p = other (ap (λ (g : Gone). g.length) (p.answers ∙ ap gone_by by_answer))

        -- another order than that of the message carried out
        gap_answered_order : (wrong.order ≡ meant.order → ⊥) → RuledOut (card_gap.Post κs) given wrong
        unfolding gone_by replied_by
        gap_answered_order other s p = other (ap (λ (g : Gone). g.order) (p.answers ∙ ap gone_by by_answer))

        -- an answered frame counted as damaged
        gap_answered_counted : (wrong.card.damaged ≡ card.damaged → ⊥) → RuledOut (card_gap.Post κs) given wrong
        unfolding gone_by replied_by left_with
        gap_answered_counted other s p = other (ap (λ (g : Gone). g.card.damaged) (p.answers ∙ ap gone_by by_answer))

        -- the buffer as it stands after the reply
        stands : {left : List ℕ} → left ≡ laid_in buffer said.reply → left ≡ laid_in buffer reply
        unfolding replied_by
        stands e = e ∙ ap (λ (o : Outcome). laid_in buffer o.reply) by_answer

        -- the reply not in the first octets of the buffer
        gap_answered_reply : (left : List ℕ) → (take (length reply) left ≡ reply → ⊥)
            → RuledOutWith (λ s. s.1.1.1.0.now) (card_gap.Post κs) given wrong left
        gap_answered_reply left other s e p =
            other (ap (λ (l : List ℕ). take (length reply) l) (sym e ∙ stands p.left_so) ∙ take-append_seam reply (drop (length reply) buffer))

        -- an octet behind the reply changed
        gap_answered_behind : (left : List ℕ) (i : ℕ) → (get_or left (length reply + i) 0 ≡ get_or buffer (length reply + i) 0 → ⊥)
            → RuledOutWith (λ s. s.1.1.1.0.now) (card_gap.Post κs) given wrong left
        gap_answered_behind left i other s e p =
            other (ap (λ (l : List ℕ). get_or l (length reply + i) 0) (sym e ∙ stands p.left_so)
            ∙ get_or-append-add reply (drop (length reply) buffer) i 0 ∙ get_or-drop (length reply) buffer i 0)
