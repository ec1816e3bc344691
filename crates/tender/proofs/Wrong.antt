-- Wrong cards, each with the condition that shuts it out.
-- Each is given a card or a short history on which what it answers or leaves computes to something else. Assumes nothing.
use Prim.Native.Nat.{ℕ}
use mathlib.Core.Bool.{true, false, false≢true}
use mathlib.Core.List.{List, [], ◌∷◌}
use mathlib.Core.Logic.{inl}
use mathlib.Core.Path.{◌≡◌, refl, sym, ap, ◌∙◌}
use native.Mathlib.Omega.{arith}
use lib.ListN.{get_or, set}
use Rattle.octets.specs.Choice.{when◌then◌else◌}
use Rattle.octets.specs.Keeping.{kept_of}
use Rattle.frame.specs.declared.Fault.TheVariants.{Malformed}
use Rattle.frame.specs.declared.Service.TheVariants.{Collection}
use Rattle.frame.specs.Controls.{collects}
use Rattle.history.specs.History.{Stepped, answers, after, fed, closed_run, Each}
use Rattle.history.specs.Noise.{Noised, noise, end, inserted, remaining}
use Rattle.profile.specs.declared.Profile.{Profile}
use Rattle.profile.specs.declared.Profile.TheVariants.{Ten, Eleven}
use Rattle.profile.specs.declared.Character.{Character}
use Rattle.profile.specs.Profile.{sent_in, run_sent}
use Rattle.collector.specs.declared.Collector.{Collector}
use Rattle.collector.specs.Damage.{one_more}
use Rattle.link.specs.declared.Link.{Link}
use Rattle.card.specs.declared.Card.{Card}
use Rattle.card.specs.State.{card_at_power_on, collecting}
use Rattle.tender.specs.Card.{Loan, Seen, History, answers_of, end_of, Heard, received, ours, our_card}
use Rattle.tender.specs.Condition1.{is_damage, Condition1, Counted}
use Rattle.tender.specs.Condition2.{Condition2, CountBit}
use Rattle.tender.specs.Condition3.{Fit, Noise, Mute, Undisturbed, Condition3, Again, Repeats}
use Rattle.tender.specs.ElevenBits.{WrongAt, ElevenBits, TenStays}
use Rattle.tender.specs.Cases.{smallest, lent, reset, collect, password}
use Rattle.tender.specs.Wrong.{WrongCard, refuser, acknowledger, idler, repeater, polite_repeater, stone, resetter, opener, closer}
use Rattle.tender.specs.Wrong.{inventor, clinger, stumbler, hoarder, cleaner, setter, babbler, mistaker, blind, marking, staining, forgiver, hasty, suspicious}
use Rattle.tender.proofs.Smallest.{fit}
use Rattle.tender.proofs.Examples.{first_number, order_number, first_order, last_count, session_number, session_of, opened_behind, changed_card, malformed_card}
use Rattle.tender.proofs.Examples.{closed_runs, asking, ones, quiet, opened, one_octet_in, changed, after_first}
use Rattle.tender.proofs.Sent.{sent, Takes, gap_takes, ours_takes, sent_answers, sent_end}
use Rattle.tender.proofs.ElevenBits.{sent_none}
use Rattle.tender.proofs.Worked.{everything}
use Rattle.tender.proofs.Noisy.{refused_noise, in_both, counting, quiet_fit, ready_answers}

-- two lists of octets that are the same begin the same
first_octet : {octets octets' : List ℕ} → octets ≡ octets' → get_or octets 0 9 ≡ get_or octets' 0 9
first_octet e = ap (λ (octets : List ℕ). get_or octets 0 9) e

-- by condition 2: on a short history another answer, or another card at the end. What a card gives, and what ours gives, is worked out in octets
module _ (c : WrongCard) {p : Profile} (t : Takes c p) (met : Condition2 (c p)) (h : History Ten) where
  other_answers : (f : List Seen → ℕ) (x y : ℕ) → f (answers_of (c Ten) h) ≡ x → f (answers_of (our_card Ten) h) ≡ y → x ≡ y
  other_answers f x y a b = sym a ∙ ap f (sym (sent_answers c p t h) ∙ met.as_defined (sent p h) ∙ sent_answers our_card p (ours_takes p) h) ∙ b

  other_end : (f : Card → ℕ) (x y : ℕ) → f (end_of (c Ten) h) ≡ x → f (end_of (our_card Ten) h) ≡ y → x ≡ y
  other_end f x y a b = sym a ∙ ap f (sym (sent_end c p t h) ∙ met.left_as_defined (sent p h) ∙ sent_end our_card p (ours_takes p) h) ∙ b

pub always_refuses : (p : Profile) → Condition2 (refuser p) → ⊥
unfolding everything
always_refuses p c = omega (arith, other_answers refuser (gap_takes _ p) c (closed_runs (reset ∷ [])) first_number 3 0 refl refl)

pub always_acknowledges : (p : Profile) → Condition2 (acknowledger p) → ⊥
unfolding everything
always_acknowledges p c = omega (arith, other_answers acknowledger (gap_takes _ p) c (closed_runs (changed ∷ [])) first_number 0 4 refl refl)

pub does_nothing : (p : Profile) → Condition2 (idler p) → ⊥
unfolding everything
does_nothing p c = omega (arith, other_answers idler (gap_takes _ p) c (closed_runs (reset ∷ [])) first_number 1 0 refl refl)

-- the ACK again where the password's mirror is due
pub only_repeats : (p : Profile) → Condition2 (repeater p) → ⊥
unfolding everything
only_repeats p c = omega (arith, other_answers repeater (gap_takes _ p) c opened last_count 6 19 refl refl)

pub sets_the_clock : (p : Profile) → Condition2 (setter p) → ⊥
unfolding everything
sets_the_clock p c = omega (arith, other_answers setter (gap_takes _ p) c (closed_runs (reset ∷ [])) first_order 1 0 refl refl)

pub takes_the_link : (p : Profile) → Condition2 (mistaker p) → ⊥
unfolding everything
takes_the_link p c = omega (arith, other_end mistaker (gap_takes _ p) c opened_behind session_of 0 1 refl refl)

pub keeps_the_session : (p : Profile) → Condition2 (clinger p) → ⊥
unfolding everything
keeps_the_session p c = omega (arith, other_end clinger (gap_takes _ p) c (closed_runs (reset ∷ password ∷ reset ∷ [])) session_of 1 0 refl refl)

-- by condition 2's power-on
pub powers_on_reset : (p : Profile) → Condition2 (resetter p) → ⊥
unfolding everything
powers_on_reset p c = false≢true (sym (ap (λ (card : Card). card.link.reset) c.powers_on))

pub powers_on_in_session : (p : Profile) → Condition2 (opener p) → ⊥
unfolding everything
powers_on_in_session p c = omega (arith, ap session_of c.powers_on)

-- by condition 1: a refusal that changes the link, or the buffer
pub advances_the_bit : (p : Profile) → Condition1 (stumbler p) → ⊥
unfolding everything
advances_the_bit p c =
    let kept = (c.refused changed_card lent (λ e. omega (arith, e, refused_by))).link_kept in
    omega (arith, sym after_it ∙ ap (λ (link : Link). link.fcb) kept ∙ before_it)
  where
    refused_by : ((stumbler p).calls.gap changed_card lent).answer.number ≡ 4
    refused_by = refl

    after_it : ((stumbler p).calls.gap changed_card lent).state.link.fcb ≡ 1
    after_it = refl

    before_it : changed_card.link.fcb ≡ 0
    before_it = refl

pub clears_the_buffer : (p : Profile) → Condition1 (cleaner p) → ⊥
unfolding everything
clears_the_buffer p c =
    omega (arith, sym first_octet_law ∙ first_octet (c.refused card_at_power_on ones (λ e. omega (arith, e, refused_by))).buffer_kept)
  where
    refused_by : ((cleaner p).calls.gap card_at_power_on ones).answer.number ≡ 1
    refused_by = refl

    first_octet_law : get_or ((cleaner p).calls.gap card_at_power_on ones).answer.buffer 0 9 ≡ 0
    first_octet_law = refl

-- a refusal that leaves other time octets, or the run
pub leaves_time_octets : (p : Profile) → Condition1 (babbler p) → ⊥
unfolding everything
leaves_time_octets p c = omega (arith, first_octet (c.refused card_at_power_on lent (λ e. omega (arith, e, refused_by))).no_time_law)
  where
    refused_by : ((babbler p).calls.gap card_at_power_on lent).answer.number ≡ 1
    refused_by = refl

pub keeps_the_run : (p : Profile) → Condition1 (hoarder p) → ⊥
unfolding everything
keeps_the_run p c =
    let gone = (c.refused malformed_card lent (λ e. omega (arith, e, refused_by))).run_gone refl in
    omega (arith, sym three_octets ∙ ap (λ (collector : Collector). collector.length) gone)
  where
    refused_by : ((hoarder p).calls.gap malformed_card lent).answer.number ≡ 3
    refused_by = refl

    three_octets : ((hoarder p).calls.gap malformed_card lent).state.collector.length ≡ 3
    three_octets = refl

-- by condition 1's characters
pub character_closes_session : (p : Profile) → Condition1 (closer p) → ⊥
unfolding everything
character_closes_session p c = omega (arith, ap (λ (link : Link). session_number link.session) (c.character_link_kept (opener p).power_on (sent_in p 0)))

-- by the count's tie to 2, 3, 4 and 10
pub invents_a_count : (p : Profile) → Counted (inventor p) → ⊥
unfolding everything
invents_a_count p c = omega (arith, sym its_count ∙ c.counts card_at_power_on lent ∙ right_count)
  where
    its_count : ((inventor p).calls.gap card_at_power_on lent).state.damaged ≡ 7
    its_count = refl

    right_count : (when is_damage ((inventor p).calls.gap card_at_power_on lent).answer.number then one_more card_at_power_on.damaged else card_at_power_on.damaged) ≡ 0
    right_count = refl

-- by condition 2's count bit: with a new FCB it only repeats
pub ignores_the_bit : (p : Profile) → CountBit (repeater p) → ⊥
unfolding everything
ignores_the_bit p c =
    let last = c (fed (ours Ten) after_first asking) lent (Collection 1) (kept_of []) 1 heard collects answered in
    omega (arith, sym bit_kept ∙ last)
  where
    heard : Heard (fed (ours Ten) after_first asking) lent (Collection 1) (kept_of [])
    heard = refl

    answered : ((repeater p).calls.gap (fed (ours Ten) after_first asking) lent).answer.number ≡ 0
    answered = refl

    bit_kept : ((repeater p).calls.gap (fed (ours Ten) after_first asking) lent).state.link.fcb ≡ 0
    bit_kept = refl

-- by condition 3, with one run put in behind a reset
one_octet : (p : Profile) → Noise p (run_sent p (0 ∷ []))
unfolding everything
one_octet p = refused_noise p (0 ∷ []) Malformed refl refl

abbrev put_in : (p : Profile) → Noised (Fit smallest lent.clock) (Noise p) true (sent p opened) (sent p one_octet_in)
put_in p = in_both p reset (noise (run_sent p (0 ∷ [])) lent (one_octet p) fit (in_both p password (in_both p collect end)))

module _ (c : WrongCard) {p : Profile} (t : Takes c p) (met : Condition3 (c p)) where
  abbrev told : Undisturbed (c p) (put_in p)
  told = met smallest lent.clock (sent p opened) (sent p one_octet_in) (put_in p)

  -- another answer to the rest than the definition gives without it
  other_remaining : (f : List Seen → ℕ) (x y : ℕ) → f (remaining (put_in p) (answers_of (c Ten) one_octet_in)) ≡ x → f (answers_of (our_card Ten) opened) ≡ y → x ≡ y
  other_remaining f x y a b =
      sym a
      ∙ ap (λ (os : List Seen). f (remaining (put_in p) os)) (sym (sent_answers c p t one_octet_in))
      ∙ ap f (told.same ∙ sent_answers our_card p (ours_takes p) opened)
      ∙ b

  -- what the run that is put in gets
  told_mute : Each Mute (inserted (put_in p) (answers_of (c Ten) one_octet_in))
  told_mute = rw (← sent_answers c p t one_octet_in) told.unanswered

-- noise is answered, or gets time octets
pub answers_noise : (p : Profile) → Condition3 (repeater p) → ⊥
unfolding everything
answers_noise p c = (told_mute repeater (gap_takes _ p) c).0.not_0 refl

pub time_octets_at_noise : (p : Profile) → Condition3 (babbler p) → ⊥
unfolding answers after fed
time_octets_at_noise p c = omega (arith, first_octet (told_mute babbler (gap_takes _ p) c).0.no_time_law)

-- the rest gets the ACK again where the password's mirror is due, or nothing
pub only_repeats_politely : (p : Profile) → Condition3 (polite_repeater p) → ⊥
unfolding everything
only_repeats_politely p c = omega (arith, other_remaining polite_repeater (gap_takes _ p) c last_count 6 19 refl refl)

-- the stone takes no octet as any other
stone_takes : (p : Profile) → Takes stone p
stone_takes p = record { starts = refl; octets = λ card octet. refl; gaps = λ card loan. refl }

pub never_answers : (p : Profile) → Condition3 (stone p) → ⊥
unfolding everything
never_answers p c = omega (arith, other_remaining stone (stone_takes p) c first_number 3 0 refl refl)

-- by its last sentence: a collection that the definition answers by 09, received again
module _ (c : WrongCard) (p : Profile) where
  abbrev first : Stepped Card Seen
  first = received (c p).calls (end_of (c p) (sent p quiet)) (run_sent p asking) lent

  twice : Repeats (c p) → Again first (received (c p).calls first.state (run_sent p asking) lent) lent.buffer
  twice met = met smallest lent.clock (sent p quiet) (run_sent p asking) lent lent (quiet_fit p) refl (counting p) fit fit (ready_answers p)

pub never_repeats : (p : Profile) → Repeats (stone p) → ⊥
never_repeats p c = omega (arith, (twice stone p c).answered)

pub time_octets_again : (p : Profile) → Repeats (babbler p) → ⊥
time_octets_again p c = omega (arith, first_octet (twice babbler p c).no_time_law)

setter_orders : (p : Profile) (card : Card) (loan : Loan) → ((setter p).calls.gap card loan).answer.number ≡ 0 → order_number ((setter p).calls.gap card loan).answer.order ≡ 1
setter_orders p card loan e = rw e

pub sets_the_clock_again : (p : Profile) → Repeats (setter p) → ⊥
sets_the_clock_again p c = omega (arith, setter_orders p _ lent (twice setter p c).answered_again, ap order_number (twice setter p c).no_order)

-- with eleven bits: a reset whose control octet came with the wrong parity bit
abbrev stained : List Character
stained = set (run_sent Eleven reset) 1 (record { octet = 0x40; parity = false })

-- it is answered where 10 is due
pub overlooks_the_parity : Condition2 blind → ⊥
unfolding everything
overlooks_the_parity c = omega (arith, other_number c)
  where
    other_number : Condition2 blind → ◌≡◌ {A = ℕ} 0 10
    other_number c = ap first_number (c.as_defined (closed_run stained lent []))

-- the statements of #104 shut it out whatever the definition says of parity; and a card that calls a spoiled frame with right parity bits 10
stained_wrong : WrongAt stained 1
stained_wrong = record { within = omega arith; odd = refl }

pub overlooks_the_nine_bits : ElevenBits blind → ⊥
unfolding everything
overlooks_the_nine_bits c =
    let ten = (c.spoils smallest lent.clock [] stained lent 1 tt refl fit (omega arith) stained_wrong).number in
    let zero : ◌≡◌ {A = ℕ} 0 10 = ten in
    omega (arith, zero)

pub suspects_the_parity : ElevenBits (suspicious Eleven) → ⊥
unfolding everything
suspects_the_parity c =
    let same = c.else_as_octets smallest lent.clock [] (run_sent Eleven changed) lent tt refl fit (inl (sent_none changed)) in
    let ten : ◌≡◌ {A = ℕ} 10 4 = ap (λ (x : Stepped Card Seen). x.answer.number) same in
    omega (arith, ten)

pub suspects_ten_bits : TenStays (suspicious Ten) → ⊥
unfolding everything
suspects_ten_bits c = (c (closed_run changed lent [])).0 refl

-- a card that has it in its collector; and one that has a malformed run with a mark
abbrev stained_card : Card
stained_card = fed (ours Eleven) card_at_power_on stained

abbrev marked_malformed : Card
marked_malformed = collecting (marking true malformed_card.collector) malformed_card

-- the mark stays
pub keeps_the_mark : (p : Profile) → Condition1 (staining p) → ⊥
unfolding everything
keeps_the_mark p c =
    let gone = (c.refused stained_card lent (λ e. omega (arith, e, refused_by))).run_gone refl in
    false≢true (sym (ap (λ (collector : Collector). collector.marked) gone))
  where
    refused_by : ((staining p).calls.gap stained_card lent).answer.number ≡ 10
    refused_by = refl

-- 10 is not counted
pub forgives_the_parity : (p : Profile) → Counted (forgiver p) → ⊥
unfolding everything
forgives_the_parity p c = omega (arith, forgiven ∙ c.counts stained_card lent)
  where
    forgiven : 0 ≡ ((forgiver p).calls.gap stained_card lent).state.damaged
    forgiven = refl

-- 3 where 10 is due
pub looks_at_the_form_first : (p : Profile) → Condition1 (hasty p) → ⊥
unfolding everything
looks_at_the_form_first p c = omega (arith, said_three ∙ c.numbers marked_malformed lent)
  where
    said_three : 3 ≡ ((hasty p).calls.gap marked_malformed lent).answer.number
    said_three = refl
