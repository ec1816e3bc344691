-- What #104 asks holds of our card: a wrong parity bit spoils its run with 10 and nothing else does; the ten-bit profile stays; one, two or three altered bits are
-- noise. From the empty collector on a run is judged by its octets and by whether it is marked; and where it is not marked, it is collected as its octets are.
-- Assumes nothing.
use Prim.Native.Nat.{ℕ, suc, ◌%◌, ◌≤◌, ◌<◌}
use mathlib.Core.Bool.{Bool, true, false}
use mathlib.Core.List.{List, [], ◌∷◌, map}
use mathlib.Core.Logic.{◌⊎◌, inl, inr}
use mathlib.Core.Path.{◌≡◌, refl, sym, ap, ◌∙◌}
use native.Mathlib.Nat.{div-div-eq-div-mul}
use native.Mathlib.Omega.{arith}
use borrow.Author.Tests.{eq-eqb, eqb-true}
use lib.Dec.{ltb}
use lib.ListN.{length, length-map, get_or-map}
use Rattle.octets.specs.Choice.{when◌then◌else◌}
use Rattle.octets.specs.First.{When, first_of◌else◌}
use Rattle.octets.specs.Sum.{octet_sum}
use Rattle.octets.proofs.Choice.{either, not_both, refuted}
use Rattle.octets.proofs.Conditions.{holds_at, holds_none, holds_more}
use Rattle.history.specs.History.{Symbol, Gap, Call, AllFit, Each}
use Rattle.history.proofs.Invariant.{Invariant, always, at_gaps}
use Rattle.profile.specs.declared.Character.{Character}
use Rattle.profile.specs.declared.Profile.TheVariants.{Ten, Eleven}
use Rattle.profile.specs.Character.{low_bits, bit_of, bits_of, even_parity}
use Rattle.profile.specs.Profile.{octet_in, octets_in, are_right, run_sent, judge_in}
use Rattle.profile.proofs.Altered.{few_some, few_altered}
use Rattle.frame.specs.Family.{sapr}
use Rattle.frame.proofs.RoundTrip.{sapr_proper}
use Rattle.frame.specs.declared.Fault.TheVariants.{Parity}
use Rattle.frame.specs.Frame.{refused}
use Rattle.profile.proofs.Judging.{run_sent_right, marked_judged}
use Rattle.collector.specs.declared.Collector.{Collector}
use Rattle.collector.specs.Collecting.{emptied, overfull, collected_in}
use Rattle.collector.specs.Calls.{collected_all_in, collected_all}
use Rattle.collector.specs.Damage.{damages}
use Rattle.collector.proofs.Collecting.{right_all, collected_long}
use Rattle.card.specs.declared.Card.{Card}
use Rattle.card.specs.State.{card_at_power_on, collecting, with_character, left_with, damaged_by}
use Rattle.card.specs.Gap.{Outcome, refusal, replied_by, after_examining}
use Rattle.card.proofs.Gap.{End, short, unsound, faulty, other_link, not_offered, not_reset, replied, gap_end}
use Rattle.tender.specs.Card.{Loan, History, end_of, received, outcome_at, our_gap, ours, our_card}
use Rattle.tender.specs.Condition1.{refusals}
use Rattle.tender.specs.Condition3.{Fit, ends_fresh}
use Rattle.tender.specs.ElevenBits.{nine_ones, character_at, WrongAt, NoneWrong, Spoilt, ElevenBits, TenStays, FewBitsNoise}
use Rattle.tender.proofs.Gaps.{fed_rested, rested_gap}
use Rattle.tender.proofs.Condition1.{condition_1}
use Rattle.tender.proofs.Condition3.{left_none}
use Rattle.tender.proofs.Repeats.{fresh_empty}

-- the ones by the papers' numbers of the bits are those of the definition
parity_one : (t : Bool) → (when t then 1 else 0) ≡ bit_of t
parity_one true = refl
parity_one false = refl

nine_ones_law : (x : Character) → nine_ones x ≡ octet_sum (bits_of x)
unfolding bits_of low_bits octet_sum
nine_ones_law x = rw (parity_one x.parity) (simp div-div-eq-div-mul (omega arith))

odd_wrong : (x : Character) → nine_ones x % 2 ≡ 1 → even_parity x ≡ true → ⊥
unfolding even_parity
odd_wrong x odd even = not_both_rests (octet_sum (bits_of x)) (rw (nine_ones_law x) at odd) (eqb-true (octet_sum (bits_of x) % 2) 0 even)
  where
    not_both_rests : (n : ℕ) → n % 2 ≡ 1 → n % 2 ≡ 0 → ⊥
    not_both_rests n one none = omega arith

not_odd : (x : Character) → (nine_ones x % 2 ≡ 1 → ⊥) → even_parity x ≡ true
unfolding even_parity
not_odd x none = eq-eqb (octet_sum (bits_of x) % 2) 0 (by_rest (octet_sum (bits_of x)) (rw (nine_ones_law x) at none))
  where
    by_rest : (n : ℕ) → (n % 2 ≡ 1 → ⊥) → n % 2 ≡ 0
    by_rest n none = omega arith

-- of a run
zero_even : even_parity (record { octet = 0; parity = false }) ≡ true
unfolding even_parity bits_of low_bits octet_sum
zero_even = refl

wrong_marked : (run : List Character) (place : ℕ) → WrongAt run place → are_right Eleven run ≡ false
wrong_marked run place wrong = sym (refuted (are_right Eleven run) (λ right. odd_wrong (character_at run place) wrong.odd (even_at right)))
  where
    even_at : are_right Eleven run ≡ true → even_parity (character_at run place) ≡ true
    even_at right =
        sym (get_or-map even_parity run place (record { octet = 0; parity = false })) ∙ rw zero_even (holds_at (map even_parity run) right place)

pub sent_none : (octets : List ℕ) → NoneWrong (run_sent Eleven octets)
sent_none octets place wrong = not_both (wrong_marked (run_sent Eleven octets) place wrong) (run_sent_right Eleven octets)

none_marked : (run : List Character) → NoneWrong run → are_right Eleven run ≡ true
none_marked [] none = holds_none
none_marked (x ∷ run) none =
    holds_more (map even_parity run) (not_odd x (λ odd. none 0 (record { within = omega arith; odd = odd })))
    (none_marked run (λ place wrong. none (suc place) (record { within = omega (arith, wrong.within); odd = wrong.odd })))

-- what a run with a wrong parity bit gets, from a card with an empty collector
module _ {image clock : List ℕ} (card : Card) (loan : Loan) (rest : card.collector ≡ emptied) (f : Fit image clock loan) where
  spoilt : (run : List Character) (place : ℕ) → length run ≤ 261 → WrongAt run place → Spoilt card loan (received (ours Eleven) card run loan)
  unfolding after_examining refusal damaged_by
  spoilt run place fits wrong =
      rw (rested_gap f Eleven card run rest (refused Parity) judged)
      (record { number = refl; no_reply = refl; no_order = refl; no_time_law = refl; buffer_kept = refl; emptied_by = refl; link_kept = refl; counted = refl })
    where
      long : length (octets_in Eleven run) ≡ length run
      long = length-map run (octet_in Eleven)

      judged : judge_in Eleven sapr run ≡ refused Parity
      judged = rw (wrong_marked run place wrong) (marked_judged sapr (octets_in Eleven run) (omega (arith, long, wrong.within)) (omega (arith, long, fits)))

  -- and one without, or one that is too long: as its octets are
  collected_same : (run : List Character) → NoneWrong run ⊎ (261 < length run) → collected_all_in Eleven emptied run ≡ collected_all emptied (octets_in Eleven run)
  collected_same run (inl none) = right_all Eleven run emptied (none_marked run none)
  collected_same run (inr long) =
      collected_long Eleven run long ∙ sym (collected_long Ten (octets_in Eleven run) (rw (length-map run (octet_in Eleven)) long))

  as_octets : (run : List Character) → NoneWrong run ⊎ (261 < length run) → received (ours Eleven) card run loan ≡ received (ours Ten) card (octets_in Eleven run) loan
  as_octets run which =
      ap (λ (c : Card). our_gap c loan)
      (fed_rested Eleven run card rest
      ∙ ap (λ (c : Collector). collecting c card) (collected_same run which)
      ∙ sym (fed_rested Ten (octets_in Eleven run) card rest))

pub eleven_bits : ElevenBits (our_card Eleven)
unfolding card_at_power_on
eleven_bits =
    record {
      spoils = λ image clock h run loan place fit ends f fits wrong.
          spoilt (end_of (our_card Eleven) h) loan (empty_at image clock h fit ends) f run place fits wrong;
      else_as_octets = λ image clock h run loan fit ends f which. as_octets (end_of (our_card Eleven) h) loan (empty_at image clock h fit ends) f run which;
    }
  where
    empty_at : (image clock : List ℕ) (h : History Eleven) → AllFit (Fit image clock) h → ends_fresh true h ≡ true → (end_of (our_card Eleven) h).collector ≡ emptied
    empty_at image clock h fit ends = fresh_empty Eleven image clock true card_at_power_on h fit (left_none Eleven) refl ends

-- with ten bits no mark ever comes
end_unmarked : (card : Card) (loan : Loan) → card.collector.marked ≡ false → {o : Outcome} → End card loan.image loan.clock (length loan.buffer) o
    → o.card.collector.marked ≡ false
unfolding emptied refusal replied_by left_with damaged_by
end_unmarked card loan unmarked (short h) = unmarked
end_unmarked card loan unmarked (unsound h s) = unmarked
end_unmarked card loan unmarked (faulty h s fault e) = either (λ (c : Card). c.collector.marked ≡ false) (damages fault) (λ _. refl) (λ _. unmarked)
end_unmarked card loan unmarked (other_link h s e) = refl
end_unmarked card loan unmarked (not_offered h s e) = refl
end_unmarked card loan unmarked (not_reset h s service e n) = refl
end_unmarked card loan unmarked (replied h s service e n) = refl

unmarked_always : Invariant (ours Ten) (λ (loan : Loan). Unit {0}) (λ (card : Card). card.collector.marked ≡ false)
unfolding with_character collected_in overfull
unmarked_always =
    record {
      symbols = λ card x unmarked. either (λ (c : Collector). c.marked ≡ false) (ltb card.collector.length 261) (λ _. unmarked) (λ _. refl);
      gaps = λ card loan any unmarked. end_unmarked card loan unmarked (gap_end card loan.image loan.clock (length loan.buffer));
      calls = λ card call unmarked. absurd call;
    }

-- and without a mark there is no 10: no other rule of condition 1's list gives it
never_ten : (rules : List (When ℕ)) → Each (λ (rule : When ℕ). rule.test ≡ true → rule.gives ≡ 10 → ⊥) rules → (first_of rules else 0) ≡ 10 → ⊥
never_ten [] each = λ e. omega (arith, e)
never_ten (rule ∷ rules) each = either (λ (n : ℕ). n ≡ 10 → ⊥) rule.test each.0 (λ t. never_ten rules each.1)

not_ten : (card : Card) (loan : Loan) → card.collector.marked ≡ false → (outcome_at card loan).number ≡ 10 → ⊥
not_ten card loan unmarked ten = never_ten (refusals card loan) (
  (λ t e. omega (arith, e)),
  (
    (λ t e. omega (arith, e)),
    (
      (λ t e. omega (arith, e)),
      (
        (λ t e. omega (arith, e)),
        (
          (λ t e. not_both unmarked t),
          ((λ t e. omega (arith, e)), ((λ t e. omega (arith, e)), ((λ t e. omega (arith, e)), ((λ t e. omega (arith, e)), ((λ t e. omega (arith, e)), tt))))),
        ),
      ),
    ),
  ),
)
    (sym ((condition_1 Ten).numbers card loan) ∙ ten)

any_fit : (h : History Ten) → AllFit (λ (loan : Loan). Unit {0}) h
any_fit [] = tt
any_fit (Symbol x ∷ h) = any_fit h
any_fit (Gap loan ∷ h) = (tt, any_fit h)
any_fit (Call none ∷ h) = absurd none

pub ten_stays : TenStays (our_card Ten)
unfolding card_at_power_on emptied
ten_stays h =
    at_gaps (ours Ten) (λ card loan known. not_ten card loan known.1) card_at_power_on h (always (ours Ten) unmarked_always card_at_power_on h (any_fit h) refl).0

-- one, two or three altered bits
pub few_bits_noise : FewBitsNoise
few_bits_noise run run' f octets e few =
    record { some = few_some run run' few; not_sound = λ f' e'. few_altered sapr sapr_proper run octets f f' e run' few e' }
