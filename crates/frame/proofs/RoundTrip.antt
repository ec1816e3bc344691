-- A written frame is sound and says again what was written, and it has at most 261 octets; a sound run, judged and written again, is the
-- same run. By the parts of a run, over the family. Assumes nothing.
use Rattle.std.proofs.Common.{◌≡◌, ℕ, suc, ◌+◌, ◌-◌, ◌^◌, ◌<◌, ◌≤◌, true, List, [], ◌∷◌, ◌++◌, length, get_or, take, drop, sym, refl, ap, ◌∙◌, arith, length-append, length-drop, take-append-drop, length-take, take_all, drop-cons, take_at, drop_at, eq-eqb}
use Rattle.octets.specs.Numbers.{low_first, low_octets}
use Rattle.octets.specs.Sum.{checksum}
use Rattle.octets.specs.Keeping.{octets_of}
use Rattle.octets.proofs.Lists.{octets_at, part_at}
use Rattle.octets.proofs.Numbers.{Octets, octets_take, octets_drop, low_length, low_number, low_octets_law}
use Rattle.frame.specs.declared.Control.{Control}
use Rattle.frame.specs.declared.Control.TheVariants.{Ack, Nack, Data, NothingToGive, Status}
use Rattle.frame.specs.declared.Reply.{Reply}
use Rattle.frame.specs.Family.{Family, sapr}
use Rattle.frame.specs.Writing.{frame_as, reply_frame, reply_octets}
use Rattle.frame.specs.Frame.{Frame, sound, fixed, variable, covered, sum_right, said_fixed, said_variable, judge, body_of, start_with, written}
use Rattle.frame.proofs.Sealed.{sealed, sealed_length, sealed_body, sealed_sum, sealed_end, covered_length, unsealed}
use Rattle.frame.proofs.Frame.{Proper, FixedRun, VariableRun, fixed_test, variable_test, not_fixed, judge_fixed, judge_variable, Sound, as_fixed, as_variable, sound_facts, sum_facts}

-- the checksum of what was put together is right
summed : (start body : List ℕ) → sum_right (length start) (sealed start body (checksum body) 0x16) ≡ true
unfolding sum_right
summed start body = rw (sealed_body start body (checksum body) 0x16, sealed_sum start body (checksum body) 0x16) (eq-eqb (checksum body) (checksum body) refl)

-- what can be written: an address of the family's width, and so many user octets that L is in its range
abbrev pub Writable : Family → Frame → Type 0
Writable k (fixed c a) = a < 256 ^ k.width
Writable k (variable c a user) = (a < 256 ^ k.width) × (k.least ≤ suc (k.width + length user)) × (suc (k.width + length user) ≤ 255)

module _ (k : Family) (proper : Proper k) (c a : ℕ) (small : a < 256 ^ k.width) where
  module _ where
    fixed_long : length (written k (fixed c a)) ≡ k.width + 4
    unfolding written start_with body_of
    fixed_long = sealed_length (0x10 ∷ []) (c ∷ low_octets k.width a) _ 0x16 ∙ omega (arith, low_length k.width a)

    fixed_run : FixedRun k (written k (fixed c a))
    unfolding written start_with body_of
    fixed_run = record { long = fixed_long; first = refl; last = sealed_end (0x10 ∷ []) (c ∷ low_octets k.width a) _ 0x16 }

    fixed_back : judge k (written k (fixed c a)) ≡ sound (fixed c a)
    unfolding written start_with body_of said_fixed
    fixed_back =
        let all : take k.width (low_octets k.width a) ≡ low_octets k.width a = take_all k.width _ (omega (arith, low_length k.width a)) in
        judge_fixed k _ (λ e. omega (arith, fixed_long)) (omega (arith, fixed_long, proper.counts, proper.octet)) (fixed_test k _ fixed_run)
        ∙ rw (summed (0x10 ∷ []) (c ∷ low_octets k.width a), sealed_body (0x10 ∷ []) (c ∷ low_octets k.width a) _ 0x16, all, low_number k.width a small)

  module _ (user : List ℕ) (least : k.least ≤ suc (k.width + length user)) (most : suc (k.width + length user) ≤ 255) where
    abbrev body : List ℕ
    body = c ∷ (low_octets k.width a ++ user)

    body_long : length body ≡ suc (k.width + length user)
    body_long = omega (arith, length-append (low_octets k.width a) user, low_length k.width a)

    abbrev start : List ℕ
    start = 0x68 ∷ length body ∷ length body ∷ 0x68 ∷ []

    variable_long : length (written k (variable c a user)) ≡ length body + 6
    unfolding written start_with body_of
    variable_long = sealed_length start body _ 0x16 ∙ omega arith

    variable_run : VariableRun k (written k (variable c a user))
    unfolding written start_with body_of
    variable_run =
        record {
          long = variable_long;
          least = omega (arith, body_long);
          first = refl;
          again = refl;
          fourth = refl;
          last = sealed_end start body _ 0x16;
        }

    variable_back : judge k (written k (variable c a user)) ≡ sound (variable c a user)
    unfolding written start_with body_of said_variable
    variable_back =
        let r = variable_run in
        judge_variable k _ (λ e. omega (arith, variable_long)) (omega (arith, variable_long, body_long)) (not_fixed k _ r) (variable_test k _ r)
        ∙ rw (
          summed start body,
          sealed_body start body _ 0x16,
          take_at (low_octets k.width a) user k.width (low_length k.width a),
          drop_at (low_octets k.width a) user k.width (low_length k.width a),
          low_number k.width a small,
        )

module _ (k : Family) (proper : Proper k) where
  -- written, then judged
  pub round_trip : (f : Frame) → Writable k f → judge k (written k f) ≡ sound f
  round_trip (fixed c a) w = fixed_back k proper c a w
  round_trip (variable c a user) w = variable_back k proper c a w.0 user w.1 w.2

  pub at_most_261 : (f : Frame) → Writable k f → length (written k f) ≤ 261
  at_most_261 (fixed c a) w = omega (arith, fixed_long k proper c a w, proper.counts, proper.octet)
  at_most_261 (variable c a user) w = omega (arith, variable_long k proper c a w.0 user w.1 w.2, body_long k proper c a w.0 user w.1 w.2, w.2)

-- the octets that were read as control, address and user octets are written again
first_rest : (l : List ℕ) → 0 < length l → get_or l 0 0 ∷ drop 1 l ≡ l
first_rest l h = sym (drop-cons l 0 0 h)

first_octets : (width : ℕ) (run : List ℕ) → width ≤ length run → take width run ≡ octets_at width run 0
first_octets width run h = part_at width run 0 (omega arith)

module _ (k : Family) (proper : Proper k) (run : List ℕ) (octets : Octets run) where
  octets_of_law : (start : ℕ) → Octets (covered start run)
  octets_of_law start = octets_take (length run - (start + 2)) (drop start run) (octets_drop start run octets)

  address_again : (start n : ℕ) → length (covered start run) ≡ n → suc k.width ≤ n
      → low_octets k.width (low_first (take k.width (drop 1 (covered start run)))) ≡ take k.width (drop 1 (covered start run))
  address_again start n long h =
      let rest : length (drop 1 (covered start run)) ≡ n - 1 = length-drop 1 (covered start run) ∙ ap (λ (m : ℕ). m - 1) long in
      low_octets_law k.width _ (length-take k.width (drop 1 (covered start run)) ∙ omega arith)
      (octets_take k.width _ (octets_drop 1 (covered start run) (octets_of_law start)))

  -- a frame with the run's own start and body, where sum and end octet are right
  again : (f : Frame) (start : ℕ) → start + 2 ≤ length run → start_with k f ≡ take start run → body_of k f ≡ covered start run → sum_right start run ≡ true
      → get_or run (length run - 1) 0 ≡ 0x16 → written k f ≡ run
  unfolding written
  again f start room starts body sum end = rw (starts, body, sum_facts start run sum) (rw end at (unsealed start run room))

  fixed_again : FixedRun k run → sum_right 1 run ≡ true → written k (said_fixed k (covered 1 run)) ≡ run
  unfolding start_with body_of said_fixed
  fixed_again r s =
      let b = covered 1 run in
      let long : length b ≡ suc k.width = covered_length 1 run (omega (arith, r.long)) ∙ omega (arith, r.long) in
      let rest : length (drop 1 b) ≤ k.width = omega (arith, length-drop 1 b) in
      let starts : 0x10 ∷ [] ≡ take 1 run = sym (first_octets 1 run (omega (arith, r.long)) ∙ ap (λ (x : ℕ). x ∷ []) r.first) in
      again (said_fixed k b) 1 (omega (arith, r.long)) starts
      (rw (address_again 1 (suc k.width) long (omega arith), take_all k.width (drop 1 b) rest) (first_rest b (omega arith))) s r.last

  variable_again : VariableRun k run → sum_right 4 run ≡ true → written k (said_variable k (covered 4 run)) ≡ run
  unfolding start_with body_of said_variable
  variable_again r s =
      let b = covered 4 run in
      let long : length b ≡ get_or run 1 0 = covered_length 4 run (omega (arith, r.long, r.least)) ∙ omega (arith, r.long) in
      let body : body_of k (said_variable k b) ≡ b =
      rw (address_again 4 (get_or run 1 0) long (omega (arith, r.least, proper.counts)), take-append-drop) (first_rest b (omega (arith, r.least, proper.counts))) in
      let l = get_or run 1 0 in
      let starts : 0x68 ∷ l ∷ l ∷ 0x68 ∷ [] ≡ take 4 run = sym (first_octets 4 run (omega (arith, r.long, r.least)) ∙ rw (r.first, r.again, r.fourth)) in
      again (said_variable k b) 4 (omega (arith, r.long, r.least)) (ap (λ (n : ℕ). 0x68 ∷ n ∷ n ∷ 0x68 ∷ []) (ap length body ∙ long) ∙ starts) body s r.last

  -- a sound run, judged and written again
  pub judged_again : (f : Frame) → judge k run ≡ sound f → written k f ≡ run
  judged_again f e = by_form (sound_facts k run f e)
    where
      by_form : Sound k run f → written k f ≡ run
      by_form (as_fixed r s p) = ap (written k) p ∙ fixed_again r s
      by_form (as_variable r s p) = ap (written k) p ∙ variable_again r s

-- the card's own frames
pub sapr_proper : Proper sapr
sapr_proper = record { counts = omega arith; octet = omega arith }

as_writable : (k : Control) (a : ℕ) (user : List ℕ) → a < 65536 → length user ≤ 252 → Writable sapr (frame_as k a user)
as_writable Ack a user h l = h
as_writable Nack a user h l = h
as_writable NothingToGive a user h l = h
as_writable Status a user h l = h
as_writable Data a user h l = (h, omega arith, omega arith)

-- a reply is a sound frame of at most 261 octets that gives back what was meant, whatever the reply
module _ (reply : Reply) (address : reply.link.0 < 65536) (users : length (octets_of reply.user) ≤ 252) where
  reply_writable : Writable sapr (reply_frame reply)
  unfolding reply_frame
  reply_writable = as_writable reply.control reply.link.0 (octets_of reply.user) address users

  pub reply_back : judge sapr (reply_octets reply) ≡ sound (reply_frame reply)
  unfolding reply_octets
  reply_back = round_trip sapr sapr_proper (reply_frame reply) reply_writable

  pub reply_length : length (reply_octets reply) ≤ 261
  unfolding reply_octets
  reply_length = at_most_261 sapr sapr_proper (reply_frame reply) reply_writable
