-- A line put together: part behind part, and the whole of it in a lent buffer.
-- By what is put behind what, and by the laws of `over`. Assumes nothing.
use Prim.Native.Nat.{ℕ, ◌+◌, ◌*◌, ◌≤◌, ◌<◌}
use mathlib.Core.Bool.{Bool, true, false}
use mathlib.Core.List.{List, [], ◌∷◌, ◌++◌, append-nil, append_assoc}
use mathlib.Core.Path.{◌≡◌, refl, ap, ◌∙◌}
use native.Mathlib.Omega.{arith}
use borrow.Author.Tests.{le-leb, lt-leb, leb-true, leb-false, ltb-true, ltb-false}
use lib.Dec.{ltb}
use lib.ListN.{length, take, drop, get_or, length-append, length-take}
use lib.Seq.{take_at}
use Rattle.octets.specs.Over.{over}
use Rattle.octets.specs.Calls.{fits_at}
use Rattle.octets.proofs.Choice.{told}
use Rattle.octets.proofs.Over.{Put, over_first, over_after, over_length, put_fits}
use Rattle.deeds.specs.declared.Order.{Order}
use Rattle.deeds.specs.declared.Order.TheVariants.{NoOrder, SetClock, SetDates}
use Rattle.printing.specs.Text.{decimal, pair_of, pairs}
use Rattle.printing.specs.Line.{space, newline, word, reply_text, dash_for, beginning, line_of, gap_line, time_text, PutAt, Lined}
use Rattle.printing.proofs.Text.{decimal_length, pairs_length, pairs_more}

-- what `put` puts where there is room
pub put_at : (under : List ℕ) (at : ℕ) (part : List ℕ) {done : Bool} {left : List ℕ} → at + length part ≤ length under → Put under at part done left
    → PutAt under at part (at + length part) left
put_at under at part room p = record { ends = refl; fits = room; stands = put_fits under at part p room }

-- a part behind the first octets of an array, and one for which there is no room
module _ (octets part : List ℕ) (n : ℕ) {left : List ℕ} {done : Bool} (size : length octets ≡ 96) (few : n ≤ 96) (p : Put octets n part done left) where
  pub part_fits : done ≡ true → n + length part ≤ 96
  unfolding fits_at
  part_fits e = omega (arith, size, leb-true (n + length part) (length octets) (told p.answers e))

  pub part_behind : done ≡ true → take (n + length part) left ≡ take n octets ++ part
  unfolding over
  part_behind e =
      let room : n + length part ≤ length octets = omega (arith, size, part_fits e) in
      let front : length (take n octets ++ part) ≡ n + length part = simp (length-append, length-take) (omega arith) in
      rw (put_fits octets n part p room) (take_at (take n octets ++ part) (drop (n + length part) octets) (n + length part) front)

  pub part_long : done ≡ false → length (take n octets) + length part ≤ 96 → ⊥
  unfolding fits_at
  part_long e room = omega (arith, size, few, room, length-take n octets, leb-false (n + length part) (length octets) (told p.answers e))

-- a part behind another
pub behind : {under mid left xs ys : List ℕ} {at to end : ℕ} → PutAt under at xs to mid → PutAt mid to ys end left → PutAt under at (xs ++ ys) end left
behind {under} {xs = xs} {ys} {at} {to} {end} p q =
    let same : length (over under at xs) ≡ length under = over_length under at xs (omega arith) in
    let kept = ap length p.stands in
    let room : end ≤ length under = omega (arith, q.fits) in
    record {
      ends = simp length-append (omega arith);
      fits = room;
      stands = q.stands ∙ rw p.stands (over_after under at xs ys to p.ends (omega arith));
    }

-- the buffer stays as long as it is
pub kept_length : {under left part : List ℕ} {at to : ℕ} → PutAt under at part to left → length left ≡ length under
kept_length {under} {part = part} {at} p = ap length p.stands ∙ over_length under at part (omega (arith, p.ends, p.fits))

-- one pair more
pub pair_behind : (head before octets : List ℕ) (i : ℕ) → i < length octets → {under mid left : List ℕ} {at to end : ℕ}
    → PutAt under at (head ++ pairs before (take i octets)) to mid → PutAt mid to (before ++ pair_of (get_or octets i 0)) end left
    → PutAt under at (head ++ pairs before (take (i + 1) octets)) end left
pair_behind head before octets i h p q =
    rw (append_assoc head (pairs before (take i octets)) (before ++ pair_of (get_or octets i 0)), pairs_more before octets i h) at (behind p q)

-- `Lined` in its two cases
module _ (under text : List ℕ) where
  pub lined_whole : {count : ℕ} {left : List ℕ} → PutAt under 0 text count left → Lined under text count left
  unfolding fits_at
  lined_whole p =
      let h : 0 + length text ≤ length under = omega arith in
      record { answers = rw (le-leb _ _ h) (omega arith); left_so = rw (le-leb _ _ h) (p.stands ∙ over_first under text) }

  pub lined_not : length under < length text → Lined under text 0 under
  unfolding fits_at
  lined_not long =
      let h : length under < 0 + length text = omega arith in
      record { answers = rw (lt-leb _ _ h); left_so = rw (lt-leb _ _ h) }

  -- as of a text that is put, or not
  pub put_lined : {left : List ℕ} {done : Bool} → Put under 0 text done left → done ≡ true → Lined under text (length text) left
  put_lined p e =
      let fits : fits_at under 0 text ≡ true = told p.answers e in
      record { answers = rw fits; left_so = rw fits (rw fits at p.left_so ∙ over_first under text) }

  pub unput_lined : {left : List ℕ} {done : Bool} → Put under 0 text done left → done ≡ false → Lined under text 0 left
  unput_lined p e =
      let fits : fits_at under 0 text ≡ false = told p.answers e in
      record { answers = rw fits; left_so = rw fits (rw fits at p.left_so) }

-- of a line that fits and of one that does not: its length, and what is left
module _ (under text : List ℕ) {left : List ℕ} {count : ℕ} (p : Lined under text count left) where
  pub counted : length text ≤ length under → count ≡ length text
  unfolding fits_at
  counted fits = rw (le-leb (0 + length text) (length under) (omega arith)) at p.answers

  pub laid : length text ≤ length under → left ≡ text ++ drop (length text) under
  unfolding fits_at
  laid fits = rw (le-leb (0 + length text) (length under) (omega arith)) at p.left_so

  pub refused : length under < length text → count ≡ 0
  unfolding fits_at
  refused short = rw (lt-leb (0 + length text) (length under) (omega arith)) at p.answers

  pub kept : length under < length text → left ≡ under
  unfolding fits_at
  kept short = rw (lt-leb (0 + length text) (length under) (omega arith)) at p.left_so

-- what `fits` finds is room for the whole line
module _ (under head before octets : List ℕ) {r : Bool} (found : r ≡ ltb (length head + length octets * (length before + 2)) (length under)) where
  pub room_whole : r ≡ true → length head + length (pairs before octets) < length under
  room_whole t =
      let h = ltb-true (length head + length octets * (length before + 2)) (length under) (told found t) in
      omega (arith, h, pairs_length before octets)

  pub lined_none : r ≡ false → Lined under (head ++ pairs before octets ++ newline) 0 under
  lined_none t =
      let h = ltb-false (length head + length octets * (length before + 2)) (length under) (told found t) in
      lined_not under (head ++ pairs before octets ++ newline) (simp length-append (omega (arith, h, pairs_length before octets)))

-- a reply is its dash or its pairs
pub dash_none : (reply : List ℕ) → length reply ≡ 0 → dash_for reply ≡ reply_text []
unfolding dash_for
dash_none [] h = refl
dash_none (octet ∷ reply) h = absurd (omega arith)

pub dash_some : (reply : List ℕ) → (length reply ≡ 0 → ⊥) → dash_for reply ≡ []
unfolding dash_for
dash_some [] h = absurd (h refl)
dash_some (octet ∷ reply) h = refl

dash_or_pairs : (front reply : List ℕ) → front ++ dash_for reply ++ pairs space reply ≡ front ++ reply_text reply
unfolding dash_for pairs
dash_or_pairs front [] = append-nil (front ++ reply_text [])
dash_or_pairs front (octet ∷ reply) = rw append-nil

-- how many octets the parts of a head have at most
pub word_length : (order : Order) → length (word order) ≤ 5
word_length NoOrder = omega arith
word_length SetClock = omega arith
word_length SetDates = omega arith

few_pairs : (k : ℕ) (time : List ℕ) → k ≤ 10 → length (pairs [] (take k time)) ≤ 20
few_pairs k time few = omega (arith, pairs_length [] (take k time), length-take k time)

pub time_length : (order : Order) (time : List ℕ) → length (time_text order time) ≤ 20
time_length NoOrder time = omega arith
time_length SetClock time = few_pairs 7 time (omega arith)
time_length SetDates time = few_pairs 10 time (omega arith)

beginning_length : (first second : ℕ) (order : Order) → length (beginning first second order) ≤ 47
unfolding beginning
beginning_length first second order =
    let one = decimal_length first in
    let two = decimal_length second in
    let last = word_length order in
    simp length-append (omega arith)

dash_length : (reply : List ℕ) → length (dash_for reply) ≤ 2
unfolding dash_for
dash_length [] = omega arith
dash_length (octet ∷ reply) = omega arith

-- one part more of a head, for which there is room
abbrev Puts : List ℕ → List ℕ → ℕ → List ℕ → Type 0
Puts old part most new = length old + most ≤ 96 → new ≡ old ++ part

put_next : {old new : List ℕ} (text part : List ℕ) (most : ℕ) → old ≡ text → Puts old part most new → length text + most ≤ 96 → new ≡ text ++ part
put_next text part most e f room = f (rw e room) ∙ ap (λ (l : List ℕ). l ++ part) e

-- what both lines begin with, and the head of a gap's line
module _ {a b c d e : List ℕ} where
  pub begun : {none last : List ℕ} (first second : ℕ) (order : Order) → none ≡ [] → Puts none (decimal first) 20 a → Puts a space 1 b → Puts b (decimal second) 20 c
      → Puts c space 1 d → last ≡ word order → Puts d last (length last) e → e ≡ beginning first second order
  unfolding beginning
  begun first second order start f g h i w j =
      let one = decimal_length first in
      let two = decimal_length second in
      let three = word_length order in
      let columns : c ≡ decimal first ++ space ++ decimal second =
      put_next (decimal first ++ space) (decimal second) 20 (put_next (decimal first) space 1 (put_next [] (decimal first) 20 start f (omega arith)) g (omega arith)) h
      (simp length-append (omega arith)) in
      let spaced : d ≡ decimal first ++ space ++ decimal second ++ space = put_next (decimal first ++ space ++ decimal second) space 1 columns i (simp length-append (omega arith)) in
      put_next (decimal first ++ space ++ decimal second ++ space) (word order) (length (word order)) spaced (rw w at j) (simp length-append (omega arith))

  pub headed : {front : List ℕ} (number count : ℕ) (order : Order) (time : List ℕ) (damaged : ℕ) → front ≡ beginning number count order → Puts front space 1 a
      → Puts a (time_text order time) 20 b → Puts b space 1 c → Puts c (decimal damaged) 20 d → Puts d space 1 e
      → e ≡ beginning number count order ++ space ++ time_text order time ++ space ++ decimal damaged ++ space
  headed number count order time damaged start f g h i j =
      let front = beginning number count order in
      let middle = time_text order time in
      let one = beginning_length number count order in
      let two = time_length order time in
      let three = decimal_length damaged in
      let timed : b ≡ front ++ space ++ middle =
      put_next (front ++ space) middle 20 (put_next front space 1 start f (omega arith)) g (simp length-append (omega arith)) in
      let spaced : c ≡ front ++ space ++ middle ++ space = put_next (front ++ space ++ middle) space 1 timed h (simp length-append (omega arith)) in
      let counted : d ≡ front ++ space ++ middle ++ space ++ decimal damaged =
      put_next (front ++ space ++ middle ++ space) (decimal damaged) 20 spaced i (simp length-append (omega arith)) in
      put_next (front ++ space ++ middle ++ space ++ decimal damaged) space 1 counted j (simp length-append (omega arith))

-- one pair more
pub pair_put : (start octets : List ℕ) (i : ℕ) → i < length octets → length start + 2 * length octets ≤ 96 → {text new pair : List ℕ}
    → text ≡ start ++ pairs [] (take i octets) → pair ≡ pair_of (get_or octets i 0) → Puts text pair (length pair) new → new ≡ start ++ pairs [] (take (i + 1) octets)
unfolding pair_of
pair_put start octets i h room {text} {new} e p f =
    let most : length (pairs [] (take i octets)) + 2 ≤ 2 * length octets = omega (arith, pairs_length [] (take i octets), length-take i octets) in
    let front : List ℕ = start ++ pairs [] (take i octets) in
    put_next front (pair_of (get_or octets i 0)) 2 e (rw p at f) (simp length-append (omega arith))
    ∙ append_assoc start (pairs [] (take i octets)) (pair_of (get_or octets i 0))
    ∙ ap (λ (l : List ℕ). start ++ l) (pairs_more [] octets i h)

-- a line from its head on
pub run_line : (number result : ℕ) (order : Order) (reply : List ℕ) {front none head : List ℕ} → front ≡ beginning number result order → none ≡ dash_for reply
    → Puts front none (length none) head → head ++ pairs space reply ++ newline ≡ line_of number result order reply
unfolding line_of
run_line number result order reply start e f =
    let front = beginning number result order in
    let few = beginning_length number result order in
    let short = dash_length reply in
    let is = put_next front (dash_for reply) (length (dash_for reply)) start (rw e at f) (omega arith) in
    ap (λ (l : List ℕ). l ++ pairs space reply ++ newline) is ∙ ap (λ (l : List ℕ). l ++ newline) (dash_or_pairs front reply)

pub gap_text : (number count : ℕ) (order : Order) (time : List ℕ) (damaged : ℕ) (buffer : List ℕ) {head : List ℕ}
    → head ≡ beginning number count order ++ space ++ time_text order time ++ space ++ decimal damaged ++ space
    → head ++ pairs [] buffer ++ newline ≡ gap_line number count order time damaged buffer
unfolding gap_line
gap_text number count order time damaged buffer e = rw e
