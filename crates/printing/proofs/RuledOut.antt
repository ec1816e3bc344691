-- What the public contracts of this crate do not allow: two wrong outcomes or more of each.
-- By what is left of a line that fits and of one that does not, then octet by octet. Assumes nothing.
use Prim.Native.Nat.{ℕ, ◌≤◌, ◌<◌}
use mathlib.Core.List.{List, [], ◌∷◌}
use mathlib.Core.Path.{◌≡◌, sym, ap, ◌∙◌}
use native.Mathlib.Omega.{arith}
use contract.Lifetimes.{Lfts}
use lib.ListN.{length, get_or, take, length-append}
use Rattle.octets.specs.declared.Kept.{Kept}
use Rattle.octets.specs.Calls.{added}
use Rattle.octets.specs.Keeping.{kept_of}
use Rattle.octets.specs.Over.{over}
use Rattle.octets.proofs.Keeping.{added_fits}
use Rattle.octets.proofs.Outcome.{RuledOut, RuledOutWith, Place, lent, lent_mut}
use Rattle.deeds.specs.declared.Order.{Order}
use Rattle.deeds.specs.declared.Order.TheVariants.{NoOrder, SetClock}
use Rattle.printing.specs.Text.{figures, decimal, hex_figure, pair_of, pairs}
use Rattle.printing.specs.Line.{beginning, line_of, gap_line}
use Rattle.printing.proofs.Lines.{counted, laid, refused, kept}
use Rattle.printing.proofs.with_decimal.Reads as with_decimal
use Rattle.printing.proofs.put_text.Reads as put_text
use Rattle.printing.proofs.line.Reads as line
use Rattle.printing.proofs.gap_line.Reads as gap_line_call

-- a number left out, whatever stands before it and has room behind
with_decimal_kept : (text : Kept) → text.length ≤ 250 → RuledOut (with_decimal.Post tt) (text, (14, tt)) text
unfolding decimal figures
with_decimal_kept text room s p =
    omega (arith, ap (λ (k : Kept). k.length) (p ∙ added_fits text (decimal 14) (omega (arith, room))))

-- its figures the wrong way round: 41 for 14
with_decimal_turned : RuledOut (with_decimal.Post tt) (kept_of [], (14, tt)) (kept_of (52 ∷ 49 ∷ []))
unfolding decimal figures added kept_of over
with_decimal_turned s p = omega (arith, ap (λ (k : Kept). get_or k.octets 0 0) p)

module _ (κs : Lfts 2) (x y : Place) (out : List ℕ) where
  -- whatever a text is
  module _ (text : List ℕ) where
    -- a text that fits, if only just, refused
    put_text_fits : 0 < length text → length text ≤ length out → RuledOut (put_text.Post κs) (lent_mut x out, (lent y text, tt)) 0
    put_text_fits some fits s p = omega (arith, counted _ _ p fits)

    -- a text that does not fit refused and the buffer yet changed
    put_text_kept : (other : List ℕ) → length out < length text → (other ≡ out → ⊥)
        → RuledOutWith (λ s. s.0.now) (put_text.Post κs) (lent_mut x out, (lent y text, tt)) 0 other
    put_text_kept other short differ s e p = differ (cc (kept _ _ p short))

  -- whatever a line says
  module _ (number result : ℕ) (order : Order) (reply : List ℕ) where
    -- a line that fits, if only just, refused, whatever it says
    line_fits : length (line_of number result order reply) ≤ length out
        → RuledOut (line.Post κs) (lent_mut x out, (number, (result, (order, (lent y reply, tt))))) 0
    unfolding line_of
    line_fits fits s p = omega (arith, simp length-append at (counted _ _ p fits))

    -- a length answered for a line that does not fit, whatever it says
    line_short : (count : ℕ) → length out < length (line_of number result order reply) → 0 < count
        → RuledOut (line.Post κs) (lent_mut x out, (number, (result, (order, (lent y reply, tt))))) count
    line_short count short some s p = omega (arith, refused _ _ p short)

    -- a line that does not fit refused and the buffer yet changed
    line_kept : (other : List ℕ) → length out < length (line_of number result order reply) → (other ≡ out → ⊥)
        → RuledOutWith (λ s. s.0.now) (line.Post κs) (lent_mut x out, (number, (result, (order, (lent y reply, tt))))) 0 other
    line_kept other short differ s e p = differ (cc (kept _ _ p short))

  -- a reply of two octets without the spaces before them, two octets less
  line_spaces : 12 ≤ length out → RuledOut (line.Post κs) (lent_mut x out, (1, (0, (NoOrder, (lent y (0x10 ∷ 0x16 ∷ []), tt))))) 10
  unfolding line_of beginning decimal figures pairs pair_of hex_figure
  line_spaces room s p = omega (arith, counted _ _ p room)

  -- hex figures in lower case
  line_case : 9 ≤ length out
      → RuledOutWith (λ s. take 9 s.0.now) (line.Post κs) (lent_mut x out, (1, (0, (NoOrder, (lent y (0x0B ∷ []), tt))))) 9
      (49 ∷ 32 ∷ 48 ∷ 32 ∷ 45 ∷ 32 ∷ 48 ∷ 98 ∷ 10 ∷ [])
  unfolding line_of beginning decimal figures pairs pair_of hex_figure
  line_case room s e p = omega (arith, ap (λ (l : List ℕ). get_or l 7 0) (sym e ∙ ap (take 9) (laid _ _ p room)))

  -- the dash of no reply before its space, in the second line of document 01's example
  line_dash : 8 ≤ length out
      → RuledOutWith (λ s. take 8 s.0.now) (line.Post κs) (lent_mut x out, (2, (4, (NoOrder, (lent y [], tt))))) 8
      (50 ∷ 32 ∷ 52 ∷ 32 ∷ 45 ∷ 45 ∷ 32 ∷ 10 ∷ [])
  unfolding line_of beginning decimal figures
  line_dash room s e p = omega (arith, ap (λ (l : List ℕ). get_or l 5 0) (sym e ∙ ap (take 8) (laid _ _ p room)))

  -- the result number before the run number, in the second line of document 01's example
  line_numbers : 8 ≤ length out
      → RuledOutWith (λ s. take 8 s.0.now) (line.Post κs) (lent_mut x out, (2, (4, (NoOrder, (lent y [], tt))))) 8
      (52 ∷ 32 ∷ 50 ∷ 32 ∷ 45 ∷ 32 ∷ 45 ∷ 10 ∷ [])
  unfolding line_of beginning decimal figures
  line_numbers room s e p = omega (arith, ap (λ (l : List ℕ). get_or l 0 0) (sym e ∙ ap (take 8) (laid _ _ p room)))

  -- whatever a gap's line says
  module _ (number count : ℕ) (order : Order) (time : List ℕ) (damaged : ℕ) (buffer : List ℕ) where
    -- a gap's line that fits, if only just, refused, whatever it says
    gap_line_fits : length (gap_line number count order time damaged buffer) ≤ length out
        → RuledOut (gap_line_call.Post κs) (lent_mut x out, (number, (count, (order, (time, (damaged, (lent y buffer, tt))))))) 0
    unfolding gap_line
    gap_line_fits fits s p = omega (arith, simp length-append at (counted _ _ p fits))

    -- a length answered for a gap's line that does not fit, whatever it says
    gap_line_short : (some : ℕ) → length out < length (gap_line number count order time damaged buffer) → 0 < some
        → RuledOut (gap_line_call.Post κs) (lent_mut x out, (number, (count, (order, (time, (damaged, (lent y buffer, tt))))))) some
    gap_line_short some short many s p = omega (arith, refused _ _ p short)

  -- number and length exchanged, whatever time octets stand beside no order
  gap_line_numbers : (time : List ℕ) → 11 ≤ length out
      → RuledOutWith (λ s. take 11 s.0.now) (gap_line_call.Post κs) (lent_mut x out, (0, (6, (NoOrder, (time, (0, (lent y [], tt))))))) 11
      (54 ∷ 32 ∷ 48 ∷ 32 ∷ 45 ∷ 32 ∷ 45 ∷ 32 ∷ 48 ∷ 32 ∷ 10 ∷ [])
  unfolding gap_line beginning decimal figures pairs
  gap_line_numbers time room s e p = omega (arith, ap (λ (l : List ℕ). get_or l 0 0) (sym e ∙ ap (take 11) (laid _ _ p room)))

  -- the reply's length in place of the count of damaged runs
  gap_line_damaged : (time : List ℕ) → 11 ≤ length out
      → RuledOutWith (λ s. take 11 s.0.now) (gap_line_call.Post κs) (lent_mut x out, (0, (6, (NoOrder, (time, (1, (lent y [], tt))))))) 11
      (48 ∷ 32 ∷ 54 ∷ 32 ∷ 45 ∷ 32 ∷ 45 ∷ 32 ∷ 54 ∷ 32 ∷ 10 ∷ [])
  unfolding gap_line beginning decimal figures pairs
  gap_line_damaged time room s e p = omega (arith, ap (λ (l : List ℕ). get_or l 8 0) (sym e ∙ ap (take 11) (laid _ _ p room)))

  -- ten time octets for an order to set the clock, which has seven: six figures more
  gap_line_time : (a b c d e f g h i j : ℕ) → 34 ≤ length out
      → RuledOut (gap_line_call.Post κs) (lent_mut x out, (0, (6, (SetClock, (a ∷ b ∷ c ∷ d ∷ e ∷ f ∷ g ∷ h ∷ i ∷ j ∷ [], (0, (lent y [], tt))))))) 34
  unfolding gap_line beginning decimal figures pairs pair_of
  gap_line_time a b c d e f g h i j room s p = omega (arith, counted _ _ p (omega arith))
