-- What the public contracts of this crate do not allow: two wrong outcomes or more of each.
-- By computation, and by the lengths of what is seen; of reading, whatever the world outside gives. Assumes nothing.
use Prim.Native.Nat.{ℕ, ◌+◌, ◌<◌}
use mathlib.Core.Bool.{Bool, true, false, true≢false}
use mathlib.Core.List.{List, [], ◌∷◌}
use mathlib.Core.Path.{◌≡◌, refl, sym, ap, ◌∙◌}
use native.Mathlib.Omega.{arith}
use contract.Lifetimes.{Lfts}
use denote.RattleType.{RattleType}
use denote.Param.Laws.{Laws}
use denote.Ref.{Bor, MutBor}
use mir.Syntax.{Dict}
use lib.ListN.{length, drop, length-take}
use Rattle.std.specs.declared.io.Stdin.{Stdin}
use Rattle.std.specs.declared.io.Stdout.{Stdout}
use Rattle.octets.specs.Over.{over}
use Rattle.octets.specs.Calls.{fits_at}
use Rattle.octets.proofs.Outcome.{RuledOut, RuledOutWith, Place, lent, lent_mut}
use Rattle.stream.specs.declared.Window.{Window}
use Rattle.stream.specs.declared.Texts.{Texts}
use Rattle.stream.specs.declared.Input.{Input}
use Rattle.stream.specs.declared.Output.{Output}
use Rattle.stream.specs.Window.{count_of, seen_in, has_in, Filled}
use Rattle.stream.specs.Texts.{added_to}
use Rattle.stream.proofs.Window.seen.Reads as seen
use Rattle.stream.proofs.Window.taken.Reads as taken
use Rattle.stream.proofs.Window.filled.Reads as filled
use Rattle.stream.proofs.Texts.out.Reads as out
use Rattle.stream.proofs.Texts.tell.Reads as tell
use Rattle.stream.proofs.Window.read.Reads as read
use Rattle.stream.proofs.Input.seen.Reads as input_seen
use Rattle.stream.proofs.Input.read.Reads as input_read
use Rattle.stream.proofs.Input.take.Reads as input_take
use Rattle.stream.proofs.Output.out.Reads as output_out
use Rattle.stream.proofs.Output.tell.Reads as output_tell
use Rattle.stream.specs.declared.Sizes as sizes

abbrev waiting : ℕ → Bool → Texts
waiting count going = record { count = count; going = going }

abbrev window : ℕ → ℕ → Window
window from to = record { from = from; to = to }

-- so many octets taken from a window
module _ (κs : Lfts 0) (w : Window) (many : ℕ) where
  -- nothing taken where octets are asked for and there
  taken_none : w.from < w.to → 0 < many → RuledOut (taken.Post κs) (w, (many, tt)) w
  taken_none there some s p = omega (arith, ap (λ (r : Window). r.from) p)

  -- all taken where fewer are asked for
  taken_all : many < count_of w → RuledOut (taken.Post κs) (w, (many, tt)) (window w.to w.to)
  taken_all fewer s p = omega (arith, ap (λ (r : Window). r.from) p)

  -- more taken than there are
  taken_more : count_of w < many → RuledOut (taken.Post κs) (w, (many, tt)) (window (w.from + many) w.to)
  taken_more few s p = omega (arith, ap (λ (r : Window). r.from) p)

-- x, y: where the octets lie
module _ (κs : Lfts 1) (x y : Place) (a b c : ℕ) where
  -- the octets from the start of the space, whenever they differ from those in the window
  seen_start : (a ≡ b → ⊥) → RuledOut (seen.Post κs) (window 1 2, (lent x (a ∷ b ∷ c ∷ []), tt)) (lent y (a ∷ []))
  seen_start n s p = n (cc)

  -- the octets behind the window, whenever they differ from those in it
  seen_end : (b ≡ c → ⊥) → RuledOut (seen.Post κs) (window 1 2, (lent x (a ∷ b ∷ c ∷ []), tt)) (lent y (c ∷ []))
  seen_end n s p = n (cc)

  module _ (input : Stdin) (size : ℕ) where
    -- what has not been taken read over, whenever another octet comes in
    filled_over : (a ≡ b → ⊥)
        → RuledOutWith (λ s. s.1.1.0.now) (filled.Post κs) (window 0 1, (input, (lent_mut x (a ∷ c ∷ []), (size, tt)))) (window 0 2) (b ∷ c ∷ [])
    filled_over n s e p = n (cc)

    -- the first octet moved to every place, whenever the second differs
    filled_first : (b ≡ c → ⊥)
        → RuledOutWith (λ s. s.1.1.0.now) (filled.Post κs) (window 1 3, (input, (lent_mut x (a ∷ b ∷ c ∷ []), (size, tt)))) (window 0 2) (b ∷ b ∷ c ∷ [])
    filled_first n s e p = n (cc)

    -- a new window at the front with the octets not moved there, whenever they differ
    filled_unmoved : (a ≡ b → ⊥)
        → RuledOutWith (λ s. s.1.1.0.now) (filled.Post κs) (window 1 3, (input, (lent_mut x (a ∷ b ∷ c ∷ []), (size, tt)))) (window 0 2) (a ∷ b ∷ c ∷ [])
    filled_unmoved n s e p = n (cc)

-- a window that is filled has no fewer octets
lost : {space left : List ℕ} {w r : Window} {size : ℕ} → Filled space w size r left → count_of r < length (seen_in space w) → ⊥
lost {space} {left} {w} {r} p fewer =
    omega (arith, ap length p.first, length-take (length (seen_in space w)) (seen_in left r), length-take (count_of r) (drop r.from left))

module _ (κs : Lfts 1) (input : Stdin) (x : Place) (space : List ℕ) (w r : Window) (size : ℕ) where
  -- what has not been taken left out: a window with fewer octets, whatever is read
  filled_lost : count_of r < length (seen_in space w) → RuledOut (filled.Post κs) (w, (input, (lent_mut x space, (size, tt)))) r
  filled_lost fewer s p = lost p fewer

  -- a window that reaches past the space
  filled_past : length space < r.to → RuledOut (filled.Post κs) (w, (input, (lent_mut x space, (size, tt)))) r
  filled_past past s p = omega arith

  -- a space of another length
  filled_length : (left : List ℕ) → (length left ≡ length space → ⊥)
      → RuledOutWith (λ s. s.1.1.0.now) (filled.Post κs) (w, (input, (lent_mut x space, (size, tt)))) r left
  filled_length left n s e p = n (cc)

  -- a window that ends before it begins
  filled_order : r.to < r.from → RuledOut (filled.Post κs) (w, (input, (lent_mut x space, (size, tt)))) r
  filled_order before s p = omega arith

  -- as many octets as are asked for stand in the window already
  module _ (enough : has_in space w size ≡ true) where
    -- another window where so many octets stand there already: moved to the front, or with more read behind it
    filled_again : (r ≡ w → ⊥) → RuledOut (filled.Post κs) (w, (input, (lent_mut x space, (size, tt)))) r
    filled_again other s p = other (p.same_window enough)

    -- an octet of the space changed where so many stand there already
    filled_changed : (left : List ℕ) → (left ≡ space → ⊥)
        → RuledOutWith (λ s. s.1.1.0.now) (filled.Post κs) (w, (input, (lent_mut x space, (size, tt)))) r left
    filled_changed left other s e p = other (sym e ∙ p.unchanged enough)

-- read on, whatever says how many octets are needed
module _ (S : RattleType) (laws : Laws S) (g : sizes.Ghosts S.Denot) (a : Dict) (says : Bor S.Denot) where
  module _ (κs : Lfts 3) (input : Stdin) (x : Place) (space : List ℕ) (w r : Window) where
    -- what has not been taken left out of what is read on: a window with fewer octets
    read_lost : count_of r < length (seen_in space w) → RuledOut (read.Post S laws g a κs) (w, (input, (lent_mut x space, (says, tt)))) r
    read_lost fewer s p = lost p.2 fewer

    -- read on past the space
    read_past : length space < r.to → RuledOut (read.Post S laws g a κs) (w, (input, (lent_mut x space, (says, tt)))) r
    read_past past s p = omega (arith, p.2.in_space, p.2.same_length)

    -- another window where as many octets as are said stand there already
    read_again : ((n : ℕ) → g.says says.now (seen_in space w) n → has_in space w n ≡ true) → (r ≡ w → ⊥)
        → RuledOut (read.Post S laws g a κs) (w, (input, (lent_mut x space, (says, tt)))) r
    read_again enough other s p = other (p.2.same_window (enough p.0 p.1))

  module _ (κs : Lfts 4) (i : MutBor Input) where
    -- what has not been taken left out of a program's input: a window with fewer octets
    input_read_lost : (r : Window) → count_of r < length (seen_in i.now.space.now i.now.window)
        → RuledOutWith (λ s. s.0.now.window) (input_read.Post S laws g a κs) (i, (says, tt)) tt r
    input_read_lost r fewer s e p = lost p.2 (rw e fewer)

    -- a program's space that has another length
    input_read_length : (left : List ℕ) → (length left ≡ length i.now.space.now → ⊥)
        → RuledOutWith (λ s. s.0.now.space.now) (input_read.Post S laws g a κs) (i, (says, tt)) tt left
    input_read_length left other s e p = other (ap length (sym e) ∙ p.2.same_length)

-- what a program reads, seen and taken
module _ (κs : Lfts 2) where
  -- a program's whole space, where there is more in it than the window
  input_seen_whole : (i : Bor Input) (y : Place) → let w = i.now.window in count_of w < length i.now.space.now
      → RuledOut (input_seen.Post κs) (i, tt) (lent y i.now.space.now)
  input_seen_whole i y more s p = omega (arith, ap length p, length-take (count_of i.now.window) (drop i.now.window.from i.now.space.now))

  -- nothing of what a program has read, where there is something
  input_seen_none : (i : Bor Input) (y : Place) → 0 < length (seen_in i.now.space.now i.now.window) → RuledOut (input_seen.Post κs) (i, tt) (lent y [])
  input_seen_none i y some s p = omega (arith, ap length p)

  module _ (i : MutBor Input) (many : ℕ) where
    -- nothing taken of a program's input where octets are asked for and there
    input_take_none : 0 < many → 0 < count_of i.now.window → RuledOutWith (λ s. s.0.now.window) (input_take.Post κs) (i, (many, tt)) tt i.now.window
    input_take_none some there s e p = omega (arith, ap (λ (r : Window). r.from) (sym e ∙ p.0))

    -- an octet of a program's space changed as octets are taken
    input_take_changed : (left : List ℕ) → (left ≡ i.now.space.now → ⊥) → RuledOutWith (λ s. s.0.now.space.now) (input_take.Post κs) (i, (many, tt)) tt left
    input_take_changed left other s e p = other (sym e ∙ p.1)

-- what waits, written
module _ (κs : Lfts 1) (output : Stdout) (x : Place) (block : List ℕ) (texts : Texts) (going : Bool) where
  -- what waited still waiting
  out_waiting : 0 < texts.count → RuledOut (out.Post κs) (texts, (output, (lent x block, tt))) (waiting texts.count going)
  out_waiting some s p = omega (arith, p.none_waits)

  -- one octet still waiting
  out_one : RuledOut (out.Post κs) (texts, (output, (lent x block, tt))) (waiting 1 going)
  out_one s p = omega (arith, p.none_waits)

  -- what has stopped going on
  out_resumed : texts.going ≡ false → RuledOut (out.Post κs) (texts, (output, (lent x block, tt))) (waiting 0 true)
  out_resumed stopped s p = true≢false (p.stays_stopped stopped)

-- a text of one octet more in a block of two
module _ (κs : Lfts 2) (output : Stdout) (x y : Place) (a b c : ℕ) (going : Bool) where
  -- a text that fits, dropped
  tell_dropped : RuledOut (tell.Post κs) (waiting 1 going, (output, (lent_mut x (a ∷ b ∷ []), (lent y (c ∷ []), (true, tt))))) (waiting 1 going)
  unfolding fits_at
  tell_dropped s p = omega (arith, ap (λ (r : Texts). r.count) ((p.goes_on refl).count_behind refl))

  -- a text written over one that waits, whenever they differ
  tell_over : (a ≡ c → ⊥)
      → RuledOutWith (λ s. s.1.1.0.now) (tell.Post κs) (waiting 1 going, (output, (lent_mut x (a ∷ b ∷ []), (lent y (c ∷ []), (true, tt))))) (waiting 2 going) (c ∷ b ∷ [])
  unfolding fits_at over
  tell_over n s e p = n (cc p.left_so)

  -- a text that does not fit behind the others, dropped
  tell_lost : RuledOut (tell.Post κs) (waiting 2 going, (output, (lent_mut x (a ∷ b ∷ []), (lent y (c ∷ []), (true, tt))))) (waiting 0 going)
  unfolding fits_at
  tell_lost s p = omega (arith, ((p.goes_on refl).else_first refl).count)

  -- a text longer than the block, and more to go out behind it
  tell_long : RuledOut (tell.Post κs) (waiting 0 going, (output, (lent_mut x [], (lent y (c ∷ []), (true, tt))))) (waiting 0 true)
  unfolding fits_at
  tell_long s p = true≢false (((p.goes_on refl).else_first refl).refused refl)

  -- the last text still waiting
  tell_last : RuledOut (tell.Post κs) (waiting 1 going, (output, (lent_mut x (a ∷ b ∷ []), (lent y (c ∷ []), (false, tt))))) (waiting 2 going)
  tell_last s p = omega (arith, ap (λ (r : Texts). r.count) (p.ends refl))

  -- the last text told, and another left in the block, whenever they differ
  tell_last_over : (a ≡ c → ⊥) → RuledOutWith (λ s. s.1.1.0.now) (tell.Post κs) (waiting 1 going, (output, (lent_mut x (a ∷ b ∷ []), (lent y (c ∷ []), (false, tt))))) (waiting 0 false)
      (c ∷ b ∷ [])
  unfolding fits_at over
  tell_last_over n s e p = n (cc p.left_so)

-- what a program writes
module _ (κs : Lfts 2) (o : MutBor Output) where
  -- a program's text still waiting
  output_out_waiting : (count : ℕ) → 0 < count → RuledOutWith (λ s. s.0.now.texts.count) (output_out.Post κs) (o, tt) tt count
  output_out_waiting count some s e p = omega (arith, e, p.0.none_waits)

  -- an octet of a program's block changed as it is written
  output_out_changed : (left : List ℕ) → (left ≡ o.now.block.now → ⊥) → RuledOutWith (λ s. s.0.now.block.now) (output_out.Post κs) (o, tt) tt left
  output_out_changed left other s e p = other (sym e ∙ p.1)

  -- a program's output that has stopped going on
  output_out_resumed : o.now.texts.going ≡ false → RuledOutWith (λ s. s.0.now.texts.going) (output_out.Post κs) (o, tt) tt true
  output_out_resumed stopped s e p = true≢false (sym e ∙ p.0.stays_stopped stopped)

module _ (κs : Lfts 3) (o : MutBor Output) (y : Place) (text : List ℕ) where
  -- a program's text that fits, dropped
  output_tell_dropped : fits_at o.now.block.now o.now.texts.count text ≡ true → 0 < length text
      → RuledOutWith (λ s. s.0.now.texts) (output_tell.Post κs) (o, (lent y text, (true, tt))) tt o.now.texts
  output_tell_dropped fits some s e p = omega (arith, ap (λ (t : Texts). t.count) (sym e ∙ (p.goes_on refl).count_behind fits))

  -- another block than that in which a program's text stands
  output_tell_other : (more : Bool) (left : List ℕ) → (left ≡ added_to o.now.block.now o.now.texts.count text → ⊥)
      → RuledOutWith (λ s. s.0.now.block.now) (output_tell.Post κs) (o, (lent y text, (more, tt))) tt left
  output_tell_other more left other s e p = other (sym e ∙ p.left_so)

  -- more to go out behind a program's last text
  output_tell_on : RuledOutWith (λ s. s.0.now.texts.going) (output_tell.Post κs) (o, (lent y text, (false, tt))) tt true
  output_tell_on s e p = true≢false (sym e ∙ ap (λ (t : Texts). t.going) (p.ends refl))
