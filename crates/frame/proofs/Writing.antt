-- What is written into a buffer is the frame of the definition, in one part or in several.
-- By the laws of one list written over another. Assumes nothing.
use Rattle.std.proofs.Common.{◌≡◌, ℕ, suc, ◌+◌, ◌%◌, ◌<◌, ◌≤◌, Bool, List, [], ◌∷◌, ◌++◌, length, get_or, sym, refl, ap, ◌∙◌, arith, take, drop, append_assoc, length-append, length-take-le, le-ltb, lt-ltb}
use Rattle.std.proofs.lemmas.List.{take-append-drop, drop-append-le}
use Rattle.octets.specs.Numbers.{low_octets}
use Rattle.octets.specs.Sum.{checksum}
use Rattle.octets.specs.Over.{laid_in, Does}
use Rattle.octets.specs.Keeping.{octets_of}
use Rattle.octets.proofs.Over.{Put, laid_first, laid_more}
use Rattle.octets.proofs.Sum.{checksum_append}
use Rattle.frame.specs.declared.Control.{Control}
use Rattle.frame.specs.declared.Control.TheVariants.{Ack, Nack, NothingToGive, Status}
use Rattle.frame.specs.declared.Reply.{Reply}
use Rattle.frame.specs.declared.WriteError.{WriteError}
use Rattle.frame.specs.declared.WriteError.TheVariants.{Short}
use Rattle.std.specs.Prelude.{Result, Ok, Err, ◌⊎◌}
use Rattle.std.specs.Array.{IsFirstChunk}
use mathlib.Core.Logic.{inl, inr}
use Rattle.frame.specs.Family.{sapr}
use Rattle.frame.specs.Frame.{Frame, fixed, variable, body_of, start_with, written}
use Rattle.frame.specs.Controls.{control_of}
use Rattle.frame.specs.Writing.{frame_as, reply_frame, reply_octets}
use Rattle.frame.specs.Calls.{written_says, answer_to, left_of}

-- a frame in the first octets of a buffer, and its length
abbrev pub Stands : List ℕ → Frame → ℕ → List ℕ → Type 0
Stands buffer f n left = Does (length (written sapr f)) (laid_in buffer (written sapr f)) n left

module _ (c address : ℕ) where
  -- C A A, octet by octet
  pub body_octets : (low : List ℕ) → low ≡ low_octets 2 address → c ∷ get_or low 0 0 ∷ get_or low 1 0 ∷ [] ≡ body_of sapr (fixed c address)
  unfolding body_of low_octets
  body_octets low e = rw e

  module _ (buffer body : List ℕ) (room : 261 ≤ length buffer) (e : body ≡ body_of sapr (fixed c address)) where
    pub fixed_stands : {done : Bool} {left : List ℕ} (sum : ℕ) → sum ≡ checksum body
        → Put buffer 0 (0x10 ∷ get_or body 0 0 ∷ get_or body 1 0 ∷ get_or body 2 0 ∷ sum ∷ 0x16 ∷ []) done left → Stands buffer (fixed c address) 6 left
    unfolding written start_with body_of low_octets
    fixed_stands sum s p = record { answers = refl; left_so = laid_first buffer _ p (omega arith) ∙ rw (s, e) }

  module _ (user : List ℕ) where
    -- 68 L L 68 C A A, and S 16
    pub head_octets : (body : List ℕ) → body ≡ body_of sapr (fixed c address)
        → 0x68 ∷ (length user + 3) ∷ (length user + 3) ∷ 0x68 ∷ get_or body 0 0 ∷ get_or body 1 0 ∷ get_or body 2 0 ∷ []
        ≡ start_with sapr (variable c address user) ++ body_of sapr (fixed c address)
    unfolding start_with body_of low_octets
    head_octets body e =
        let counted : length user + 3 ≡ suc (suc (suc (length user))) = omega arith in
        rw (e, counted)

    pub sum_octet : (sum s u : ℕ) (body : List ℕ) → body ≡ body_of sapr (fixed c address) → s ≡ checksum body → u ≡ checksum user → sum ≡ (s + u) % 256
        → sum ≡ checksum (body_of sapr (variable c address user))
    unfolding body_of
    sum_octet sum s u body e es eu h = h ∙ rw (es, eu, e) (checksum_append (body_of sapr (fixed c address)) user)

    module _ (buffer : List ℕ) (room : 261 ≤ length buffer) (small : length user ≤ 252) {done : Bool} {left : List ℕ} where
      -- one part after the other
      pub front_stands : {done₀ : Bool} {left₀ : List ℕ} (head : List ℕ) → head ≡ start_with sapr (variable c address user) ++ body_of sapr (fixed c address)
          → Put buffer 0 head done₀ left₀ → Put left₀ 7 user done left
          → left ≡ laid_in buffer (start_with sapr (variable c address user) ++ body_of sapr (variable c address user))
      unfolding start_with body_of low_octets
      front_stands {left₀ = left₀} head e p q =
          let long : length head ≡ 7 = rw e in
          rw e at (laid_more buffer head user left₀ 7 (laid_first buffer head p (omega arith)) q (sym long) (omega arith))

      pub variable_stands : {left₀ : List ℕ} (end : List ℕ) → left₀ ≡ laid_in buffer (start_with sapr (variable c address user) ++ body_of sapr (variable c address user))
          → end ≡ checksum (body_of sapr (variable c address user)) ∷ 0x16 ∷ [] → Put left₀ (length user + 7) end done left
          → Stands buffer (variable c address user) (length user + 9) left
      unfolding written start_with body_of low_octets
      variable_stands {left₀ = left₀} end front e p =
          let before = start_with sapr (variable c address user) ++ body_of sapr (variable c address user) in
          let two : length end ≡ 2 = rw e in
          record {
            answers = omega (arith, length-append user (checksum (body_of sapr (variable c address user)) ∷ 0x16 ∷ []));
            left_so = laid_more buffer before end left₀ (length user + 7) front p (omega arith) (omega arith) ∙ ap (λ (l : List ℕ). laid_in buffer (before ++ l)) e;
          }

-- what is laid into the first 261 octets of a buffer is laid into the buffer
pub laid_whole : {A : Type 0} {r : A} (answer : A) (buffer octets : List ℕ) {first left : List ℕ} → IsFirstChunk buffer first 261 → length left ≡ 261
    → Does answer (laid_in first octets) r left → Does answer (laid_in buffer octets) r (left ++ drop 261 buffer)
laid_whole answer buffer octets {first} {left} chunk whole d =
    let n = length octets in
    let first_part : length (take 261 buffer) ≡ 261 = length-take-le 261 buffer chunk.enough in
    let e : left ≡ laid_in (take 261 buffer) octets = d.left_so ∙ ap (λ (l : List ℕ). laid_in l octets) chunk.same in
    let few : n ≤ 261 = omega (arith, whole, ap length e, length-append octets (drop n (take 261 buffer))) in
    record {
      answers = d.answers;
      left_so = ap (λ (l : List ℕ). l ++ drop 261 buffer) e
          ∙ append_assoc octets (drop n (take 261 buffer)) (drop 261 buffer)
          ∙ ap (λ (l : List ℕ). octets ++ l)
          (sym (drop-append-le n (take 261 buffer) (drop 261 buffer) (omega arith)) ∙ ap (λ (l : List ℕ). drop n l) (take-append-drop 261 buffer));
    }

-- a buffer that is too short, a reply that stands in its place, and a buffer that is not too short
pub short_refused : (buffer octets : List ℕ) → length buffer < 261 → Does (answer_to buffer octets) (left_of buffer octets) (Err Short) buffer
unfolding answer_to left_of
short_refused buffer octets h = record { answers = rw (lt-ltb _ _ h); left_so = rw (lt-ltb _ _ h) }

pub reply_stands : {left : List ℕ} {n : ℕ} (buffer : List ℕ) (reply : Reply) (c : Control) → reply.control ≡ c
    → Stands buffer (frame_as c reply.link.0 (octets_of reply.user)) n left
    → Does (length (reply_octets reply)) (laid_in buffer (reply_octets reply)) n left
unfolding reply_octets reply_frame
reply_stands buffer reply c e s = rw e s

pub answer_whole : (buffer octets : List ℕ) {left : List ℕ} {n : ℕ} → 261 ≤ length buffer → Does (length octets) (laid_in buffer octets) n left
    → Does (answer_to buffer octets) (left_of buffer octets) (Ok n) left
unfolding answer_to left_of
answer_whole buffer octets room d = record { answers = rw (le-ltb _ _ room, d.answers); left_so = rw (le-ltb _ _ room) d.left_so }

-- every reply but data is of the fixed form
pub fixed_reply : (c : Control) (a : ℕ) (user : List ℕ) → (c ≡ Ack) ⊎ ((c ≡ Nack) ⊎ ((c ≡ NothingToGive) ⊎ (c ≡ Status)))
    → fixed (control_of c) a ≡ frame_as c a user
fixed_reply c a user (inl e) = rw e
fixed_reply c a user (inr (inl e)) = rw e
fixed_reply c a user (inr (inr (inl e))) = rw e
fixed_reply c a user (inr (inr (inr e))) = rw e

-- what is written into a buffer that is long enough
module _ (buffer octets : List ℕ) {left : List ℕ} (room : 261 ≤ length buffer) where
  pub written_whole : (count : ℕ) → Does (answer_to buffer octets) (left_of buffer octets) (Ok count) left → Does (length octets) (laid_in buffer octets) count left
  unfolding answer_to left_of
  written_whole count d =
      let says : Ok count ≡ Ok (length octets) = rw (le-ltb _ _ room) at d.answers in
      record { answers = ap (λ (w : Result ℕ WriteError). get_or (written_says w).values 0 0) says; left_so = rw (le-ltb _ _ room) at d.left_so }

  pub never_short : Does (answer_to buffer octets) (left_of buffer octets) (Err Short) left → ⊥
  unfolding answer_to
  never_short d =
      let says : Err Short ≡ Ok (length octets) = rw (le-ltb _ _ room) at d.answers in
      omega (arith, ap (λ (w : Result ℕ WriteError). (written_says w).number) says)
