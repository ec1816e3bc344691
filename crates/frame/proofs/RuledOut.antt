-- What the public contracts of this crate do not allow: two wrong outcomes or more of each.
-- By computation where the octets are known, by cases on the tests where they are not. Assumes nothing.
use Rattle.std.proofs.Common.{◌≡◌, ℕ, ◌+◌, ◌*◌, ◌≤◌, false, not, ◌||◌, eqb, ltb, List, [], ◌∷◌, length, get_or, take, replicate, refl, ap, arith, get_or-drop, le-ltb, Option, Some, None}
use Rattle.std.specs.Prelude.{Result, Ok, Err}
use contract.Lifetimes.{Lfts}
use Rattle.octets.specs.Answer.{Answer}
use Rattle.octets.specs.Conditions.{holds}
use Rattle.octets.specs.Numbers.{low_first, low_octets}
use Rattle.octets.specs.Sum.{octet_sum, checksum}
use Rattle.octets.specs.declared.Kept.{Kept}
use Rattle.octets.specs.Keeping.{octets_of, kept_of}
use Rattle.octets.proofs.Choice.{either}
use Rattle.octets.proofs.Outcome.{RuledOut, RuledOutWith, Place, lent, lent_mut, never}
use Rattle.address.specs.declared.LinkAddress.{LinkAddress}
use Rattle.frame.specs.declared.Form.{Form}
use Rattle.frame.specs.declared.Form.TheVariants as form
use Rattle.frame.specs.declared.Service.TheVariants.{Reset, UserData, Status, Collection}
use Rattle.frame.specs.declared.Fault.{Fault}
use Rattle.frame.specs.declared.Fault.TheVariants.{Empty, Long, Parity, Malformed, Spoiled}
use Rattle.frame.specs.declared.Judged.TheVariants.{Fixed, Variable}
use Rattle.frame.specs.declared.Control.{Control}
use Rattle.frame.specs.declared.Control.TheVariants as control
use Rattle.frame.specs.declared.Reply.{Reply}
use Rattle.frame.specs.declared.WriteError.{WriteError}
use Rattle.frame.specs.declared.WriteError.TheVariants.{Short}
use Rattle.frame.specs.Family.{sapr}
use Rattle.frame.specs.Frame as f
use Rattle.frame.specs.Controls.{from_centre, offered}
use Rattle.frame.specs.Calls.{verdict_says, judged_says, written_says, answer_to, left_of}
use Rattle.frame.specs.Writing.{reply_frame, reply_octets}
use Rattle.frame.proofs.judge.Reads as judge
use Rattle.frame.proofs.user.Reads as user
use Rattle.frame.proofs.service_of.Reads as service_of
use Rattle.frame.proofs.Reply.plain.Reads as plain
use Rattle.frame.proofs.Fault.number.Reads as fault_number
use Rattle.frame.proofs.write.Reads as write
use Rattle.frame.specs.declared.Service.{Service}

-- a NACK; what else a reply has does not count
abbrev nack : Kept → Reply
nack user = record { control = control.Nack; link = record { 0 = 1 }; user = user }

-- a data reply, by the octets that are kept and how many of them count
abbrev data_with : List ℕ → ℕ → LinkAddress → Reply
data_with kept many link = record { control = control.Data; link = link; user = record { octets = kept; length = many } }

-- data of one octet
abbrev data_of : ℕ → List ℕ → LinkAddress → Reply
data_of octet behind link = data_with (octet ∷ behind) 1 link

-- a verdict of another number
abbrev Not : ℕ → f.Verdict → Type 0
Not number v = number ≡ (verdict_says v).number → ⊥

-- a sound frame has number 0
sound_number : (said : f.Frame) → (verdict_says (f.sound said)).number ≡ 0
sound_number (f.fixed c a) = refl
sound_number (f.variable c a user) = refl

module _ (κs : Lfts 1) (x y : Place) where
  -- a link address read high octet first, whatever control, address and checksum the frame has, if the two octets differ
  judge_address : (c a b sum : ℕ) → (a ≡ b → ⊥)
      → RuledOut (judge.Post κs) (lent x (0x10 ∷ c ∷ a ∷ b ∷ sum ∷ 0x16 ∷ []), tt) (Ok (Fixed c (record { 0 = b + 256 * a })))
  unfolding f.judge f.said f.fixed_form f.start_of f.sum_right f.said_fixed holds octet_sum checksum low_first
  judge_address c a b sum n s =
      either (λ (v : f.Verdict). judged_says (Ok (Fixed c (record { 0 = b + 256 * a }))) ≡ verdict_says v → ⊥)
      (not (f.sum_right 1 (0x10 ∷ c ∷ a ∷ b ∷ sum ∷ 0x16 ∷ [])))
      (λ _ p. omega (arith, ap (λ (r : Answer). r.number) p))
      (λ _ p. n (omega (arith, ap (λ (r : Answer). get_or r.values 2 0) p)))

  -- a run with a wrong checksum taken for a sound fixed frame, whatever the run
  judge_sum : (run : List ℕ) (c : ℕ) (link : LinkAddress) → f.sum_right (f.start_of sapr run) run ≡ false
      → RuledOut (judge.Post κs) (lent x run, tt) (Ok (Fixed c link))
  unfolding f.judge
  judge_sum run c link wrong s p =
      either (Not 0) (eqb (length run) 0) (λ _ q. omega arith)
      (λ _. either (Not 0) (ltb 261 (length run)) (λ _ q. omega arith)
      (λ _. either (Not 0) (not (f.fixed_form sapr run || f.variable_form sapr run)) (λ _ q. omega arith) (λ _ q. omega arith)))
      (ap (λ (r : Answer). r.number) (rw wrong at p))

  -- the frame with a wrong checksum of document 01's second case taken for sound
  judge_second : RuledOut (judge.Post κs) (lent x (0x10 ∷ 0x41 ∷ 1 ∷ 0 ∷ 0x41 ∷ 0x16 ∷ []), tt) (Ok (Fixed 0x41 (record { 0 = 1 })))
  unfolding f.judge f.said f.fixed_form f.start_of f.sum_right f.said_fixed holds octet_sum checksum low_first
  judge_second s p = omega (arith, ap (λ (r : Answer). r.number) p)

  -- a checksum without the control octet taken for right in a variable frame
  judge_range : RuledOut (judge.Post κs) (lent x (0x68 ∷ 3 ∷ 3 ∷ 0x68 ∷ 0x53 ∷ 1 ∷ 0 ∷ 1 ∷ 0x16 ∷ []), tt) (Ok (Variable 0x53 (record { 0 = 1 }) 0))
  unfolding f.judge f.said f.fixed_form f.variable_form f.start_of f.sum_right f.said_variable holds octet_sum checksum low_first
  judge_range s p = omega (arith, ap (λ (r : Answer). r.number) p)

  -- an L that counts one octet more than there are taken for right
  judge_length : RuledOut (judge.Post κs) (lent x (0x68 ∷ 4 ∷ 4 ∷ 0x68 ∷ 0x53 ∷ 1 ∷ 0 ∷ 0x54 ∷ 0x16 ∷ []), tt) (Ok (Variable 0x53 (record { 0 = 1 }) 0))
  unfolding f.judge f.fixed_form f.variable_form holds
  judge_length s p = omega (arith, ap (λ (r : Answer). r.number) p)

  -- a variable frame with L 2 taken for one with a wrong checksum
  judge_least : RuledOut (judge.Post κs) (lent x (0x68 ∷ 2 ∷ 2 ∷ 0x68 ∷ 0x53 ∷ 1 ∷ 0 ∷ 0x16 ∷ []), tt) (Err Spoiled)
  unfolding f.judge f.fixed_form f.variable_form holds
  judge_least s p = omega (arith, ap (λ (r : Answer). r.number) p)

  -- a run that has neither form called a frame with a wrong checksum, whatever the run
  judge_order : (run : List ℕ) → f.fixed_form sapr run ≡ false → f.variable_form sapr run ≡ false → RuledOut (judge.Post κs) (lent x run, tt) (Err Spoiled)
  unfolding f.judge
  judge_order run fixed variable s p =
      either (Not 4) (eqb (length run) 0) (λ _ q. omega arith) (λ _. either (Not 4) (ltb 261 (length run)) (λ _ q. omega arith) (λ _ q. omega arith))
      (ap (λ (r : Answer). r.number) (rw (fixed, variable) at p))

  -- an empty run called one that has not the form of a frame
  judge_empty : RuledOut (judge.Post κs) (lent x [], tt) (Err Malformed)
  unfolding f.judge
  judge_empty s p = omega (arith, ap (λ (r : Answer). r.number) p)

  -- a run of 261 octets, whatever they are, called too long
  judge_long : (run : List ℕ) → length run ≡ 261 → RuledOut (judge.Post κs) (lent x run, tt) (Err Long)
  unfolding f.judge
  judge_long run e s p =
      either (Not 2) (not (f.fixed_form sapr run || f.variable_form sapr run)) (λ _ q. omega arith)
      (λ _. either (Not 2) (not (f.sum_right (f.start_of sapr run) run)) (λ _ q. omega arith)
      (λ _ q. omega (arith, sound_number (f.said sapr run))))
      (ap (λ (r : Answer). r.number) (rw e at p))

  -- user octets that start one octet early, with the link address, whatever the frame holds, if the two octets differ
  user_start : (l c a b first sum : ℕ) → (b ≡ first → ⊥)
      → RuledOut (user.Post κs) (lent x (0x68 ∷ l ∷ l ∷ 0x68 ∷ c ∷ a ∷ b ∷ first ∷ sum ∷ 0x16 ∷ []), (1, tt)) (lent y (b ∷ []))
  user_start l c a b first sum n s p = n (cc)

  -- all octets to the end of the run, checksum and 16 too
  user_many : (l c a b first sum : ℕ)
      → RuledOut (user.Post κs) (lent x (0x68 ∷ l ∷ l ∷ 0x68 ∷ c ∷ a ∷ b ∷ first ∷ sum ∷ 0x16 ∷ []), (1, tt)) (lent y (first ∷ sum ∷ 0x16 ∷ []))
  user_many l c a b first sum s p = never (cc)

-- which service is asked for: 0 none; and its FCB
abbrev asks : Option Service → ℕ × ℕ
asks None = (0, 0)
asks (Some Reset) = (1, 0)
asks (Some (UserData bit)) = (2, bit)
asks (Some Status) = (3, 0)
asks (Some (Collection bit)) = (4, bit)

module _ (κs : Lfts 0) where
  -- the count bit of a collection lost
  service_of_bit : RuledOut (service_of.Post κs) (form.Fixed, (0x7B, tt)) (Some (Collection 0))
  unfolding offered
  service_of_bit s p = omega (arith, ap (λ (r : Option Service). (asks r).1) p)

  -- a reset by a control field that is not the centre's, in whatever form
  service_of_other : (form : Form) (c : ℕ) → from_centre c ≡ false → RuledOut (service_of.Post κs) (form, (c, tt)) (Some Reset)
  unfolding offered
  service_of_other form c out s p = omega (arith, ap (λ (r : Option Service). (asks r).0) (rw out at p))

  -- a reset by function 1
  service_of_function : RuledOut (service_of.Post κs) (form.Fixed, (0x61, tt)) (Some Reset)
  unfolding offered
  service_of_function s p = omega (arith, ap (λ (r : Option Service). (asks r).0) p)

  -- a reset by a variable frame
  service_of_form : RuledOut (service_of.Post κs) (form.Variable, (0x40, tt)) (Some Reset)
  unfolding offered
  service_of_form s p = omega (arith, ap (λ (r : Option Service). (asks r).0) p)

  -- user data with FCV 0
  service_of_fcv : RuledOut (service_of.Post κs) (form.Variable, (0x43, tt)) (Some (UserData 0))
  unfolding offered
  service_of_fcv s p = omega (arith, ap (λ (r : Option Service). (asks r).0) p)

  -- a status with FCB 1 refused, where the FCB is not looked at
  service_of_status : RuledOut (service_of.Post κs) (form.Fixed, (0x69, tt)) None
  unfolding offered
  service_of_status s p = omega (arith, ap (λ (r : Option Service). (asks r).0) p)

  -- a wrong checksum called 3
  fault_number_spoiled : RuledOut (fault_number.Post κs) (Spoiled, tt) 3
  fault_number_spoiled s p = omega (arith, p)

  -- a wrong parity bit called 3, whose effects it has
  fault_number_parity : RuledOut (fault_number.Post κs) (Parity, tt) 3
  fault_number_parity s p = omega (arith, p)

  -- any fault called 0, the number of a sound frame
  fault_number_sound : (fault : Fault) → RuledOut (fault_number.Post κs) (fault, tt) 0
  fault_number_sound Empty s p = omega (arith, p)
  fault_number_sound Long s p = omega (arith, p)
  fault_number_sound Parity s p = omega (arith, p)
  fault_number_sound Malformed s p = omega (arith, p)
  fault_number_sound Spoiled s p = omega (arith, p)

  -- a reply without user octets that counts one
  plain_count : (c : Control) (link : LinkAddress) (octets : List ℕ)
      → RuledOut (plain.Post κs) (c, (link, tt)) (record { control = c; link = link; user = record { octets = octets; length = 1 } })
  unfolding kept_of
  plain_count c link octets s p = omega (arith, ap (λ (r : Reply). r.user.length) p)

  -- a reply that carries another link address than it is given
  plain_link : (c : Control) (link other : LinkAddress) (user : Kept) → (other.0 ≡ link.0 → ⊥)
      → RuledOut (plain.Post κs) (c, (link, tt)) (record { control = c; link = other; user = user })
  plain_link c link other user n s p = n (ap (λ (r : Reply). r.link.0) p)

module _ (κs : Lfts 1) (x : Place) (octets : List ℕ) where
  -- a reply written into a buffer of 260 octets, whatever the reply
  write_short : (reply : Reply) (many : ℕ) → length octets ≡ 260 → RuledOut (write.Post κs) (lent_mut x octets, (reply, tt)) (Ok many)
  unfolding answer_to
  write_short reply many short s p = omega (arith, ap (λ (r : Result ℕ WriteError). (written_says r).number) (rw short at p.answers))

  -- a buffer of 261 octets refused, whatever the reply
  write_room : (reply : Reply) → length octets ≡ 261 → RuledOut (write.Post κs) (lent_mut x octets, (reply, tt)) (Err Short)
  unfolding answer_to
  write_room reply room s p = omega (arith, ap (λ (r : Result ℕ WriteError). (written_says r).number) (rw room at p.answers))

  -- a short buffer refused and yet changed
  write_kept : (reply : Reply) (other : List ℕ) → length octets ≡ 260 → (other ≡ octets → ⊥)
      → RuledOutWith (λ s. s.0.now) (write.Post κs) (lent_mut x octets, (reply, tt)) (Err Short) other
  unfolding left_of
  write_kept reply other short n s e p = n (cc (rw short at p.left_so))

  -- a NACK with the control octet of an ACK
  write_code : (user : Kept) → 261 ≤ length octets
      → RuledOutWith (λ s. take 6 s.0.now) (write.Post κs) (lent_mut x octets, (nack user, tt)) (Ok 6) (0x10 ∷ 0 ∷ 1 ∷ 0 ∷ 1 ∷ 0x16 ∷ [])
  unfolding left_of reply_octets reply_frame f.written f.start_with f.body_of low_octets octet_sum checksum
  write_code user room s e p = never (cc (ap (take 6) (rw (le-ltb (length octets) 261 room) at p.left_so)))

  -- the octet behind a NACK changed
  write_rest : (user : Kept) (changed : ℕ) → 261 ≤ length octets → (changed ≡ get_or octets 6 0 → ⊥)
      → RuledOutWith (λ s. get_or s.0.now 6 0) (write.Post κs) (lent_mut x octets, (nack user, tt)) (Ok 6) changed
  unfolding left_of reply_octets reply_frame f.written f.start_with f.body_of low_octets
  write_rest user changed room n s e p =
      n (cc (ap (λ (l : List ℕ). get_or l 6 0) (rw (le-ltb (length octets) 261 room) at p.left_so), get_or-drop 6 octets 0 0))

  -- the octet behind a data reply of one user octet changed
  write_behind : (octet changed : ℕ) (behind : List ℕ) (link : LinkAddress) (many : ℕ) → 261 ≤ length octets → (changed ≡ get_or octets 10 0 → ⊥)
      → RuledOutWith (λ s. get_or s.0.now 10 0) (write.Post κs) (lent_mut x octets, (data_of octet behind link, tt)) (Ok many) changed
  unfolding left_of reply_octets reply_frame f.written f.start_with f.body_of low_octets octets_of
  write_behind octet changed behind link many room n s e p =
      n (cc (ap (λ (l : List ℕ). get_or l 10 0) (rw (le-ltb (length octets) 261 room) at p.left_so), get_or-drop 10 octets 0 0))

  -- a data reply of one user octet with the length of one that has none
  write_users : (octet : ℕ) (behind : List ℕ) (link : LinkAddress) → 261 ≤ length octets
      → RuledOut (write.Post κs) (lent_mut x octets, (data_of octet behind link, tt)) (Ok 9)
  unfolding answer_to reply_octets reply_frame f.written f.start_with f.body_of low_octets octets_of
  write_users octet behind link room s p =
      omega (arith, ap (λ (r : Result ℕ WriteError). get_or (written_says r).values 0 0) (rw (le-ltb (length octets) 261 room) at p.answers))

  -- a data reply without user octets that has another length than 9
  write_none : (kept : List ℕ) (link : LinkAddress) (many : ℕ) → 261 ≤ length octets → (many ≡ 9 → ⊥)
      → RuledOut (write.Post κs) (lent_mut x octets, (data_with kept 0 link, tt)) (Ok many)
  unfolding answer_to reply_octets reply_frame f.written f.start_with f.body_of low_octets octets_of
  write_none kept link many room n s p =
      n (cc (ap (λ (r : Result ℕ WriteError). get_or (written_says r).values 0 0) (rw (le-ltb (length octets) 261 room) at p.answers)))

  -- more user octets than are kept, where their number is over 252
  write_over : (link : LinkAddress) → 261 ≤ length octets
      → RuledOut (write.Post κs) (lent_mut x octets, (data_with (replicate 252 1) 255 link, tt)) (Ok 264)
  unfolding answer_to reply_octets reply_frame f.written f.start_with f.body_of low_octets octets_of
  write_over link room s p =
      omega (arith, ap (λ (r : Result ℕ WriteError). get_or (written_says r).values 0 0) (rw (le-ltb (length octets) 261 room) at p.answers))
