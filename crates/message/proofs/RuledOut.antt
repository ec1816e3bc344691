-- What the public contracts of this crate do not allow: two wrong outcomes or more of each.
-- By computation, field by field. Assumes nothing.
use Rattle.std.specs.Prelude.{Some, None}
use Prim.Native.Nat.{ℕ, ◌+◌, ◌*◌, ◌/◌, ◌%◌, ◌<◌}
use mathlib.Core.Bool.{true, false, false≢true}
use mathlib.Core.List.{List, [], ◌∷◌}
use mathlib.Core.Path.{◌≡◌, sym, ap, ◌∙◌}
use native.Mathlib.Omega.{arith}
use contract.Lifetimes.{Lfts}
use lib.ListN.{length, get_or}
use Rattle.octets.specs.Numbers.{low_first, low_octets}
use Rattle.octets.proofs.Outcome.{RuledOut, Place, lent, never}
use Rattle.label.specs.Label.{label_a_at, label_b_at}
use Rattle.message.specs.declared.Header.{Header}
use Rattle.message.specs.declared.ObjectRange.{ObjectRange}
use Rattle.message.specs.declared.Request.{Request}
use Rattle.octets.specs.declared.Kept.{Kept}
use Rattle.message.specs.declared.Addresses.TheVariants.{Only}
use Rattle.message.specs.declared.Deed.TheVariants.{GivesData, SetsClock}
use Rattle.message.specs.declared.Row.{Row}
use Rattle.message.specs.Calls.{Offered}
use Rattle.message.specs.Headers.{header_of, header_octets, t_of}
use Rattle.message.specs.Requests.{asks_readings, labels_from, request_of}
use Rattle.message.specs.Mirror.{mirror, mirror_of}
use Rattle.message.specs.Table.{row, table, row_in}
use Rattle.message.proofs.row_of.Reads as row_of
use Rattle.message.proofs.Header.read.Reads as header_read
use Rattle.message.proofs.Header.octets.Reads as header_octets_call
use Rattle.message.proofs.ObjectRange.are_offered.Reads as are_offered
use Rattle.message.proofs.Request.read.Reads as request_read
use Rattle.message.proofs.Requests.{offered_so, so_offered}
use Rattle.message.proofs.mirrored.Reads as mirrored

-- a header by its octets
abbrev header : ℕ → ℕ → ℕ → ℕ → ℕ → Header
header type structure cause point address = record { type_id = type; structure = structure; cause = cause; point = record { 0 = point }; record_address = address }

-- octets that are kept
abbrev kept : List ℕ → ℕ → Kept
kept octets length = record { octets = octets; length = length }

module _ (κs : Lfts 0) where
  -- a 181 of 14 octets listed
  row_of_octets : RuledOut (row_of.Post κs) (181, tt) (Some (row 181 1 14 6 (Only 0) SetsClock))
  unfolding table row_in
  row_of_octets s p =
      let same : row 181 1 14 6 (Only 0) SetsClock ≡ row 181 1 13 6 (Only 0) SetsClock = cc in
      omega (arith, ap (λ (r : Row). r.octets) same)

  -- a 187 that is not listed
  row_of_last : RuledOut (row_of.Post κs) (187, tt) None
  unfolding table row_in
  row_of_last s p = never (cc)

  -- a signature, type 128, listed, with whatever N, octets and cause
  row_of_signature : (r : Row) → RuledOut (row_of.Post κs) (128, tt) (Some r)
  unfolding table row_in
  row_of_signature r s p = never (cc)

  -- a 122 answered by the row of a 123, which differs in the type alone
  row_of_neighbour : RuledOut (row_of.Post κs) (122, tt) (Some (row 123 1 18 6 (Only 11) GivesData))
  unfolding table row_in
  row_of_neighbour s p = never (cc)

-- a message of a header's six octets and any behind it
module _ (κs : Lfts 1) (x : Place) (type structure cause low high address : ℕ) (behind : List ℕ) where
  -- its octets
  abbrev whole : List ℕ
  whole = type ∷ structure ∷ cause ∷ low ∷ high ∷ address ∷ behind

  -- the high octet of the point read twice, whatever the message, if the two octets differ
  header_read_twice : (low ≡ high → ⊥) → RuledOut (header_read.Post κs) (lent x whole, tt) (header type structure cause (high + 256 * high) address)
  unfolding header_of low_first
  header_read_twice n s p = n (omega (arith, ap (λ (h : Header). h.point.0) p))

  -- the point read high octet first, whatever the message, if the two octets differ
  header_read_swapped : (low ≡ high → ⊥) → RuledOut (header_read.Post κs) (lent x whole, tt) (header type structure cause (high + 256 * low) address)
  unfolding header_of low_first
  header_read_swapped n s p = n (omega (arith, ap (λ (h : Header). h.point.0) p))

  -- the record address read one octet early, from the point, if the two octets differ
  header_read_early : (high ≡ address → ⊥) → RuledOut (header_read.Post κs) (lent x whole, tt) (header type structure cause (low + 256 * high) high)
  unfolding header_of low_first
  header_read_early n s p = n (ap (λ (h : Header). h.record_address) p)

  -- structure octet and cause exchanged, if they differ
  header_read_exchanged : (structure ≡ cause → ⊥) → RuledOut (header_read.Post κs) (lent x whole, tt) (header type cause structure (low + 256 * high) address)
  unfolding header_of low_first
  header_read_exchanged n s p = n (ap (λ (h : Header). h.cause) p)

module _ (κs : Lfts 0) (type structure cause point address : ℕ) where
  -- the cause in the structure octet too, whatever the header, if the two differ
  header_octets_cause : (structure ≡ cause → ⊥)
      → RuledOut (header_octets_call.Post κs) (header type structure cause point address, tt) (type ∷ cause ∷ cause ∷ point % 256 ∷ point / 256 % 256 ∷ address ∷ [])
  unfolding header_octets low_octets
  header_octets_cause n s p = n (cc)

  -- the high octet of the point written twice, whatever the header, if its octets differ
  header_octets_twice : (point % 256 ≡ point / 256 % 256 → ⊥)
      → RuledOut (header_octets_call.Post κs) (header type structure cause point address, tt)
      (type ∷ structure ∷ cause ∷ point / 256 % 256 ∷ point / 256 % 256 ∷ address ∷ [])
  unfolding header_octets low_octets
  header_octets_twice n s p = n (cc)

  -- the point written high octet first, whatever the header, if its octets differ
  header_octets_swapped : (point % 256 ≡ point / 256 % 256 → ⊥)
      → RuledOut (header_octets_call.Post κs) (header type structure cause point address, tt)
      (type ∷ structure ∷ cause ∷ point / 256 % 256 ∷ point % 256 ∷ address ∷ [])
  unfolding header_octets low_octets
  header_octets_swapped n s p = n (cc)

module _ (κs : Lfts 0) (objects : ObjectRange) where
  -- object 0 taken
  are_offered_zero : objects.first ≡ 0 → RuledOut (are_offered.Post κs) (objects, tt) true
  are_offered_zero zero s p = omega (arith, zero, (offered_so objects (sym p)).from_one)

  -- object 7 taken, or one behind it
  are_offered_seven : 6 < objects.last → RuledOut (are_offered.Post κs) (objects, tt) true
  are_offered_seven over s p = omega (arith, over, (offered_so objects (sym p)).to_six)

  -- the first object after the last taken
  are_offered_falling : objects.last < objects.first → RuledOut (are_offered.Post κs) (objects, tt) true
  are_offered_falling falling s p = omega (arith, falling, (offered_so objects (sym p)).rising)

  -- objects refused that a reading has: one alone, some of them, or all six
  are_offered_refused : Offered objects → RuledOut (are_offered.Post κs) (objects, tt) false
  are_offered_refused o s p = false≢true (p ∙ so_offered objects o)

-- a request of any header, with four octets and more behind it, and any answer
module _ (κs : Lfts 1) (x : Place) (type structure cause low high address a b c d : ℕ) (behind : List ℕ) (wrong : Request) where
  -- its octets
  abbrev asked : List ℕ
  asked = type ∷ structure ∷ cause ∷ low ∷ high ∷ address ∷ a ∷ b ∷ c ∷ d ∷ behind

  -- the header of another type
  request_read_type : (wrong.header.type_id ≡ type → ⊥) → RuledOut (request_read.Post κs) (lent x asked, tt) wrong
  unfolding request_of header_of
  request_read_type other s p = other (ap (λ (r : Request). r.header.type_id) p)

  -- the last object taken for the first, whatever the request, if they differ
  request_read_object : (a ≡ b → ⊥) → wrong.objects.first ≡ b → RuledOut (request_read.Post κs) (lent x asked, tt) wrong
  unfolding request_of
  request_read_object differ last s p = differ (sym (ap (λ (r : Request). r.objects.first) p) ∙ last)

  -- the first octet of the labels taken for the last object, if they differ
  request_read_late : (b ≡ c → ⊥) → wrong.objects.last ≡ c → RuledOut (request_read.Post κs) (lent x asked, tt) wrong
  unfolding request_of
  request_read_late differ late s p = differ (sym (ap (λ (r : Request). r.objects.last) p) ∙ late)

  -- the two octets of seconds and milliseconds exchanged, if they differ
  request_read_time : (a ≡ b → ⊥) → wrong.time.low ≡ b → RuledOut (request_read.Post κs) (lent x asked, tt) wrong
  unfolding request_of label_b_at
  request_read_time differ swapped s p = differ (sym (ap (λ (r : Request). r.time.low) p) ∙ swapped)

  -- the minute of a label b read one octet early, if the two octets differ
  request_read_early : (b ≡ c → ⊥) → wrong.time.a.minute ≡ b → RuledOut (request_read.Post κs) (lent x asked, tt) wrong
  unfolding request_of label_b_at label_a_at
  request_read_early differ early s p = differ (sym early ∙ ap (λ (r : Request). r.time.a.minute) p)

  -- a password of 24 bits, whatever the octets, if the highest is not 0
  request_read_three : (d ≡ 0 → ⊥) → wrong.password ≡ a + 256 * b + 65536 * c → RuledOut (request_read.Post κs) (lent x asked, tt) wrong
  unfolding request_of low_first
  request_read_three n three s p = n (omega (arith, three, ap (λ (r : Request). r.password) p))

  -- the third octet of the password for its highest, if they differ
  request_read_highest : (c ≡ d → ⊥) → wrong.password ≡ a + 256 * b + 65536 * c + 16777216 * c
      → RuledOut (request_read.Post κs) (lent x asked, tt) wrong
  unfolding request_of low_first
  request_read_highest n twice s p = n (omega (arith, twice, ap (λ (r : Request). r.password) p))

-- the labels of a request: ten octets, behind the header or behind the objects
module _ (κs : Lfts 1) (x : Place) (structure cause low high address from to : ℕ) (m h d n y m' h' d' n' y' : ℕ) (wrong : Request) where
  -- a 122
  abbrev readings : List ℕ
  readings = 122 ∷ structure ∷ cause ∷ low ∷ high ∷ address ∷ from ∷ to ∷ m ∷ h ∷ d ∷ n ∷ y ∷ m' ∷ h' ∷ d' ∷ n' ∷ y' ∷ []

  -- a 102
  abbrev events : List ℕ
  events = 102 ∷ structure ∷ cause ∷ low ∷ high ∷ address ∷ m ∷ h ∷ d ∷ n ∷ y ∷ m' ∷ h' ∷ d' ∷ n' ∷ y' ∷ []

  -- the objects of a 122 read as the first octets of its label, if the first object and the minute differ
  request_read_objects : (from ≡ m → ⊥) → wrong.first.minute ≡ from → RuledOut (request_read.Post κs) (lent x readings, tt) wrong
  unfolding request_of labels_from asks_readings header_of label_a_at
  request_read_objects differ early s p = differ (sym early ∙ ap (λ (r : Request). r.first.minute) p)

  -- the first label of a 122 taken for the last, if their days differ
  request_read_first : (d ≡ d' → ⊥) → wrong.last.day ≡ d → RuledOut (request_read.Post κs) (lent x readings, tt) wrong
  unfolding request_of labels_from asks_readings header_of label_a_at
  request_read_first differ same s p = differ (sym same ∙ ap (λ (r : Request). r.last.day) p)

  -- the last label of a 102 taken for the first, if their days differ
  request_read_last : (d ≡ d' → ⊥) → wrong.first.day ≡ d' → RuledOut (request_read.Post κs) (lent x events, tt) wrong
  unfolding request_of labels_from asks_readings header_of label_a_at
  request_read_last differ same s p = differ (sym (ap (λ (r : Request). r.first.day) p) ∙ same)

  -- a request that has one octet less than was heard
  request_read_short : wrong.octets ≡ 15 → RuledOut (request_read.Post κs) (lent x events, tt) wrong
  unfolding request_of
  request_read_short short s p = omega (arith, short, ap (λ (r : Request). r.octets) p)

-- document 01's password, 12345678 hex, read high octet first
request_read_swapped : (κs : Lfts 1) (x : Place) (wrong : Request) → wrong.password ≡ 0x78563412
    → RuledOut (request_read.Post κs) (lent x (0xB7 ∷ 1 ∷ 6 ∷ 1 ∷ 0 ∷ 0 ∷ 0x78 ∷ 0x56 ∷ 0x34 ∷ 0x12 ∷ []), tt) wrong
unfolding request_of low_first
request_read_swapped κs x wrong swapped s p = omega (arith, swapped, ap (λ (r : Request). r.password) p)

-- a request: its first two octets, its cause octet and all others
module _ (κs : Lfts 0) (type structure octet count : ℕ) (behind : List ℕ) where
  -- the request as it is kept
  abbrev request : Kept
  request = kept (type ∷ structure ∷ octet ∷ behind) count

  -- T lost in a mirror, whatever the request that has it set
  mirrored_t : t_of octet ≡ 1 → RuledOut (mirrored.Post κs) (request, (false, (7, tt))) (kept (type ∷ structure ∷ 7 ∷ behind) count)
  unfolding mirror_of mirror
  mirrored_t set s p = omega (arith, ap (λ (m : Kept). get_or m.octets 2 0) p)

  -- a mirror with P/N 0 where it says no, whatever the request
  mirrored_pn : RuledOut (mirrored.Post κs) (request, (true, (7, tt))) (kept (type ∷ structure ∷ (t_of octet * 128 + 7) ∷ behind) count)
  unfolding mirror_of mirror
  mirrored_pn s p = omega (arith, ap (λ (m : Kept). get_or m.octets 2 0) p)

  -- the request sent back with its own cause, where the mirror's is another
  mirrored_same : octet ≡ 6 → RuledOut (mirrored.Post κs) (request, (false, (7, tt))) request
  unfolding mirror_of mirror
  mirrored_same e s p = omega (arith, ap (λ (m : Kept). get_or m.octets 2 0) p)

  -- a mirror cut to its header, where the request has more octets
  mirrored_cut : (octets : List ℕ) (cause : ℕ) → 6 < count → RuledOut (mirrored.Post κs) (request, (false, (cause, tt))) (kept octets 6)
  unfolding mirror_of
  mirrored_cut octets cause more s p = omega (arith, ap (λ (m : Kept). m.length) p)
