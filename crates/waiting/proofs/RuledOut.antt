-- What the public contracts of this crate do not allow: two wrong outcomes or more of each.
-- By what waits, whatever the image, the request and the clock. Assumes nothing.
use Rattle.std.specs.Prelude.{Some, None}
use Prim.Native.Nat.{ℕ, ◌+◌, ◌%◌, ◌<◌}
use mathlib.Core.Bool.{true, false, false≢true}
use mathlib.Core.List.{List, ◌∷◌}
use mathlib.Core.Path.{◌≡◌, sym, ap, ◌∙◌}
use native.Mathlib.Omega.{arith}
use contract.Lifetimes.{Lfts}
use borrow.Author.Tests.{ne_eqb}
use lib.ListN.{get_or, drop}
use Rattle.octets.specs.Numbers.{low_octets}
use Rattle.octets.specs.Over.{over}
use Rattle.octets.proofs.Outcome.{RuledOut, Place, lent, never}
use Rattle.fields.specs.declared.Identity.{Identity as Meter}
use Rattle.fields.specs.Answers.{identity_found, dates_found}
use Rattle.choice.specs.declared.Query.TheVariants.{Reading}
use Rattle.choice.specs.Choice.{choice}
use Rattle.octets.specs.declared.Kept.{Kept}
use Rattle.message.specs.Headers.{t_of, cause_octet, header_octets}
use Rattle.octets.specs.Keeping.{kept_of}
use Rattle.message.specs.Mirror.{mirror, mirror_of}
use Rattle.message.specs.Requests.{objects_offered, objects_many}
use Rattle.rules.specs.Decide.{span_of}
use Rattle.data.specs.Messages.{reply_header, identity_reply, clock_reply, reading_reply}
use Rattle.data.specs.Portions.{portion, reading_portion, next_reading}
use Rattle.deeds.specs.declared.Waiting.{Waiting}
use Rattle.deeds.specs.declared.Waiting.TheVariants.{NoReply, Mirror, Denied, Begin, More, Type71, Type72, Type131}
use Rattle.deeds.specs.declared.Pending.{Pending}
use Rattle.deeds.specs.Deeds.{nothing_pending, is_waiting}
use Rattle.waiting.specs.declared.Next.{Next}
use Rattle.waiting.specs.NextReply.{asked, firstly, lastly, nothing_found, reading_type, data_pending, mirror_with, clock_from, data_from, after_data, begin_with, next_of, is_given, message_in}
use Rattle.waiting.proofs.Found.{found_waiting}
use Rattle.waiting.proofs.next_reply.Reads as next_reply

-- a request whose cause octet is c, and of which anything else may be
module _ (κs : Lfts 1) (x : Place) (a b c : ℕ) (rest : List ℕ) (long : ℕ) (clock image : List ℕ) (wrong : Next) where
  -- the request, and what waits with it
  abbrev request : Kept
  request = record { octets = a ∷ b ∷ c ∷ rest; length = long }

  abbrev held : Waiting → Pending
  held w = record { waiting = w; request = request; clock = clock }

  -- the cause octet of the reply
  abbrev cause_there : ℕ
  cause_there = get_or (message_in wrong).octets 2 0

  -- a reply given where nothing waits
  next_reply_nothing : is_given wrong ≡ true → RuledOut (next_reply.Post κs) (held NoReply, (lent x image, tt)) wrong
  unfolding next_of nothing_found
  next_reply_nothing found s p = false≢true (sym (ap (λ (next : Next). is_given next) p) ∙ found)

  -- no reply given where one waits, whatever waits
  next_reply_waiting : (w : Waiting) → is_waiting w ≡ true → is_given wrong ≡ false → RuledOut (next_reply.Post κs) (held w, (lent x image, tt)) wrong
  unfolding next_of
  next_reply_waiting w waits none s p = false≢true (sym none ∙ ap (λ (next : Next). is_given next) p ∙ found_waiting request clock image w ∙ waits)

  -- mirror 7 where mirror 10 is due
  next_reply_last_seven : (n : ℕ) → (data_from request image n).many ≡ 0 → cause_there ≡ cause_octet (t_of c) 0 7
      → RuledOut (next_reply.Post κs) (held (More n), (lent x image, tt)) wrong
  unfolding next_of after_data mirror_with lastly firstly mirror_of mirror
  next_reply_last_seven n none seven s p = omega (arith, ap (λ (next : Next). get_or (message_in next).octets 2 0) (rw none at p))

  -- mirror 7 with P/N 0 where P/N 1 is due
  next_reply_denied : cause_there ≡ cause_octet (t_of c) 0 7 → RuledOut (next_reply.Post κs) (held Denied, (lent x image, tt)) wrong
  unfolding next_of mirror_with lastly firstly mirror_of mirror
  next_reply_denied zero s p = omega (arith, ap (λ (next : Next). get_or (message_in next).octets 2 0) p)

  -- a mirror with P/N 1 where P/N 0 is due, whatever the cause
  next_reply_mirror_pn : (cause : ℕ) → cause_there ≡ cause_octet (t_of c) 1 (cause % 64)
      → RuledOut (next_reply.Post κs) (held (Mirror cause), (lent x image, tt)) wrong
  unfolding next_of mirror_with lastly firstly mirror_of mirror
  next_reply_mirror_pn cause one s p = omega (arith, ap (λ (next : Next). get_or (message_in next).octets 2 0) p)

  -- a mirror that loses T, whatever the cause
  next_reply_mirror_t : (cause : ℕ) → t_of c ≡ 1 → cause_there ≡ cause_octet 0 0 (cause % 64)
      → RuledOut (next_reply.Post κs) (held (Mirror cause), (lent x image, tt)) wrong
  unfolding next_of mirror_with lastly firstly mirror_of mirror
  next_reply_mirror_t cause set lost s p = omega (arith, ap (λ (next : Next). get_or (message_in next).octets 2 0) p)

  -- a mirror that still waits when it has been given
  next_reply_mirror_kept : (cause : ℕ) → is_waiting wrong.pending.waiting ≡ true
      → RuledOut (next_reply.Post κs) (held (Mirror cause), (lent x image, tt)) wrong
  unfolding next_of mirror_with lastly firstly mirror_of mirror nothing_pending
  next_reply_mirror_kept cause kept s p = false≢true (sym (ap (λ (next : Next). is_waiting next.pending.waiting) p) ∙ kept)

  -- a mirror with another type than the request's
  next_reply_mirror_octet : (cause : ℕ) → (get_or (message_in wrong).octets 0 0 ≡ a → ⊥)
      → RuledOut (next_reply.Post κs) (held (Mirror cause), (lent x image, tt)) wrong
  unfolding next_of mirror_with lastly firstly mirror_of mirror
  next_reply_mirror_octet cause other s p = other (ap (λ (next : Next). get_or (message_in next).octets 0 0) p)

  -- no data waiting behind mirror 7
  next_reply_begin : wrong.pending.waiting ≡ NoReply → RuledOut (next_reply.Post κs) (held Begin, (lent x image, tt)) wrong
  unfolding next_of begin_with firstly data_pending
  next_reply_begin none s p = never (cc (ap (λ (next : Next). next.pending.waiting) p))

  -- a count that stays though data is given, so that the same is given for ever
  next_reply_count : (n : ℕ) → 0 < (data_from request image n).many → wrong.pending.waiting ≡ More n
      → RuledOut (next_reply.Post κs) (held (More n), (lent x image, tt)) wrong
  unfolding next_of after_data firstly data_pending
  next_reply_count n some stays s p =
      let handed : wrong ≡ firstly (data_from request image n).message (data_pending request clock (n + (data_from request image n).many)) =
      rw (ne_eqb (data_from request image n).many 0 (λ e. omega arith)) at p in
      let same : n + (data_from request image n).many ≡ n = cc (ap (λ (next : Next). next.pending.waiting) handed) in
      omega arith

  -- type 11 for a 122
  next_reply_122 : (n : ℕ) (r : List ℕ) (rs : List (List ℕ)) → (asked request).header.type_id ≡ 122 → objects_offered (asked request).objects ≡ true
      → drop n (choice (Reading (span_of (asked request))) image) ≡ r ∷ rs → get_or (message_in wrong).octets 0 0 ≡ 11
      → RuledOut (next_reply.Post κs) (held (More n), (lent x image, tt)) wrong
  unfolding next_of after_data firstly data_from reading_type next_reading reading_portion portion kept_of over reading_reply reply_header header_octets
  next_reply_122 n r rs type offered left eleven s p = omega (arith, ap (λ (next : Next). get_or (message_in next).octets 0 0) (rw (left, type, offered) at p))

  -- another N than that of the objects in the request that is kept
  next_reply_objects : (n : ℕ) (r : List ℕ) (rs : List (List ℕ)) → ((asked request).header.type_id ≡ 102 → ⊥) → objects_offered (asked request).objects ≡ true
      → drop n (choice (Reading (span_of (asked request))) image) ≡ r ∷ rs → (get_or (message_in wrong).octets 1 0 ≡ objects_many (asked request).objects → ⊥)
      → RuledOut (next_reply.Post κs) (held (More n), (lent x image, tt)) wrong
  unfolding next_of after_data firstly data_from next_reading reading_portion portion kept_of over reading_reply reply_header header_octets
  next_reply_objects n r rs other offered left differ s p =
      differ (ap (λ (next : Next). get_or (message_in next).octets 1 0) (rw (left, ne_eqb _ 102 other, offered) at p))

  -- 71 with another maker than the image's
  next_reply_identity : (h : Meter) → identity_found image ≡ Some h → (get_or (message_in wrong).octets 7 0 ≡ h.maker → ⊥)
      → RuledOut (next_reply.Post κs) (held Type71, (lent x image, tt)) wrong
  unfolding next_of lastly firstly kept_of over identity_reply reply_header header_octets low_octets
  next_reply_identity h is other s p = other (ap (λ (next : Next). get_or (message_in next).octets 7 0) (rw is at p))

  -- mirror 13 for a 131 without switch dates
  next_reply_dates : dates_found image ≡ None → cause_there ≡ cause_octet (t_of c) 0 13
      → RuledOut (next_reply.Post κs) (held Type131, (lent x image, tt)) wrong
  unfolding next_of mirror_with lastly firstly mirror_of mirror
  next_reply_dates none thirteen s p = omega (arith, ap (λ (next : Next). get_or (message_in next).octets 2 0) (rw none at p))

  -- type 71 where 72 waits
  next_reply_clock : get_or (message_in wrong).octets 0 0 ≡ 71 → RuledOut (next_reply.Post κs) (held Type72, (lent x image, tt)) wrong
  unfolding next_of clock_from lastly firstly kept_of over clock_reply reply_header header_octets
  next_reply_clock other s p = omega (arith, ap (λ (next : Next). get_or (message_in next).octets 0 0) p)
