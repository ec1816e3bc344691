-- What is given next, as the code comes to it: the chosen that are left from a found place on, one reading of them, or events one by one.
-- By the laws of the choice. Assumes nothing.
use Rattle.std.specs.Prelude.{Option, Some, None}
use Prim.Native.Nat.{ℕ, suc, ◌+◌, ◌≤◌, ◌<◌}
use mathlib.Core.Bool.{true, false}
use mathlib.Core.List.{List, [], ◌∷◌, ◌++◌, append_assoc, append-nil}
use mathlib.Core.Path.{◌≡◌, refl, sym, ap, ap₂, ◌∙◌}
use native.Mathlib.Omega.{arith}
use borrow.Author.Tests.{eqb-true}
use lib.ListN.{length, take, drop, length-append, length-take, length-drop, drop_of_length-le}
use lib.Seq.{drop-cons, drop-drop, take-add, take_all}
use Rattle.octets.proofs.Conditions.{and_left}
use Rattle.records.specs.Records.{kind_of, record_at, kind_at, place_after}
use Rattle.records.specs.Said.{how_many}
use Rattle.records.proofs.Records.{kind_there, kind_whole}
use Rattle.fields.specs.Parts.{is_kind}
use Rattle.fields.specs.Answers.{records_of}
use Rattle.choice.specs.declared.Span.{Span}
use Rattle.choice.specs.declared.Query.{Query}
use Rattle.choice.specs.declared.Query.TheVariants.{Reading, Event}
use Rattle.choice.specs.Choice.{chosen, choice}
use Rattle.choice.specs.Calls.{places_from, nth_place}
use Rattle.choice.proofs.Chosen.{number_all}
use Rattle.choice.proofs.Laws.{nothing_nth, found_there, goes_on}
use Rattle.octets.specs.declared.Kept.{Kept}
use Rattle.octets.specs.Keeping.{octets_of, kept_of}
use Rattle.octets.specs.Calls.{added}
use Rattle.octets.proofs.Keeping.{octets_back}
use Rattle.message.specs.declared.ObjectRange.{ObjectRange}
use Rattle.message.specs.Requests.{objects_offered}
use Rattle.data.specs.declared.Portion.{Portion}
use Rattle.data.specs.Messages.{reply_header, reading_reply, event_octets, events_octets, events_reply}
use Rattle.data.specs.Portions.{portion, reading_portion, events_portion, next_reading}
use Rattle.data.proofs.Messages.{event_length, events_octets_length}
use Rattle.data.proofs.Written.{with_more, header_and}

-- the chosen that are left: the one found and those behind it, or none
module _ (query : Query) (image : List ℕ) (n : ℕ) where
  left_some : (at : ℕ) → nth_place n (places_from query image 1) ≡ Some at
      → drop n (choice query image) ≡ record_at image at ∷ drop (suc n) (choice query image)
  unfolding choice records_of how_many
  left_some at e =
      let f = found_there query image 1 n at e in
      drop-cons (choice query image) n [] f.counted ∙ ap (λ (r : List ℕ). r ∷ drop (suc n) (choice query image)) f.nth_chosen

  left_none : nth_place n (places_from query image 1) ≡ None → drop n (choice query image) ≡ []
  left_none e =
      let past : length (choice query image) ≤ n = omega (arith, nothing_nth n (places_from query image 1) e, number_all query image) in
      drop_of_length-le (choice query image) past

  -- what is found is of the kind that was looked for
  kind_found : (at kind : ℕ) → (chosen query (record_at image at) ≡ true → is_kind kind (record_at image at) ≡ true)
      → nth_place n (places_from query image 1) ≡ Some at → kind_at image at ≡ kind
  kind_found at kind so e =
      let f = found_there query image 1 n at e in
      let w = f.whole_there in
      kind_whole image at w ∙ sym (kind_there image at w) ∙ eqb-true (kind_of (record_at image at)) kind (so f.is_chosen)

module _ (span : Span) (image : List ℕ) (n at : ℕ) where
  pub reading_found : nth_place n (places_from (Reading span) image 1) ≡ Some at → kind_at image at ≡ 4
  unfolding chosen
  reading_found = kind_found (Reading span) image n at 4 (and_left _ _)

  pub event_found_law : nth_place n (places_from (Event span) image 1) ≡ Some at → kind_at image at ≡ 5
  unfolding chosen
  event_found_law = kind_found (Event span) image n at 5 (and_left _ _)

-- nothing given
pub nothing_given : {m : Kept} → m ≡ kept_of [] → record { message = m; many = 0 } ≡ portion [] 0
unfolding portion
nothing_given g = rw g

-- the next reading with the objects that are asked for, or that none is left, or that they are not offered
module _ (type : ℕ) (span : Span) (objects : ObjectRange) (image : List ℕ) (before : ℕ) where
  pub not_offered : {given : Portion} → objects_offered objects ≡ false → given ≡ portion [] 0 → given ≡ next_reading type span objects image before
  unfolding next_reading
  not_offered o g = rw o g

  module _ (o : objects_offered objects ≡ true) {found : Option ℕ} (f : found ≡ nth_place before (places_from (Reading span) image 1)) where
    pub no_reading : {given : Portion} → found ≡ None → given ≡ portion [] 0 → given ≡ next_reading type span objects image before
    unfolding next_reading reading_portion
    no_reading e g = rw (o, left_none (Reading span) image before (sym f ∙ e)) g

    pub some_reading : {m : Kept} (at : ℕ) → found ≡ Some at → m ≡ kept_of (reading_reply type span.point span.record_address objects (record_at image at))
        → record { message = m; many = 1 } ≡ next_reading type span objects image before
    unfolding next_reading reading_portion portion
    some_reading at e g = rw (o, left_some (Reading span) image before at (sym f ∙ e), g)

-- one more event
events_append : (rs qs : List (List ℕ)) → events_octets (rs ++ qs) ≡ events_octets rs ++ events_octets qs
unfolding events_octets
events_append [] qs = refl
events_append (r ∷ rs) qs = rw append_assoc (ap (event_octets r ++◌) (events_append rs qs))

-- events' octets without their header: up to 27 of those that are left
abbrev pub gathered_of : List (List ℕ) → Portion
gathered_of rs = portion (events_octets (take 27 rs)) (length (take 27 rs))

-- so many of them are gathered, and where the next is
pub record Gathered (query : Query) (image : List ℕ) (before : ℕ) (message : Kept) (many : ℕ) (found : Option ℕ) : Type 0 where
  pub octets : message ≡ kept_of (events_octets (take many (drop before (choice query image))))
  pub number : length (take many (drop before (choice query image))) ≡ many
  pub next : found ≡ nth_place (before + many) (places_from query image 1)

module _ (query : Query) (image : List ℕ) (before : ℕ) where
  pub none_yet : {message : Kept} {found : Option ℕ} → message ≡ kept_of [] → found ≡ nth_place before (places_from query image 1)
      → Gathered query image before message 0 found
  unfolding events_octets
  none_yet e f =
      let here : before + 0 ≡ before = omega arith in
      record { octets = e; number = refl; next = rw here f }

  pub one_more : (many at : ℕ) {message message' : Kept} {found found' : Option ℕ} {part : List ℕ} {after : ℕ} → many < 27
      → Gathered query image before message many found → found ≡ Some at → message' ≡ added message part
      → part ≡ event_octets (record_at image at) → after ≡ place_after image at → found' ≡ nth_place 0 (places_from query image after)
      → Gathered query image before message' (many + 1) found'
  unfolding events_octets
  one_more many at few g e f p a n =
      let rs : List (List ℕ) = take many (drop before (choice query image)) in
      let place : nth_place (before + many) (places_from query image 1) ≡ Some at = sym g.next ∙ e in
      let more : take (many + 1) (drop before (choice query image)) ≡ rs ++ (record_at image at ∷ []) =
      take-add many 1 (drop before (choice query image)) ∙ rw (drop-drop many before (choice query image), left_some query image (before + many) at place) in
      let further : before + (many + 1) ≡ suc (before + many) = omega arith in
      record {
        octets =
            rw (more, events_append rs (record_at image at ∷ []), append-nil (event_octets (record_at image at)))
            (with_more (events_octets rs) (event_octets (record_at image at)) g.octets f p
            (omega (arith, events_octets_length rs, event_length (record_at image at), g.number)));
        number = rw (more, length-append rs (record_at image at ∷ [])) (omega (arith, g.number));
        next = rw further ((rw a at n) ∙ goes_on query image 1 (before + many) at place);
      }

  -- and when no more are taken
  all_gathered : (many : ℕ) {message : Kept} {found : Option ℕ} → Gathered query image before message many found
      → take many (drop before (choice query image)) ≡ take 27 (drop before (choice query image))
      → record { message = message; many = many } ≡ gathered_of (drop before (choice query image))
  unfolding portion
  all_gathered many g e = rw (← e) (ap₂ (λ (m : Kept) (n : ℕ). record { message = m; many = n }) g.octets (sym g.number))

  pub none_left : (many : ℕ) {message : Kept} {found : Option ℕ} → many ≤ 27 → Gathered query image before message many found → found ≡ None
      → record { message = message; many = many } ≡ gathered_of (drop before (choice query image))
  none_left many few g e =
      let rs : List (List ℕ) = drop before (choice query image) in
      let none : drop many rs ≡ [] = drop-drop many before (choice query image) ∙ left_none query image (before + many) (sym g.next ∙ e) in
      let past : length rs ≤ many = omega (arith, sym (length-drop many rs) ∙ ap length none) in
      all_gathered many g (take_all many rs past ∙ sym (take_all 27 rs (omega arith)))

  pub as_many_as_fit : (many : ℕ) {message : Kept} {found : Option ℕ} → many ≡ 27 → Gathered query image before message many found
      → record { message = message; many = many } ≡ gathered_of (drop before (choice query image))
  as_many_as_fit many e g = all_gathered many g (rw e)

-- N fits its octet
pub few_events : (rs : List (List ℕ)) {g : Portion} → g ≡ gathered_of rs → g.many ≤ 27
unfolding portion
few_events rs e = omega (arith, ap (λ (g : Portion). g.many) e, length-take 27 rs)

-- the events that are left, with the header before them, or that none is left
pub no_events : (span : Span) (rs : List (List ℕ)) {g : Portion} → g ≡ gathered_of rs → g.many ≡ 0
    → g ≡ events_portion span rs
unfolding portion events_portion events_octets
no_events span [] e z = e
no_events span (r ∷ rs) e z = absurd (omega (arith, ap (λ (g : Portion). g.many) e))

pub some_events : (span : Span) (rs : List (List ℕ)) {g : Portion} {head m : Kept} → g ≡ gathered_of rs
    → (g.many ≡ 0 → ⊥) → head ≡ kept_of (reply_header 1 g.many span.point span.record_address) → m ≡ added head (octets_of g.message)
    → record { message = m; many = g.many } ≡ events_portion span rs
unfolding portion events_portion events_reply
some_events span [] e n h f = absurd (n (ap (λ (g : Portion). g.many) e))
some_events span (r ∷ rs) {g} {head} {m} e n h f =
    let now : List (List ℕ) = take 27 (r ∷ rs) in
    let number : g.many ≡ length now = ap (λ (g : Portion). g.many) e in
    let octets : octets_of g.message ≡ events_octets now = ap (λ (g : Portion). octets_of g.message) e ∙ octets_back (events_octets now) in
    let fits : length (events_octets now) ≤ 246 = omega (arith, events_octets_length now, length-take 27 (r ∷ rs)) in
    ap₂ (λ (m : Kept) (n : ℕ). record { message = m; many = n })
    (header_and 1 (length now) span.point span.record_address (events_octets now) (rw number at h) f octets fits) number
