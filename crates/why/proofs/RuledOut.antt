-- What the public contracts of this crate do not allow: two wrong outcomes or more of each.
-- A rule that is named is the first that holds, as document 01 words it. Assumes nothing.
use Prim.Native.Nat.{ℕ, ◌<◌, ◌≤◌}
use mathlib.Core.Bool.{true, false}
use mathlib.Core.List.{List, [], ◌∷◌}
use mathlib.Core.Path.{◌≡◌, sym, ap, ◌∙◌}
use native.Mathlib.Omega.{arith}
use contract.Lifetimes.{Lfts}
use denote.Ref.{Bor}
use lib.ListN.{length, get_or}
use Rattle.octets.specs.declared.Kept.{Kept}
use Rattle.octets.specs.Keeping.{octets_of, kept_of}
use Rattle.octets.specs.Over.{over}
use Rattle.octets.proofs.Keeping.{octets_back}
use Rattle.octets.proofs.Outcome.{RuledOut}
use Rattle.image.specs.Image.{sound_image}
use Rattle.printing.specs.Text.{decimal, figures}
use Rattle.rules.specs.declared.Rule.{Rule}
use Rattle.rules.specs.declared.Rule.TheVariants.{WrongPassword, Accepted}
use Rattle.card.specs.declared.Card.{Card}
use Rattle.std.specs.Prelude.{Ok, Err}
use Rattle.why.specs.declared.Unasked.TheVariants.{MessageLength}
use Rattle.why.specs.Naming.{place_of}
use Rattle.why.specs.Asking.{Why, why_says}
use Rattle.why.specs.Told.{ruled_text, why_line}
use Rattle.why.specs.Stated.{Holds}
use Rattle.why.proofs.Naming.{in_places, places_differ}
use Rattle.why.proofs.Asking.{unsound, too_short, too_long, named_so}
use Rattle.why.proofs.Told.{lines_differ}
use Rattle.why.proofs.Stated.{named_holds}
use Rattle.why.proofs.ask.Reads as ask
use Rattle.why.proofs.place.Reads as place
use Rattle.why.proofs.line.Reads as line

-- two answers are not the same where their numbers are not
other_number : {a b : Why} → a ≡ b → ((why_says a).number ≡ (why_says b).number → ⊥) → ⊥
other_number e other = other (ap (λ w. (why_says w).number) e)

module _ (κs : Lfts 2) (card : Card) (image message : Bor (List ℕ)) (clock : List ℕ) where
  -- an image that is not sound passed over, whatever the message is: its length told of, or a rule named
  ask_unsound : (wrong : Why) → sound_image image.now ≡ false → ((why_says wrong).number ≡ 1 → ⊥) → RuledOut (ask.Post κs) (card, (image, (clock, (message, tt)))) wrong
  ask_unsound wrong e other s p = other_number (p ∙ sym (unsound card.link.session image.now clock message.now e)) other

  -- a rule named of a message of five octets, or that it is accepted
  ask_five : (rule : Rule) → sound_image image.now ≡ true → length message.now < 6 → RuledOut (ask.Post κs) (card, (image, (clock, (message, tt)))) (Ok rule)
  ask_five rule e short s p = other_number (p ∙ sym (too_short card.link.session image.now clock message.now e short)) (λ z. omega (arith, z))

  -- the same of one of 253
  ask_over : (rule : Rule) → sound_image image.now ≡ true → 252 < length message.now → RuledOut (ask.Post κs) (card, (image, (clock, (message, tt)))) (Ok rule)
  ask_over rule e over s p = other_number (p ∙ sym (too_long card.link.session image.now clock message.now e over)) (λ z. omega (arith, z))

  -- a message of 6 octets, or of 252, not asked about
  ask_limits : sound_image image.now ≡ true → 6 ≤ length message.now → length message.now ≤ 252
      → RuledOut (ask.Post κs) (card, (image, (clock, (message, tt)))) (Err MessageLength)
  ask_limits e least most s p = other_number (p ∙ sym (named_so card.link.session image.now clock message.now e least most)) (λ z. omega (arith, z))

  -- a rule named though an earlier one holds, or a message called accepted though one does
  ask_behind : (earlier wrong : Rule) → Holds card.link.session image.now clock message.now earlier → place_of earlier < place_of wrong
      → RuledOut (ask.Post κs) (card, (image, (clock, (message, tt)))) (Ok wrong)
  ask_behind earlier wrong h behind s p = (named_holds card.link.session image.now clock message.now wrong (sym p)).no_earlier earlier behind h

  -- a rule named that does not hold
  ask_idle : (wrong : Rule) → (wrong ≡ Accepted → ⊥) → (Holds card.link.session image.now clock message.now wrong → ⊥)
      → RuledOut (ask.Post κs) (card, (image, (clock, (message, tt)))) (Ok wrong)
  ask_idle wrong refusal idle s p = idle ((named_holds card.link.session image.now clock message.now wrong (sym p)).it_holds refusal)

-- a place that no rule has
place_none : (rule : Rule) → RuledOut (place.Post tt) (rule, tt) 0
place_none rule s p = omega (arith, p, (in_places rule).0)

-- the place of another rule
place_other : (rule other : Rule) → (rule ≡ other → ⊥) → RuledOut (place.Post tt) (rule, tt) (place_of other)
place_other rule other differ s p = differ (places_differ (sym p))

-- the line of another rule, whatever the two are
line_other : (rule other : Rule) → (rule ≡ other → ⊥) → RuledOut (line.Post tt) (Ok rule, tt) (kept_of (why_line (Ok other)))
line_other rule other differ s p =
    differ (sym (lines_differ (sym (octets_back (why_line (Ok other))) ∙ ap octets_of p ∙ octets_back (why_line (Ok rule)))))

-- a cause for an accepted message: why 0 accepted 7 0
line_accepted : RuledOut (line.Post tt) (Ok Accepted, tt)
    (kept_of (119 ∷ 104 ∷ 121 ∷ 32 ∷ 48 ∷ 32 ∷ 97 ∷ 99 ∷ 99 ∷ 101 ∷ 112 ∷ 116 ∷ 101 ∷ 100 ∷ 32 ∷ 55 ∷ 32 ∷ 48 ∷ 10 ∷ []))
unfolding why_line ruled_text kept_of over decimal figures
line_accepted s p = omega (arith, ap (λ (k : Kept). get_or k.octets 15 0) p)

-- P/N 0 for a wrong password: why 0 password 7 0
line_password : RuledOut (line.Post tt) (Ok WrongPassword, tt)
    (kept_of (119 ∷ 104 ∷ 121 ∷ 32 ∷ 48 ∷ 32 ∷ 112 ∷ 97 ∷ 115 ∷ 115 ∷ 119 ∷ 111 ∷ 114 ∷ 100 ∷ 32 ∷ 55 ∷ 32 ∷ 48 ∷ 10 ∷ []))
unfolding why_line ruled_text kept_of over decimal figures
line_password s p = omega (arith, ap (λ (k : Kept). get_or k.octets 17 0) p)

-- the other refusal's number: why 1 - - - for the length of a message
line_refusal : RuledOut (line.Post tt) (Err MessageLength, tt) (kept_of (119 ∷ 104 ∷ 121 ∷ 32 ∷ 49 ∷ 32 ∷ 45 ∷ 32 ∷ 45 ∷ 32 ∷ 45 ∷ 10 ∷ []))
unfolding why_line kept_of over decimal figures
line_refusal s p = omega (arith, ap (λ (k : Kept). get_or k.octets 4 0) p)
