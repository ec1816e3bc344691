-- Every public contract of this crate leaves one outcome; and cards with the same session are answered alike, whatever waits, is remembered, collected or counted.
-- By its one equation. Assumes nothing.
use Prim.Native.Nat.{ℕ}
use mathlib.Core.List.{List}
use mathlib.Core.Path.{◌≡◌, ap, sym, ◌∙◌}
use denote.Ref.{Bor}
use Rattle.octets.proofs.Outcome.{OneResult, one_outcome}
use Rattle.rules.specs.declared.Session.{Session}
use Rattle.card.specs.declared.Card.{Card}
use Rattle.why.specs.Asking.{Why, why_of}
use Rattle.why.proofs.ask.Reads as ask
use Rattle.why.proofs.place.Reads as place
use Rattle.why.proofs.line.Reads as line

ask_one : OneResult ask.Post
ask_one κs a r r' s s' = one_outcome

place_one : OneResult place.Post
place_one κs a r r' s s' = one_outcome

line_one : OneResult line.Post
line_one κs a r r' s s' = one_outcome

-- "waiting replies are not looked at"
abbrev SessionOnly {ℓ γ} : {K : Type ℓ} {S : K → Type γ} → ((κs : K) → Card × (Bor (List ℕ) × (List ℕ × (Bor (List ℕ) × Unit {0}))) → Why → S κs → Type 0) → Type (ℓ ⊔ γ)
SessionOnly {K = K} {S} Post =
    (κs : K) (card other : Card) (image message : Bor (List ℕ)) (clock : List ℕ) (r r' : Why) (s s' : S κs) → card.link.session ≡ other.link.session
    → Post κs (card, (image, (clock, (message, tt)))) r s → Post κs (other, (image, (clock, (message, tt)))) r' s' → r ≡ r'

ask_session_only : SessionOnly ask.Post
ask_session_only κs card other image message clock r r' s s' same p q =
    p ∙ ap (λ (session : Session). why_of session image.now clock message.now) same ∙ sym q
