-- Pairs of an octet and its parity bit, one after the other: whether the bits are 00 or 01, and which characters they are.
-- A slice's chunks of two are its pairs. By the first pair. Assumes nothing.
use Rattle.std.proofs.Common.{◌≡◌, ℕ, ◌<◌, List, [], ◌∷◌, ◌++◌, length, slice_index, refl, subst, ap, ◌∙◌, arith, ltb}
use Rattle.std.proofs.lemmas.Iterator.{YieldsList}
use Rattle.std.proofs.lemmas.Iterator.Splits.{YieldsList-from_shown_while}
use Rattle.std.specs.List.{list_all}
use Rattle.std.specs.Slice.Iter.{chunks_exact_steps, chunks_exact_rest, chunks_exact_size}
use Rattle.input.specs.Input.{are_bits}

-- an octet that is left over is no pair
unfoldable pub pairs_in : List ℕ → List (List ℕ)
pairs_in [] = []
pairs_in (octet ∷ []) = []
pairs_in (octet ∷ bit ∷ rest) = (octet ∷ bit ∷ []) ∷ pairs_in rest

no_pairs : (octets : List ℕ) → length octets < 2 → length (pairs_in octets) ≡ 0
unfolding pairs_in
no_pairs [] h = refl
no_pairs (octet ∷ []) h = refl
no_pairs (octet ∷ bit ∷ rest) h = absurd (omega arith)

first_pair : (pair rest : List ℕ) → length pair ≡ 2 → pairs_in (pair ++ rest) ≡ pair ∷ pairs_in rest
unfolding pairs_in
first_pair [] rest h = absurd (omega arith)
first_pair (octet ∷ []) rest h = absurd (omega arith)
first_pair (octet ∷ bit ∷ []) rest h = refl
first_pair (octet ∷ bit ∷ more ∷ others) rest h = absurd (omega arith)

-- the chunks of two
pub pairs_yield : {s : _} (octets : List ℕ) → chunks_exact_rest s ≡ octets → chunks_exact_size s ≡ 2
    → YieldsList (chunks_exact_steps {A = ℕ}) (λ pair. pair.now) s (pairs_in octets)
pairs_yield {s} octets e size =
    subst (λ (l : List ℕ). YieldsList (chunks_exact_steps {A = ℕ}) (λ pair. pair.now) s (pairs_in l)) e
    (YieldsList-from_shown_while chunks_exact_steps (λ pair. pair.now) (λ t. pairs_in (chunks_exact_rest t)) (λ t. chunks_exact_size t ≡ 2)
    (λ t u two step. no_pairs (chunks_exact_rest t) (omega (arith, two, step.1.0)))
    (λ t pair u two step. (step.0 ∙ two, ap pairs_in step.1.0 ∙ first_pair pair.now (chunks_exact_rest u) (step.1.1 ∙ two)))
    s size)

pub bits_of_pairs : (octets : List ℕ) → list_all (λ pair. ltb (slice_index pair 1) 2) (pairs_in octets) ≡ are_bits octets
unfolding pairs_in are_bits
bits_of_pairs [] = refl
bits_of_pairs (octet ∷ []) = refl
bits_of_pairs (octet ∷ bit ∷ rest) = rw (bits_of_pairs rest)
