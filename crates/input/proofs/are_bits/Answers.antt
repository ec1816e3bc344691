-- `are_bits` answers whether every second octet is a parity bit.
-- It asks it of each pair. Assumes nothing.
use Rattle.std.proofs.Common.{ltb, slice_index, ◌∙◌, rules, tests}
use Rattle.std.proofs.lemmas.Iterator.Search.{all_from_yields_List}
use Rattle.input.proofs.Pairs.{pairs_yield, bits_of_pairs}
use Rattle.input.proofs.are_bits.Goals as goal

pub returns : goal.returns
returns c =
    let s = c.args.pairs.now in
    all_from_yields_List (λ pair. ltb (slice_index pair 1) 2) _ _ _ c.all.ensures.ran (pairs_yield s c.chunks_exact.ensures.rest c.chunks_exact.ensures.size) (λ x b q d. search (rules, tests)) ∙ bits_of_pairs s
