-- `pair_by_pair` gives each character to the card.
-- By the fold over the pairs. Assumes nothing.
use Rattle.std.proofs.Common.{◌∙◌, rules}
use Rattle.std.proofs.lemmas.Iterator.Consumers.{fold_from_yields_List}
use Rattle.input.proofs.Pairs.{pairs_yield}
use Rattle.driving.proofs.Stepping.{with_pair, pairs_fold}
use Rattle.driving.proofs.pair_by_pair.Goals as goal

pub returns : goal.returns
returns c =
    let s = c.args.pairs.now in
    fold_from_yields_List _ with_pair _ _ c.fold.ensures.ran (pairs_yield s c.chunks_exact.ensures.rest c.chunks_exact.ensures.size) (λ a x b q d. search rules) ∙ pairs_fold c.args.card s
