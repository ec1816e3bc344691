-- `octet_by_octet` gives each octet to the card.
-- By the fold over them. Assumes nothing.
use Rattle.std.proofs.Common.{◌∙◌, rules}
use Rattle.std.proofs.lemmas.Iterator.{YieldsList-from_slice}
use Rattle.std.proofs.lemmas.Iterator.Consumers.{fold_from_yields_List}
use Rattle.card.specs.State.{with_octet}
use Rattle.driving.proofs.Stepping.{octets_fold}
use Rattle.driving.proofs.octet_by_octet.Goals as goal

pub returns : goal.returns
returns c =
    let s = c.args.octets.now in
    fold_from_yields_List _ with_octet _ _ c.fold.ensures.ran (YieldsList-from_slice s cc) (λ a x b q d. search rules) ∙ octets_fold c.args.card s
