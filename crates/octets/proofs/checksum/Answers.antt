-- `octets::checksum` answers the sum of its octets modulo 256.
-- By the fold over them. Assumes nothing.
use Rattle.std.proofs.Common.{◌≡◌, ◌+◌, ◌%◌, ◌∙◌, fold, rules}
use Rattle.octets.proofs.Sum.{checksum_fold}
use Rattle.octets.proofs.checksum.Goals as goal

pub returns : goal.returns
returns c =
    let folded : c.fold.result ≡ fold (λ sum octet. (sum + octet) % 256) 0 c.args.octets.now = search rules in
    folded ∙ checksum_fold c.args.octets.now
