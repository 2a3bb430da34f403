-- `fcs::feed_pair`: the division of two octets.
use Rattle.std.proofs.Common.{arith}
use Rattle.fcs.proofs.Words.{pair_shift, pair_fed}
use Rattle.fcs.proofs.feed_pair.Goals as goal

pub returns : goal.returns
unfolding pair_shift
returns c =
    pair_fed c.args.register c.from_le_bytes.result c.args.octets.now (omega arith) (λ i. omega (arith, c.type_inv.octets i)) c.requires c.from_le_bytes.ensures
