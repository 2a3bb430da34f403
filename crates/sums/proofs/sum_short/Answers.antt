-- `sums::sum_short`: the words by their total, and then the octets that are left.
use Rattle.std.proofs.Common.{arith}
use Rattle.sums.proofs.Totals.{chunk_added}
use Rattle.sums.proofs.sum_short.Goals as goal

pub returns : goal.returns
returns c =
    let xs = c.args.octets.now in
    let p = c.split_at.result in
    let e = chunk_added 0 p.0.now p.1.now c.total_words.result (omega arith) c.total_words.ensures.totals in
    let k = c.split_at.ensures in
    cc
