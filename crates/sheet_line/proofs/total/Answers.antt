-- `sheet_line::total`: one count more, and none left.
use Rattle.std.proofs.Common.{arith}
use Rattle.octets.proofs.Summing.{sum_end, sum_next}
use Rattle.sheet_line.proofs.total.Goals as goal

pub loop-count-preserved : goal.loop-count-preserved
loop-count-preserved c =
    let at = c.loop-count.count-index in
    let n = sum_next c.args.counts.now at c.loop-count-test.true in
    omega (arith, n, c.from-total.ensures, c.type_inv.counts at)

pub returns : goal.returns
returns c = omega (arith, c.loop-count.invariant.1, sum_end c.args.counts.now c.loop-count.count-index c.loop-count-test.false)
