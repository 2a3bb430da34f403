-- `copy_summed`: the loop. Assumes nothing.
use Rattle.std.proofs.Common.{sym, ◌∙◌, arith}
use Rattle.common.proofs.Buffer.{sets-next, sets_end}
use Rattle.octets.proofs.Putting.{sets_whole}
use Rattle.octets.proofs.Summing.{sum_end, sum_next}
use Rattle.octets.proofs.copy_summed.Goals as goal

pub loop-i-preserved : goal.loop-i-preserved
loop-i-preserved c =
    let l = c.loop-i in
    let h = c.loop-i-test.true in
    (sym (sets-next c.args.octets.now l.out l.i l.i h) ∙ l.invariant.0, omega (arith, sum_next c.args.octets.now l.i h))

pub returns : goal.returns
returns c =
    let l = c.loop-i in
    let h = c.loop-i-test.false in
    record {
      value = omega (arith, sum_end c.args.octets.now l.i h);
      out_after = sym (sets_end c.args.octets.now l.out l.i l.i h) ∙ l.invariant.0 ∙ sets_whole c.args.octets.now c.args.out.now c.requires;
    }
