-- `sums::sum_chunks`: one chunk more, and nothing left.
use Rattle.std.proofs.Common.{◌∙◌}
use Rattle.std.specs.Slice.Iter.{chunks_rest}
use Rattle.sums.proofs.Sum.{sum_none}
use Rattle.sums.proofs.Totals.{chunk_added}
use Rattle.sums.proofs.sum_chunks.Goals as goal

pub loop-chunk-preserved : goal.loop-chunk-preserved
loop-chunk-preserved c =
    let l = c.loop-chunk in
    let t = c.total in
    let steps = c.in-Some.ensures.steps in
    let left = chunks_rest c.next.new.self in
    let e = chunk_added l.sum c.in-Some.chunk.now left t.result l.invariant.in_range t.ensures in
    record {
      in_range = c.reduce-sum.type_inv;
      size = steps.0 ∙ l.invariant.size;
      so_far = cc;
    }

pub returns : goal.returns
returns c = cc (sum_none c.loop-chunk.sum (chunks_rest c.loop-chunk.chunk-iterator) c.in-None.ensures.steps.1.0)
