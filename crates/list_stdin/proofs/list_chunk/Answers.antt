-- `list_stdin::list_chunk` is safe and ends: a call takes no more than is left, and where it takes nothing the loop ends. Assumes nothing.
use Rattle.std.proofs.Common.{◌∙◌, arith}
use Rattle.lister.proofs.Lines.{list_taken_rest}
use Rattle.list_stdin.proofs.list_chunk.Goals as goal

pub overflow_add-i : goal.overflow_add-i
overflow_add-i c =
    let l = c.loop-i in
    omega (arith, list_taken_rest l.lister c.args.chunk.now l.buffer l.out l.i _ l.invariant.0 c.in-Ok.ensures.value)

pub loop-i-smaller : goal.loop-i-smaller
loop-i-smaller c =
    let l = c.loop-i in
    omega (arith, c.if-listed-eq0.false, list_taken_rest l.lister c.args.chunk.now l.buffer l.out l.i _ l.invariant.0 c.in-Ok.ensures.value)

pub loop-i-preserved : goal.loop-i-preserved
loop-i-preserved c =
    let l = c.loop-i in
    let a = c.list in
    (list_taken_rest l.lister c.args.chunk.now l.buffer l.out l.i _ l.invariant.0 c.in-Ok.ensures.value, a.auto.buffer ∙ l.invariant.1, a.auto.out ∙ l.invariant.2)
