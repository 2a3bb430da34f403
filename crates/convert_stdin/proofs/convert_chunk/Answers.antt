-- `convert_stdin::convert_chunk` is safe and ends: a call takes no more than is left, and where it takes nothing the loop ends. Assumes nothing.
use Rattle.std.proofs.Common.{◌+◌, ◌≤◌, ◌∙◌, arith, length}
use Rattle.convert_stdin.proofs.Taken.{taken_rest}
use Rattle.convert_stdin.proofs.convert_chunk.Goals as goal

pub overflow_add-i : goal.overflow_add-i
overflow_add-i c =
    let within : c.loop-i.i + c.in-Ok.converted.taken ≤ length c.args.chunk.now = (let l = c.loop-i in taken_rest l.converter c.args.chunk.now l.buffer l.out l.i _ l.invariant.0 c.in-Ok.ensures.value) in
    omega (arith, within)

pub loop-i-smaller : goal.loop-i-smaller
loop-i-smaller c =
    let within : c.loop-i.i + c.in-Ok.converted.taken ≤ length c.args.chunk.now = (let l = c.loop-i in taken_rest l.converter c.args.chunk.now l.buffer l.out l.i _ l.invariant.0 c.in-Ok.ensures.value) in
    omega (arith, c.if-converted-eq0.false, within)

pub loop-i-preserved : goal.loop-i-preserved
loop-i-preserved c =
    let within : c.loop-i.i + c.in-Ok.converted.taken ≤ length c.args.chunk.now = (let l = c.loop-i in taken_rest l.converter c.args.chunk.now l.buffer l.out l.i _ l.invariant.0 c.in-Ok.ensures.value) in
    let k = c in
    let l = k.loop-i in
    (within, k.convert.auto.buffer ∙ l.invariant.1, k.convert.auto.out ∙ l.invariant.2)
