use Rattle.std.proofs.Common.{length, get_or, ap, arith, length-append}
use Rattle.escapes.specs.Escapes.{writing_of}
use Rattle.framing.proofs.Escaping.{length-escaped_one, escaped_end, escaped_next}
use Rattle.framer.proofs.room.escape_count.Goals as goal

pub overflow_add-n : goal.overflow_add-n
overflow_add-n c =
    let s = c.args in
    let most = length-escaped_one (writing_of s.e) (get_or s.octets.now c.loop-x.x-index 0) in
    omega (arith, c.one_if_escaped-n.ensures)

pub loop-x-preserved : goal.loop-x-preserved
loop-x-preserved c =
    let s = c.args in
    let l = c.loop-x in
    let most = length-escaped_one (writing_of s.e) (get_or s.octets.now l.x-index 0) in
    let next = escaped_next (writing_of s.e) s.octets.now l.x-index c.loop-x-test.true in
    omega (arith, c.one_if_escaped-n.ensures, simp length-append at (ap length next))

pub returns : goal.returns
returns c =
    let s = c.args in
    omega (arith, ap length (escaped_end (writing_of s.e) s.octets.now c.loop-x.x-index c.loop-x-test.false))
