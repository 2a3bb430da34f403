-- `framer::put::put_either` meets its contract. Assumes nothing.
use Rattle.std.proofs.Common.{arith, length-set}
use Rattle.escapes.specs.Escapes.{writing_of}
use Rattle.framer.proofs.Either.{into_either}
use Rattle.framing.proofs.Escaping.{length-escaped_one}
use Rattle.framer.proofs.put.put_either.Goals as goal

pub bounds-out-next : goal.bounds-out-next
bounds-out-next c =
    let start = c in
    let s = start.args in
    omega (arith, (length-escaped_one (writing_of s.e) s.x).0, start.requires)

pub bounds-out-next-2 : goal.bounds-out-next-2
bounds-out-next-2 c =
    let start = c in
    let s = start.args in
    simp length-set (omega (arith, (length-escaped_one (writing_of s.e) s.x).0, start.requires))

pub overflow_add-result : goal.overflow_add-result
overflow_add-result c =
    let start = c in
    omega (arith, c.one_if_escaped.ensures, start.requires, start.well_formed.1.1.0)

pub returns : goal.returns
returns c =
    let s = c.args in
    record {
      value = omega (arith, c.one_if_escaped.ensures);
      out_after = rw (c.second.ensures, c.first.ensures) (into_either (writing_of s.e) s.x s.out.now s.at);
    }
