-- The frame's five pieces one after another.
use Rattle.escapes.specs.Escapes.{writing_of}
use Rattle.framer.proofs.Pieces.{sets_pieces}
use Rattle.framer.proofs.Frame.put.Goals as goal

pub returns-clause-out_after : goal.returns-clause-out_after
returns-clause-out_after c =
    let f = c.args.self in
    let o = c.put_opening-start.ensures in
    let h = c.put_each-first.ensures in
    let x = c.put_octets-last.ensures in
    let t = c.put_each-end.ensures in
    sets_pieces (writing_of c.args.e) f.at_flag f.head.now f.octets.now f.tail.now _ _ _ _ _ _ _ _ _
    o.out_after o.value h.out_after h.value x.out_after x.value t.out_after t.value
