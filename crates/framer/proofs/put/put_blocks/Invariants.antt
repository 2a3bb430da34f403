-- What is left, put down from here, gives the whole.
use Rattle.std.proofs.Common.{◌≡◌, ◌+◌, ◌%◌, length}
use lib.Seq.{sets}
use Rattle.framing.specs.Writing.{escaped}
use Rattle.escapes.specs.Escapes.{writing_of}
use Rattle.framer.proofs.put.put_blocks.Given as goal

abbrev pub invariant-loop-i : goal.invariant-loop-i
invariant-loop-i l =
    let blocks = l.i-iterator.iter in
    let whole = escaped (writing_of l.e) l.octets in
    let left = escaped (writing_of l.e) blocks.rest.now in
    (length l.out ≡ length l.initial.out) × (blocks.size ≡ 8) × (length blocks.rest.now % 8 ≡ 0)
    × (l.to + length left ≡ l.at + length whole) × (sets l.out l.to left ≡ sets l.initial.out l.at whole)
