-- The loop's invariant: what is left of the chunk gives what the whole gives, i octets on.
use Rattle.std.proofs.Common.{◌≡◌, ◌-◌, ◌≤◌, length}
use Rattle.deframer.specs.Pairs.{Ahead}
use Rattle.deframer.proofs.pairs.take_pairs.Given as goal

abbrev pub invariant-loop-i : goal.invariant-loop-i
invariant-loop-i l = (l.i ≤ length l.chunk) × (length l.buffer ≡ length l.initial.buffer) × Ahead l.rule l.initial.s l.chunk l.initial.buffer l.i l.s l.buffer

abbrev pub decreases-loop-i : goal.decreases-loop-i
decreases-loop-i l = length l.chunk - l.i
