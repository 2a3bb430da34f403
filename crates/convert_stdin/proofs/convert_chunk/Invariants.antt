-- `convert_stdin::convert_chunk` is safe and ends: a call takes no more than is left, and where it takes nothing the loop ends. Assumes nothing.
use Rattle.std.proofs.Common.{◌-◌, ◌≤◌, ◌≡◌, length}
use Rattle.convert_stdin.proofs.convert_chunk.Given as goal

abbrev pub invariant-loop-i : goal.invariant-loop-i
invariant-loop-i l = (l.i ≤ length l.chunk) × (length l.buffer ≡ length l.initial.buffer) × (length l.out ≡ length l.initial.out)

abbrev pub decreases-loop-i : goal.decreases-loop-i
decreases-loop-i l = length l.chunk - l.i
