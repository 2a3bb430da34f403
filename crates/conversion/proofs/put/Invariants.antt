-- `conversion::put` meets its contract. The loop's invariant: what is put, with what is left to put behind it, is the whole line. Assumes nothing.
use Rattle.std.proofs.Common.{◌+◌, ◌-◌, ◌≤◌, ◌≡◌, length, drop}
use lib.Seq.{sets}
use Rattle.conversion.proofs.Turns.{rest_text, rest_tally, Ready}
use Rattle.conversion_laws.specs.Frames.{conversion_of}
use Rattle.qaft.specs.Limits.{max_segment}
use Rattle.conversion.proofs.put.Given as goal

abbrev pub invariant-loop-i : goal.invariant-loop-i
invariant-loop-i l =
    (l.i ≤ length l.capture)
    × (length l.buffer ≡ max_segment)
    × (length l.scratch ≡ 8192)
    × Ready l.c l.buffer
    × (length l.out ≡ length l.initial.out)
    × (l.at + length (rest_text l.c (drop l.i l.capture) l.buffer) ≡ length (conversion_of l.to_kiss l.level l.capture))
    × (sets l.out l.at (rest_text l.c (drop l.i l.capture) l.buffer) ≡ sets l.initial.out 0 (conversion_of l.to_kiss l.level l.capture))
    × (rest_tally l.c (drop l.i l.capture) l.buffer ≡ rest_tally l.initial.c l.capture l.initial.buffer)

abbrev pub decreases-loop-i : goal.decreases-loop-i
decreases-loop-i l = length l.capture - l.i
