-- The loop's invariant: what is left of the chunk gives what the whole gives, i octets on.
use Rattle.std.proofs.Common.{◌≡◌, ◌-◌, ◌≤◌, length, drop}
use Rattle.deframer.specs.Rule.{rules_of}
use Rattle.deframer.specs.Scan.{view}
use Rattle.framing.specs.Step.{step}
use Rattle.line.specs.Scan.{after, scan}
use Rattle.deframer.proofs.Rule.scan_chunk.Given as goal

abbrev pub invariant-loop-i : goal.invariant-loop-i
invariant-loop-i l =
    (l.i ≤ length l.chunk)
    × (length l.buffer ≡ length l.initial.buffer)
    × (scan (step (rules_of l.self)) (view l.initial.s) l.chunk l.initial.buffer ≡ after l.i (scan (step (rules_of l.self)) (view l.s) (drop l.i l.chunk) l.buffer))

abbrev pub decreases-loop-i : goal.decreases-loop-i
decreases-loop-i l = length l.chunk - l.i
