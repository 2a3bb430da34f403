-- `capture::flags_in_part` meets its contract: those before an octet, and those from there on. Assumes nothing.
use Rattle.std.proofs.Common.{◌+◌, ◌≤◌, ◌≡◌, drop}
use Rattle.capture.specs.Whole.{flags}
use Rattle.capture.proofs.flags_in_part.Given as goal

abbrev pub invariant-loop-x : goal.invariant-loop-x
invariant-loop-x l = (l.n ≤ l.x-index) × (l.n + flags l.flag (drop l.x-index l.part) ≡ flags l.flag l.part)
