-- `capture::flags_in` meets its contract: those of the parts before, and of what is left. Assumes nothing.
use Rattle.std.proofs.Common.{◌+◌, ◌≡◌}
use Rattle.capture.specs.Whole.{flags}
use Rattle.capture.proofs.flags_in.Given as goal

abbrev pub invariant-loop-part : goal.invariant-loop-part
invariant-loop-part l = (l.part-iterator.size ≡ 224) × (l.n + flags l.flag l.part-iterator.rest.now ≡ flags l.flag l.chunk)
