-- `capture::flags_in` meets its contract: those of the parts before, and of what is left. Assumes nothing.
use Rattle.std.proofs.Common.{◌+◌, ◌≡◌, ◌≤◌, arith, length, ◌∙◌}
use Rattle.capture.proofs.Flags.{flags_end, flags_part}
use Rattle.capture.specs.Whole.{flags}
use Rattle.capture.proofs.flags_in.Goals as goal

turn : (c : goal.After-from-n) → (c.loop-part.n + c.from-n.result + flags c.args.flag c.next.new.self.rest.now ≡ flags c.args.flag c.args.chunk.now) × (c.loop-part.n + c.from-n.result ≤ length c.args.chunk.now)
turn c =
    let a = c.args in
    let s = c.in-Some.ensures.steps in
    flags_part a.flag a.chunk.now c.in-Some.part.now c.next.new.self.rest.now c.loop-part.n _ (c.from-n.ensures ∙ c.flags_in_part.ensures) (rw s.1.0 at c.loop-part.invariant.1)

pub overflow_add-n : goal.overflow_add-n
overflow_add-n c = omega (arith, (turn c).1)

pub loop-part-preserved : goal.loop-part-preserved
loop-part-preserved c = (c.in-Some.ensures.steps.0 ∙ c.loop-part.invariant.0, (turn c).0)

pub returns : goal.returns
returns c = omega (arith, c.loop-part.invariant.1, flags_end c.args.flag c.loop-part.part-iterator.rest.now 0 (omega (arith, c.in-None.ensures.steps.1.0)))
