-- Each return by the tests on its way.
use Rattle.std.proofs.Common.{◌∙◌}
use borrow.Author.Tests.{eq-eqb, ne_eqb}
use Rattle.deframer.proofs.Ways.{step_flag, step_segment, step_hunting}
use Rattle.deframer.proofs.Rule.step.Goals as goal

pub returns-then-x-self : goal.returns-then-x-self
returns-then-x-self c = c.closed.ensures ∙ step_flag _ _ _ (eq-eqb _ _ c.if-x-self.true)

pub returns-then-s : goal.returns-then-s
returns-then-s c = c.in_segment.ensures ∙ step_segment _ _ _ (ne_eqb _ _ c.if-x-self.false) c.if-s.true

pub returns : goal.returns
returns c = step_hunting _ _ _ (ne_eqb _ _ c.if-x-self.false) c.if-s.false
