-- Each return by the tests on its way.
use Rattle.std.proofs.Common.{ap, ◌∙◌}
use borrow.Author.Tests.{eq-eqb, ne_eqb}
use Rattle.deframer.proofs.Ways.{closed_dangling, closed_empty, closed_report}
use Rattle.deframer.specs.declared.Action.TheVariants.{Advance}
use Rattle.deframer.specs.declared.State.{State}
use Rattle.deframer.proofs.Rule.closed.Goals as goal
use Rattle.deframer.proofs.Rule.closed.Goals.{then-s-via-then-s, then-s-via-else-s+then-s-ne0}

pub returns-then-s : goal.returns-then-s
returns-then-s c =
    elim c.then-s.branch
    [ then-s-via-then-s w ↦ closed_dangling _ _ w.if-s.true | then-s-via-else-s+then-s-ne0 w ↦ closed_report _ _ w.if-s.false (ne_eqb _ _ w.if-s-ne0.true) ]

pub returns : goal.returns
returns c = ap (λ (s : State). Advance s) c.opened.ensures ∙ closed_empty _ _ c.if-s.false (eq-eqb _ _ c.if-s-ne0.false)
