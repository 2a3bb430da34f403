-- What the shared rule calls ill formed is 5.
use Rattle.std.proofs.Common.{◌≡◌, not, sym, ap, ap₂, ◌∙◌}
use Rattle.deframer.specs.Rule.{rules_of}
use Rattle.deframer.specs.Scan.{view}
use Rattle.deframer.specs.declared.Rule.{Rule}
use Rattle.deframer.specs.declared.State.{State}
use Rattle.framing.specs.Step as framing
use Rattle.kiss_read.proofs.Formed.{malformed_view}
use Rattle.kiss_read.specs.Scanned.{rule, state_of}
use Rattle.kiss_read.specs.State.{malformed}
use Rattle.kiss_read.specs.declared.Reader.{Reader}
use Rattle.kiss_read.proofs.Reader.well_formed.Goals as goal

by_rule : (r : Reader) → framing.malformed (rules_of rule) (view (state_of r)) ≡ malformed r
unfolding framing.malformed malformed
by_rule r = sym (malformed_view r)

pub returns : goal.returns
returns c =
    c.well_formed-2.ensures
    ∙ ap₂ (λ (l : Rule) (s : State). not (framing.malformed (rules_of l) (view s))) c.rule.ensures c.from.ensures
    ∙ ap not (by_rule c.args.self)
