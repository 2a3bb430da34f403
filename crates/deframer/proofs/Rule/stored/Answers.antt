use Rattle.std.proofs.Common.{ap, ◌∙◌, arith}
use Rattle.deframer.proofs.Ways.{stored_store, stored_full}
use Rattle.deframer.specs.declared.Action.TheVariants.{Advance, Store}
use Rattle.deframer.specs.declared.State.{State}
use Rattle.deframer.proofs.Rule.stored.Goals as goal

pub returns-then-n-from : goal.returns-then-n-from
returns-then-n-from c = ap (λ (s : State). Store s c.args.s.count c.args.x) c.joined-next.ensures ∙ stored_store _ _ _ _ (omega (arith, c.if-n-from.true, c.from.ensures))

pub returns : goal.returns
returns c = ap (λ (s : State). Advance s) c.joined-next.ensures ∙ stored_full _ _ _ _ (omega (arith, c.if-n-from.false, c.from.ensures))
