use Rattle.std.proofs.Common.{arith}
use Rattle.deframer.proofs.Runs.{with_run_none, with_run_some}
use Rattle.deframer.proofs.run.with_run.Goals as goal

pub returns-then-is_empty-clause-value : goal.returns-then-is_empty-clause-value
returns-then-is_empty-clause-value c = with_run_none c.args.rule c.args.s c.args.octets.now (grind (arith, c.if-is_empty.true, c.is_empty.ensures))

pub returns-clause-value : goal.returns-clause-value
returns-clause-value c = with_run_some c.args.rule c.args.s c.args.octets.now _ (λ e. grind (arith, e, c.if-is_empty.false, c.is_empty.ensures)) c.put_run.ensures.value
