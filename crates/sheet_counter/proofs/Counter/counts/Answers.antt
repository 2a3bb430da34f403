-- `Counter::counts` meets its contract: octets before the first flag and after the last, read and skipped. Assumes nothing.
use Rattle.std.proofs.Common.{ap₂}
use Rattle.sheet_counter.specs.Count.{counts_with}
use Rattle.sheet_counter.proofs.Counter.counts.Goals as goal

pub returns : goal.returns
returns c = ap₂ (counts_with c.args.self) c.add.ensures c.add-2.ensures
