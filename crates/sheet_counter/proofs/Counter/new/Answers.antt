-- `Counter::new` meets its contract: nothing is counted yet. Assumes nothing.
use Rattle.sheet_counter.specs.Count.{fresh}
use Rattle.sheet_counter.proofs.Counter.new.Goals as goal

pub returns : goal.returns
returns c = λ i. record {
  level = c.args.level;
  state = fresh;
  octets = record { kept = c.new.ensures i; skipped = c.new-2.ensures i };
  found = c.new-3.ensures i;
}
