-- `Octets::with_plain` meets its contract: behind a flag, or before any. Assumes nothing.
use Rattle.capture.proofs.Counting.{plain_behind, plain_ahead}
use Rattle.capture.proofs.Octets.with_plain.Goals as goal

pub returns-then-self : goal.returns-then-self
returns-then-self c = plain_behind _ _ _ c.if-self.true _ c.add.ensures

pub returns-else-self : goal.returns-else-self
returns-else-self c = plain_ahead _ _ _ c.if-self.false _ c.add-else-self.ensures
