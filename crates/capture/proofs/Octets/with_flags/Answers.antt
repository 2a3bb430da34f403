-- `Octets::with_flags` meets its contract. Assumes nothing.
use Rattle.capture.proofs.Counting.{flags_are}
use Rattle.capture.proofs.Octets.with_flags.Goals as goal

pub returns : goal.returns
returns c = flags_are _ _ _ _ _ _ _ _ _ c.add.ensures c.add-closed.ensures c.add-2.ensures c.add-3.ensures
