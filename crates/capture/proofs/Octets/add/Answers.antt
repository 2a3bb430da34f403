-- `Octets::add` meets its contract: the parts of the chunk, counted at once. Assumes nothing.
use Rattle.capture.proofs.Counting.{parts_added_lem}
use Rattle.capture.proofs.Octets.add.Goals as goal

pub returns : goal.returns
returns c = parts_added_lem _ _ _ _ _ _ c.parts_of.ensures c.with.ensures
