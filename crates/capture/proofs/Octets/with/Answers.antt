-- `Octets::with` meets its contract: without flags, and with some. Assumes nothing.
use Rattle.capture.proofs.Counting.{with_none, with_some}
use Rattle.capture.proofs.Octets.with.Goals as goal

pub returns-then-parts-eq0 : goal.returns-then-parts-eq0
returns-then-parts-eq0 c = with_none _ _ _ _ c.with_plain-opened.ensures c.if-parts-eq0.true

pub returns : goal.returns
returns c = with_some _ _ _ _ c.with_plain-opened.ensures c.if-parts-eq0.false _ c.with_flags.ensures
