-- `capture::octets_before` meets its contract: the place of the first flag. Assumes nothing.
use Rattle.std.proofs.Common.{ap, ◌∙◌, length}
use Rattle.std.specs.Option.{unwrap_or}
use Rattle.capture.proofs.Finding.{before_found}
use Rattle.capture.proofs.octets_before.Goals as goal

pub returns : goal.returns
returns c = let a = c.args in c.unwrap_or.ensures ∙ ap (λ r. unwrap_or r (length a.chunk.now)) c.from_front.ensures ∙ before_found a.flag a.chunk.now
