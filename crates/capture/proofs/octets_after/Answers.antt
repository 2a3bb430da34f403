-- `capture::octets_after` meets its contract: the place of the last flag, from the end. Assumes nothing.
use Rattle.std.proofs.Common.{ap, ◌∙◌}
use Rattle.std.specs.Option.{unwrap_or}
use Rattle.capture.proofs.Finding.{after_found}
use Rattle.capture.proofs.octets_after.Goals as goal

pub returns : goal.returns
returns c = let a = c.args in c.unwrap_or.ensures ∙ ap (λ r. unwrap_or r 0) c.from_end.ensures ∙ after_found a.flag a.chunk.now
