-- `afp_write::put`: the octets fit. Assumes nothing.
use Rattle.std.proofs.Common.{◌∙◌}
use Rattle.octets.proofs.Putting.{end_fits, into_fits}
use Rattle.afp_write.proofs.put.Goals as goal

pub returns : goal.returns
returns c = (c.put.ensures.value ∙ end_fits _ _ _ c.requires, c.put.ensures.out_after ∙ into_fits _ _ _ c.requires)
