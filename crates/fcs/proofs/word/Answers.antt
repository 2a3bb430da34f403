-- `fcs::word`: eight octets, the first lowest.
use Rattle.std.proofs.Common.{◌∙◌}
use Rattle.fcs.proofs.Words.{eight_word}
use Rattle.fcs.proofs.word.Goals as goal

pub returns : goal.returns
returns c = c.from_le_bytes.ensures ∙ eight_word c.args.o.now c.requires
