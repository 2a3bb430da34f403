use Rattle.escapes.proofs.Several.{plain_two}
use Rattle.escapes.proofs.Escapes.block_plain.Goals as goal

pub returns : goal.returns
returns c = plain_two c.args.self c.args.block.now c.if-self.false _ _ c.lacks-no_flag.ensures c.lacks-no_escape.ensures
