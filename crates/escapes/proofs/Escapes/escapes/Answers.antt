use Rattle.escapes.proofs.Several.{two_escaped, four_escaped}
use Rattle.escapes.proofs.Escapes.escapes.Goals as goal

pub returns-then-self : goal.returns-then-self
returns-then-self c = four_escaped c.args.self c.if-self.true c.args.x

pub returns : goal.returns
returns c = two_escaped c.args.self c.if-self.false c.args.x
