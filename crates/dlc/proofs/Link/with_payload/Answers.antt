-- `Link::with_payload`: what `push` gives makes the link that the table says. Assumes nothing.
use Rattle.dlc.proofs.Views.{view-with_payload}
use Rattle.dlc.proofs.Link.with_payload.Goals as goal

pub returns : goal.returns
returns c = view-with_payload c.args.self c.requires.0 c.push.result c.args.p.now c.requires.1.0 c.requires.1.1 c.push.ensures
