-- `framer::room::left`: octets that do not fit as they are do not fit escaped. Assumes nothing.
use Rattle.std.proofs.Common.{arith}
use Rattle.escapes.specs.Escapes.{writing_of}
use Rattle.framing.proofs.Escaping.{length-escaped}
use Rattle.framer.proofs.room.left.Goals as goal

pub returns-then-room-octets : goal.returns-then-room-octets
returns-then-room-octets c = omega (arith, length-escaped (writing_of c.args.e) c.args.octets.now, c.if-room-octets.true)
