-- `afp_read::accept`: by its definition.
use Rattle.afp_read.specs.Read.{accepted_reading}
use Rattle.afp_read.proofs.accept.Goals as goal

pub returns : goal.returns
unfolding accepted_reading
returns c = cc
