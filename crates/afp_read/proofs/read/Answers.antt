-- `afp_read::read`: refused as `checked` says, or accepted.
use Rattle.afp.specs.Refused.{number_of}
use Rattle.afp.proofs.Refused.{refusal_numbered}
use Rattle.afp_read.proofs.Answers.{read_refused, read_accepted}
use Rattle.afp_read.proofs.read.Goals as goal

pub returns-in-Ok : goal.returns-in-Ok
returns-in-Ok c = let h = c.in-Ok.ensures in read_accepted c.args.frame.now h.first c.in-Ok.parsed h.fits.0 c.accept.result c.accept.ensures

pub returns-in-Err : goal.returns-in-Err
returns-in-Err c =
    read_refused c.args.frame.now (number_of c.in-Err.refusal) c.in-Err.ensures.first (refusal_numbered c.in-Err.refusal) c.refuse.result c.refuse.ensures
