-- `lister::Lister::new` meets its contract: nothing is listed yet. Assumes nothing.
use Rattle.std.proofs.Common.{ap}
use Rattle.capture.specs.declared.Octets.{Octets}
use Rattle.lister.specs.Lines.{fresh}
use Rattle.lister.proofs.Lister.new.Goals as goal

pub returns : goal.returns
returns c = ap (λ (n : Octets). record { kiss = c.args.kiss; level = c.args.level; state = fresh; reports = 0; counts = n }) c.new.ensures
