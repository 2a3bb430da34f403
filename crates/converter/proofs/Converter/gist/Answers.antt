-- `converter::Converter::gist` meets its contract: by which way it goes. Assumes nothing.
use Rattle.std.proofs.Common.{ap, ◌∙◌}
use Rattle.converter.specs.Gist.{gist_of_qaft, gist_of_kiss}
use Rattle.converter.proofs.Converter.gist.Goals as goal

pub returns-then-self : goal.returns-then-self
returns-then-self c = rw c.if-self.true (c.from.ensures ∙ ap gist_of_qaft c.report_on.ensures)

pub returns : goal.returns
returns c = rw c.if-self.false (c.from-2.ensures ∙ ap gist_of_kiss c.report_on-2.ensures)
