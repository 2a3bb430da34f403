-- `lister::Lister::entry` meets its contract: by the framing. Assumes nothing.
use Rattle.std.proofs.Common.{ap, ◌∙◌}
use Rattle.lister.specs.Entries.{entry_of_qaft, entry_of_kiss}
use Rattle.lister.proofs.Lister.entry.Goals as goal

pub returns-then-self : goal.returns-then-self
returns-then-self c = rw c.if-self.true (c.of_kiss.ensures ∙ ap entry_of_kiss c.report_on.ensures)

pub returns : goal.returns
returns c = rw c.if-self.false (c.of_qaft.ensures ∙ ap entry_of_qaft c.report_on-2.ensures)
