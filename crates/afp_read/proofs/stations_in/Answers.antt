-- `afp_read::stations_in`: the next station is looked for at octet 4 less 5.
use Rattle.std.proofs.Common.{ℕ, ◌-◌, ◌∙◌, ap}
use Rattle.stations.specs.Fields.{fields_at}
use Rattle.afp_read.proofs.Answers.{stations_read}
use Rattle.afp_read.proofs.stations_in.Goals as goal

pub returns : goal.returns
returns c = c.parse.ensures ∙ stations_read c.args.frame.now c.from-sum_at.result c.saturating_sub-pointed.result c.from-sum_at.ensures (c.saturating_sub-pointed.ensures ∙ ap (λ (o : ℕ). o - fields_at) c.from.ensures)
