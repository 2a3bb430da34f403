-- `Link::make`: of the edition, or of the first where that is unknown. Assumes nothing.
use Rattle.std.proofs.Common.{sym, ◌∙◌}
use Rattle.dlc_table.specs.Answers.{done, bad_edition}
use Rattle.dlc_table.proofs.Rows.{made_known, made_unknown}
use Rattle.dlc.proofs.Outcomes.{made_returns}
use Rattle.dlc.proofs.Link.make.Goals as goal

pub returns-then-known_edition : goal.returns-then-known_edition
returns-then-known_edition c =
    let n = c.args.edition in
    made_returns n done _ _ _ (made_known n (sym c.known_edition.ensures ∙ c.if-known_edition.true)) c.fresh_link.ensures c.done.ensures

pub returns-else-known_edition : goal.returns-else-known_edition
returns-else-known_edition c =
    let n = c.args.edition in
    made_returns n bad_edition _ _ _ (made_unknown n (sym c.known_edition.ensures ∙ c.if-known_edition.false)) c.fresh_link-else-known_edition.ensures c.refused.ensures
