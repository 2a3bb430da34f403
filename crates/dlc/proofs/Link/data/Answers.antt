-- `Link::data`: a row of the table: open states judge. Assumes nothing.
use Rattle.std.proofs.Common.{sym, ◌∙◌}
use Rattle.dlc_table.specs.Answers.{no_entry}
use Rattle.dlc.specs.View.{view}
use Rattle.dlc_table.proofs.Rows.{data_closed}
use Rattle.dlc.proofs.Outcomes.{refused_meets}
use Rattle.dlc.proofs.Link.data.Goals as goal

pub returns-else-is_open : goal.returns-else-is_open
returns-else-is_open c =
    let l = c.args.self in
    refused_meets _ l no_entry _ _ (data_closed (view l) l.state c.args.x (sym c.is_open.ensures ∙ c.if-is_open.false)) c.refused.ensures
