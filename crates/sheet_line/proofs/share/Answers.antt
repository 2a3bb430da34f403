-- `sheet_line::share`: bad checks, and the counts of reports.
use Rattle.std.proofs.Common.{sym, ap, ◌∙◌}
use Rattle.std.proofs.lemmas.List.{drop-take}
use Rattle.octets.specs.Sum.{sum}
use Rattle.sheet_line.proofs.Counts.{share_of}
use Rattle.sheet_line.proofs.share.Goals as goal

pub returns : goal.returns
returns c =
    let counts = c.args.tally.counts in
    share_of counts _ _ _ c.lowest.ensures c.from-bad.ensures (c.total-reports.ensures ∙ sym (ap sum (drop-take 5 6 counts)))
