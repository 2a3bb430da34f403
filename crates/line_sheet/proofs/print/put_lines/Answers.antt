-- `line_sheet::print::put_lines` meets its contract: line after line. Assumes nothing.
use Rattle.std.proofs.Common.{arith}
use Rattle.line_sheet.proofs.Printing.{array_long, starts, goes, ends}
use Rattle.sheet.specs.Limits.{lines}
use Rattle.line_sheet.proofs.print.put_lines.Goals as goal

pub loop-line-init : goal.loop-line-init
loop-line-init c = starts _ _

pub loop-line-preserved : goal.loop-line-preserved
loop-line-preserved c =
    let l = c.loop-line in
    let g = array_long lines c.args.records _ c.well_formed.0 in
    let e = c.put_line-at.ensures in
    goes c.args.records _ l.out l.at l.line l.invariant _ _ _ g.0 g.1 c.requires c.loop-line-test.true e.value e.out_after

pub returns : goal.returns
returns c =
    let l = c.loop-line in
    ends c.args.records _ l.out l.at l.line l.invariant (omega (arith, c.loop-line-test.false, (array_long lines c.args.records _ c.well_formed.0).0))
