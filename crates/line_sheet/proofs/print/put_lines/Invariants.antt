-- `line_sheet::print::put_lines` meets its contract: line after line. Assumes nothing.
use Rattle.line_sheet.proofs.Printing.{Onwards}
use Rattle.line_sheet.proofs.print.put_lines.Given as goal

abbrev pub invariant-loop-line : goal.invariant-loop-line
invariant-loop-line l = Onwards l.record-items l.initial.out l.out l.at l.line
