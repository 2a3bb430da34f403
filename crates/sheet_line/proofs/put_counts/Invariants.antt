-- `sheet_line::put_counts` meets its contract. The loop's invariant: the text of the counts so far stands where it is to stand. Assumes nothing.
use lib.ListN.{take}
use Rattle.sheet_line.specs.Line.{counts_text}
use Rattle.text.specs.Placed.{Placed}
use Rattle.sheet_line.proofs.put_counts.Given as goal

abbrev pub invariant-loop-count : goal.invariant-loop-count
invariant-loop-count l = Placed l.initial.out l.at (counts_text (take l.count-index l.count-items)) l.out l.to
