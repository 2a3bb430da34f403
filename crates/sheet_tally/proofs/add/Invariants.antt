-- `sheet_tally::add` meets its contract: what is left of the sums decides whether all fit, and gives the record. Assumes nothing.
use mathlib.Core.Path.{◌≡◌}
use lib.ListN.{length}
use lib.Seq.{sets}
use Rattle.sheet.specs.Limits.{counts_long}
use Rattle.sheet_tally.specs.Adding.{sums, all_fit}
use Rattle.sheet_tally.proofs.Sums.{rest}
use Rattle.sheet_tally.proofs.add.Given as goal

abbrev pub invariant-loop-i : goal.invariant-loop-i
invariant-loop-i l = (all_fit (rest l.old l.more l.i) ≡ all_fit (sums l.old l.more)) × (sets l.new l.i (rest l.old l.more l.i) ≡ sets l.old 0 (sums l.old l.more)) × (length l.new ≡ counts_long)
