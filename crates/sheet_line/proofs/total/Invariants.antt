-- `sheet_line::total` meets its contract. The loop's invariant: the counts added so far and those that are left give all. Assumes nothing.
use Prim.Native.Nat.{◌+◌, ◌*◌, ◌^◌, ◌≤◌}
use mathlib.Core.Path.{◌≡◌}
use lib.ListN.{drop}
use Rattle.octets.specs.Sum.{sum}
use Rattle.sheet_line.proofs.total.Given as goal

abbrev pub invariant-loop-count : goal.invariant-loop-count
invariant-loop-count l = (l.total ≤ l.count-index * 2 ^ 32) × (l.total + sum (drop l.count-index l.counts) ≡ sum l.counts)
