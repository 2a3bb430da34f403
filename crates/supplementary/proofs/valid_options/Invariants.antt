-- `supplementary::valid_options` meets its contract: the invariant says that what is left gives the whole. Assumes nothing.
use Rattle.std.proofs.Common.{◌≡◌, ◌≤◌, length}
use Rattle.supplementary.specs.Options.{most_callsigns, valid_options}
use Rattle.supplementary.proofs.valid_options.Given as goal

abbrev pub invariant-loop-left : goal.invariant-loop-left
invariant-loop-left l = record {
  few : l.callsigns ≤ most_callsigns;
  so_far : valid_options l.callsigns 0 l.left ≡ valid_options 0 0 l.options;
}

abbrev pub decreases-loop-left : goal.decreases-loop-left
decreases-loop-left l = length l.left
