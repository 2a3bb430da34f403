-- `stations::parse` meets its contract: the invariant says that what is left gives the whole. Assumes nothing.
use mathlib.Core.Path.{◌≡◌}
use Prim.Native.Nat.{◌≤◌, ◌-◌}
use lib.ListN.{length, drop}
use Rattle.stations.specs.Fields.{stations_from, stations_of}
use Rattle.stations.proofs.parse.Given as goal

abbrev pub invariant-loop-end : goal.invariant-loop-end
invariant-loop-end l = (l.index ≤ length l.fields) × (l.count ≤ l.index) × (stations_from l.pointed l.numbered l.index l.count l.next 0 (drop l.index l.fields) ≡ stations_of l.pointed l.numbered l.fields)

abbrev pub decreases-loop-end : goal.decreases-loop-end
decreases-loop-end l = length l.fields - l.index
