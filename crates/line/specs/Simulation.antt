-- The states of one reader taken to those of another, and its reports to others. Cited by the simulation laws. Assumes nothing.
use Rattle.std.specs.Prelude.{map}
use Rattle.std.proofs.Math.Option.{Option, none, some}
use Rattle.line.specs.Scan.{Action, advance, store, emit, Scan}
use Rattle.line.specs.Trace.{Event, Trace}

abbrev pub map_option : {R Q : Type 0} → (R → Q) → Option R → Option Q
map_option j none = none
map_option j (some r) = some (j r)

module _ {S T R Q : Type 0} (h : S → T) (j : R → Q) where
  abbrev pub map_action : Action S R → Action T Q
  map_action (advance s) = advance (h s)
  map_action (store s i x) = store (h s) i x
  map_action (emit r s) = emit (j r) (h s)

  abbrev pub map_scan : Scan S R → Scan T Q
  map_scan u = record { report = map_option j u.report; taken = u.taken; state = h u.state; buffer = u.buffer }

-- states alone
module _ {S T R : Type 0} (h : S → T) where
  abbrev pub place_action : Action S R → Action T R
  place_action a = map_action h (λ r. r) a

  abbrev pub place_scan : Scan S R → Scan T R
  place_scan u = record { report = u.report; taken = u.taken; state = h u.state; buffer = u.buffer }

  abbrev pub place_trace : Trace S R → Trace T R
  place_trace a = record { events = a.events; state = h a.state; buffer = a.buffer }

-- reports alone
abbrev pub retell_event : {R Q : Type 0} → (R → Q) → Event R → Event Q
retell_event j e = record { report = j e.report; buffer = e.buffer }

abbrev pub retell_trace : {S R Q : Type 0} → (R → Q) → Trace S R → Trace S Q
retell_trace j a = record { events = map (retell_event j) a.events; state = a.state; buffer = a.buffer }
