-- What the shared loop does with an octet and with a chunk: framing's step and scan by its rules, on the states of the code. Cited by the contracts.
-- Assumes nothing.
use Rattle.std.specs.Prelude.{ℕ, Bool, true, false, cond, List, ltb, length}
use Rattle.std.proofs.Math.Option.{Option, none, some}
use Rattle.deframer.specs.Rule.{rules_of}
use Rattle.deframer.specs.declared.Action.{Action}
use Rattle.deframer.specs.declared.Action.TheVariants.{Advance, Store, Close}
use Rattle.deframer.specs.declared.Rule.{Rule}
use Rattle.deframer.specs.declared.Scanned.{Scanned}
use Rattle.deframer.specs.declared.State.{State}
use Rattle.framing.specs.Rules as rules
use Rattle.framing.specs.Step as framing
use Rattle.line.specs.Scan as line

-- a state of the code as one of framing's, and back: field by field
abbrev pub view : State → rules.State ℕ
view s = record { synced = s.synced; pending = s.pending; bad = s.bad; count = s.count; check = s.check }

abbrev pub place : rules.State ℕ → State
place s = record { synced = s.synced; pending = s.pending; bad = s.bad; count = s.count; check = s.check }

abbrev pub opened : Rule → State
opened r = place (framing.opened (rules_of r))

unfoldable pub awaiting : State → State
awaiting s = record { synced = s.synced; pending = true; bad = s.bad; count = s.count; check = s.check }

abbrev pub in_sync : State → State
in_sync s = record { synced = true; pending = s.pending; bad = s.bad; count = s.count; check = s.check }

unfoldable pub joined : Rule → State → (b : Bool) (x : ℕ) → State
joined r s b x = place (framing.joined (rules_of r) (view s) b x)

-- framing's actions as the code's: a report closes the segment
abbrev pub advances : rules.State ℕ → Action
advances t = Advance (place t)

abbrev pub stores : rules.State ℕ → ℕ → ℕ → Action
stores t i x = Store (place t) i x

abbrev pub closes : rules.State ℕ → rules.State ℕ → Action
closes c t = Close

unfoldable pub stored : Rule → State → (b : Bool) (x : ℕ) → Action
stored r s b x = framing.stored_into (rules_of r) advances stores closes (view s) b x

unfoldable pub in_segment : Rule → State → (x : ℕ) → Action
in_segment r s x = framing.in_segment_into (rules_of r) advances stores closes (view s) x

unfoldable pub closed : Rule → State → Action
closed r s = framing.closed_into (rules_of r) advances stores closes (view s)

unfoldable pub step : Rule → State → (x : ℕ) → Action
step r s x = framing.step_into (rules_of r) advances stores closes (view s) x

-- a call: its answer, and the buffer after it
pub record Outcome : Type 0 where
  pub answer : Scanned
  pub buffer : List ℕ

-- the state that is given back: the one that was reported, or the last
abbrev pub given : Option (rules.State ℕ) → (n : ℕ) → rules.State ℕ → Scanned
given none n s = record { closed = false; taken = n; state = place s }
given (some c) n s = record { closed = true; taken = n; state = place c }

unfoldable pub outcome_of : line.Scan (rules.State ℕ) (rules.State ℕ) → Outcome
outcome_of u = record { answer = given u.report u.taken u.state; buffer = u.buffer }

-- a chunk up to the flag that closes a segment
unfoldable pub scan_call : Rule → State → (xs m : List ℕ) → Outcome
scan_call r s xs m = outcome_of (line.scan (framing.step (rules_of r)) (view s) xs m)

-- where the buffer is shorter than the cap nothing is taken
unfoldable pub scanned : Rule → State → (xs m : List ℕ) → Outcome
scanned r s xs m =
    cond (ltb (length m) r.cap) (record { answer = record { closed = false; taken = 0; state = s }; buffer = m })
    (scan_call r s xs m)
