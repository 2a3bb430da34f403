-- The sliding window: for every lawful rules and every list of events. The theorem stands last. Assumes nothing.
use mathlib.Core.Path.{◌≡◌, refl}
use mathlib.Core.Logic.{inl}
use mathlib.Core.Bool.{Bool, true, false, ◌&&◌}
use mathlib.Core.List.{List, [], ◌∷◌}
use native.Mathlib.Omega.{arith}
use lib.Dec.{ltb}
use lib.ListN.{length}
use borrow.Author.Tests.{ltb-true}
use Rattle.common.proofs.Bools.{either}
use Rattle.window.specs.Sides.{Side, left, right, Both, mirror}
use Rattle.window.specs.Ends.{Rules, Lawful, End}
use Rattle.window.specs.Events.{Act, offer, timeout, receive, lose, Event, fresh, start, arrive, step, step_at, run, Waits, WaitsAt, TimerWaits, Drained}
use Rattle.window.specs.Claim.{SlidingWindow}
use Rattle.window.proofs.Count.{Trail}
use Rattle.window.proofs.Flow.{assumed, Flow, flow_bound}
use Rattle.window.proofs.Invariant.{Ghost, Invariant, invariant_mirror, invariant_weaken, invariant_accept, invariant_send_all, invariant_lose}
use Rattle.window.proofs.Receive.{invariant_arrive, invariant_refuse}

module _ (r : Rules) (law : Lawful r) where
  right_true : (a b : Bool) → (a && b) ≡ true → b ≡ true
  right_true true b e = e
  right_true false b e = cc

  -- ---- one event at the left end, at either end, and a list of them
  arrive_by : (ok : Bool) {P Q : Type 0} (s : Both End) → Invariant r (assumed P) (assumed Q) s
      → Invariant r (assumed P) (assumed Q) (arrive r ok s.right.line s)
  arrive_by true s v = invariant_arrive r law s v
  arrive_by false s v = invariant_refuse r law s v

  -- the premise on each timer is collected on the way
  keep : {P Q R : Type 0} {s : Both End} → Invariant r (assumed P) (assumed Q) s → Invariant r (assumed (P × R)) (assumed Q) s
  keep v = invariant_weaken r (λ u. u.0) (λ u. u) (λ u. u) (λ u. u) v

  invariant_step : (a : Act) {P Q : Type 0} (s : Both End) → Invariant r (assumed P) (assumed Q) s
      → Invariant r (assumed (P × Waits a s)) (assumed Q) (step r a s)
  invariant_step (offer ok p) {P} {Q} s v =
      let room = ltb (length s.left.sender.queue) r.window in
      keep (either (Invariant r (assumed P) (assumed Q)) (ok && ltb (length s.left.sender.queue) r.window)
      (λ e. invariant_accept r s v p (ltb-true (length s.left.sender.queue) r.window (right_true ok room e))) (λ e. v))
  invariant_step (timeout ok) {P} {Q} s v =
      either (Invariant r (assumed (P × Drained s)) (assumed Q)) (ok && ltb 0 (length s.left.sender.queue))
      (λ e. invariant_weaken r (λ u. u) (λ u. absurd u) (λ u. u) (λ u. u) (invariant_send_all r s v)) (λ e. keep v)
  invariant_step (receive ok) s v = keep (arrive_by ok s v)
  invariant_step (lose n) s v = keep (invariant_lose r s v n)

  invariant-step_at : (d : Side) (a : Act) {P Q : Type 0} (s : Both End) → Invariant r (assumed P) (assumed Q) s
      → Invariant r (assumed (P × WaitsAt left d a s)) (assumed (Q × WaitsAt right d a s)) (step_at r d a s)
  invariant-step_at left a s v = invariant_mirror r (keep (invariant_mirror r (invariant_step a s v)))
  invariant-step_at right a s v = keep (invariant_mirror r (invariant_step a (mirror s) (invariant_mirror r v)))

  pub invariant_run : (es : List Event) {P Q : Type 0} (s : Both End) → Invariant r (assumed P) (assumed Q) s
      → Invariant r (assumed (P × TimerWaits r left es s)) (assumed (Q × TimerWaits r right es s)) (run r es s)
  invariant_run [] s v = invariant_mirror r (keep (invariant_mirror r (keep v)))
  invariant_run (e ∷ es) s v =
      invariant_weaken r (λ u. ((u.0, u.1.0), u.1.1)) (λ u. u) (λ u. ((u.0, u.1.0), u.1.1)) (λ u. u)
      (invariant_run es (step_at r e.side e.act s) (invariant-step_at e.side e.act s v))

  -- ---- the start
  flow_start : Flow r (assumed (Unit {0})) [] 0 fresh.sender fresh.receiver [] []
  flow_start = record {
    placed = record { pending = []; split = refl; prefix = refl; residue = refl; expected = refl };
    window = record { acks = omega arith; ahead = omega arith; room = omega arith; fits = tt };
    once = λ t. refl;
    count = λ h. inl (record { sum = omega arith; trail = nothing });
    trail = λ u. nothing;
  }
    where
      nothing : Trail 0 0 0 0 [] []
      nothing = record { some = omega arith; chain = omega arith; last = omega arith }

  pub invariant_start : Invariant r (assumed (Unit {0})) (assumed (Unit {0})) start
  invariant_start =
      let nothing : Ghost = record { marks = []; acked = []; reached = 0 } in
      record { left = nothing; right = nothing; left_line = refl; right_line = refl; left_flow = flow_start; right_flow = flow_start }

  -- ---- what the sliding window gives
  pub sliding_window : (es : List Event) → SlidingWindow r es
  sliding_window es =
      let v = invariant_run es start invariant_start in
      record {
        left_to_right = record { prefix = (v.left_flow.placed.pending, v.left_flow.placed.prefix); bound = λ h. flow_bound r v.left_flow (tt, h) };
        right_to_left = record { prefix = (v.right_flow.placed.pending, v.right_flow.placed.prefix); bound = λ h. flow_bound r v.right_flow (tt, h) };
      }
