-- Without a loss: where payloads are sent at once and nothing was lost, all that was accepted is delivered once the line is drained, whether the
-- timer was called or not. Progress: with nothing on the lines, one timer call, the arrivals of what it sent and the arrivals of the DACKs empty
-- the queue, and all that was accepted is delivered. Recovery: whatever is on the lines, arrivals and one exchange of each end deliver everything
-- both ways. This rules out ends that do nothing, or get stuck. The theorems stand last. Assumes nothing.
--
-- The invariant's trail does the work: it begins when all is sent on a drained line, or with the first payload sent at once, arrivals keep it,
-- and where nothing is left on the line it says that all is acknowledged.
use Prim.Native.Nat.{ℕ, ◌+◌, ◌≤◌}
use mathlib.Core.Path.{◌≡◌, sym, ap, ◌∙◌}
use mathlib.Core.Logic.{inl, inr}
use mathlib.Core.Bool.{true}
use mathlib.Core.List.{List, [], ◌++◌, append-nil}
use native.Mathlib.Omega.{arith}
use lib.Dec.{T}
use lib.ListN.{length, length-append, replicate}
use Rattle.window.specs.Sides.{Side, left, right, Both, mirror, end_at}
use Rattle.window.specs.Packets.{Payloads, count_data, count_dack}
use Rattle.window.specs.Ends.{Rules, Lawful, End}
use Rattle.window.specs.Events.{receive, Event, start, run, Drained, TimerWaits}
use Rattle.window.specs.Claim.{DrainedAt, AllDelivered, exchange, Settled, recovery, Recovered}
use Rattle.window.proofs.Rising.{rising_le}
use Rattle.window.proofs.Count.{trail_end}
use Rattle.window.proofs.Marks.{dacks_of}
use Rattle.window.proofs.Flow.{Assumed, assumed, Leads, flow-length}
use Rattle.window.proofs.Invariant.{Invariant, invariant_mirror, drained_marks}
use Rattle.window.proofs.SlidingWindow.{invariant_run, invariant_start}
use Rattle.window.proofs.Exchange.{nil_of, run-++, receives, run_left, run_right, exchange_mirror, Received, received_all, receives_dacks, invariant_receives, begun, Exchanged, exchanged}

module _ (r : Rules) (law : Lawful r) where
  -- ---- nothing of the left end's on the lines, and the trail: all is acknowledged, and so all is delivered
  all_delivered : {a b : Assumed} (z : Both End) → Invariant r a b z → Leads r a z.left.sender → Drained z → AllDelivered left z
  all_delivered z v u d = record {
    queue = nil_of z.left.sender.queue (omega (arith, flow-length r v.left_flow, acked));
    delivered = sym (append-nil z.right.receiver.delivered)
        ∙ ap (λ (l : Payloads). z.right.receiver.delivered ++ l) (sym none_pending)
        ∙ v.left_flow.placed.prefix;
  }
    where
      acked : length z.left.sender.accepted ≤ length v.left.acked
      acked = trail_end (rw ((drained_marks r v d).0, (drained_marks r v d).1) at (v.left_flow.trail u))

      behind : length v.left.acked ≤ length z.right.receiver.delivered
      behind = rising_le (length v.left.acked) (dacks_of v.right.marks) (length z.right.receiver.delivered) v.left_flow.window.acks

      none_pending : v.left_flow.placed.pending ≡ []
      none_pending = nil_of v.left_flow.placed.pending
          (omega (arith, acked, behind, ap length v.left_flow.placed.prefix, length-append z.right.receiver.delivered v.left_flow.placed.pending))

  -- nothing on the lines at all
  settled_end : {b : Assumed} (z : Both End) → Invariant r (begun r law) b z → z.left.line ≡ [] → z.right.line ≡ [] → AllDelivered left z
  settled_end z v el er = all_delivered z v (inl tt) (ap count_data el, ap count_dack er)

  progress_left : {a b : Assumed} (s : Both End) → Invariant r a b s → s.left.line ≡ [] → s.right.line ≡ [] → (k m : ℕ)
      → length s.left.sender.queue ≤ k
      → k ≤ m
      → Settled left s (run r (exchange left k m) s)
  progress_left s v el er k m hk hm =
      let x = exchanged r law s v el er k m hk hm in
      let done = settled_end (run r (exchange left k m) s) x.holds x.left_line x.right_line in
      record { queue = done.queue; accepted = x.left_accepted; delivered = done.delivered ∙ x.left_accepted; lines = (x.left_line, x.right_line) }

  -- ---- arrivals that leave nothing on the lines: of what is on the left end's line, of what is on the right end's line then, and of the DACKs
  -- that answer it
  record Emptied (a b : Assumed) (s t : Both End) : Type 0 where
    holds : Invariant r a b t
    left_line : t.left.line ≡ []
    right_line : t.right.line ≡ []
    left_accepted : t.left.sender.accepted ≡ s.left.sender.accepted
    right_accepted : t.right.sender.accepted ≡ s.right.sender.accepted

  abbrev arrivals : ℕ → Both End → Both End
  arrivals n s = mirror (receives r (n + n) (mirror (receives r (n + n) (mirror (receives r n (mirror s))))))

  emptied : {a b : Assumed} (s : Both End) → Invariant r a b s → (n : ℕ) → length s.left.line ≤ n → length s.right.line ≤ n → Emptied a b s (arrivals n s)
  emptied s v n hl hr = record {
    holds = invariant_mirror r (invariant_receives r law (n + n) (mirror u) (invariant_mirror r
        (invariant_receives r law (n + n) t (invariant_mirror r (invariant_receives r law n (mirror s) (invariant_mirror r v))))));
    left_line = nil_of (arrivals n s).left.line (omega (arith, third.incoming, second.outgoing, left_gone));
    right_line = receives_dacks r (n + n) (mirror u) (second.no_data ∙ ap count_data (nil_of t.left.line left_gone)) ∙ nil_of u.right.line right_gone;
    left_accepted = third.right_accepted ∙ second.left_accepted ∙ first.right_accepted;
    right_accepted = third.left_accepted ∙ second.right_accepted ∙ first.left_accepted;
  }
    where
      t : Both End
      t = mirror (receives r n (mirror s))

      u : Both End
      u = receives r (n + n) t

      first : Received r n (mirror s) (receives r n (mirror s))
      first = received_all r n (mirror s)

      second : Received r (n + n) t u
      second = received_all r (n + n) t

      third : Received r (n + n) (mirror u) (receives r (n + n) (mirror u))
      third = received_all r (n + n) (mirror u)

      left_gone : length t.left.line ≤ 0
      left_gone = omega (arith, first.incoming)

      right_gone : length u.right.line ≤ 0
      right_gone = omega (arith, second.incoming, first.outgoing)

  -- a queue holds no more than the window
  queue_small : {a b : Assumed} (s : Both End) → Invariant r a b s → length s.left.sender.queue ≤ r.window
  queue_small s v = omega (arith, v.left_flow.window.room, flow-length r v.left_flow)

  recovery_run : (n : ℕ) (s : Both End) → run r (recovery n) s ≡ run r (exchange right n n) (run r (exchange left n n) (arrivals n s))
  recovery_run n s =
      let a : List Event = replicate n (record { side = right; act = receive true }) in
      let b : List Event = replicate (n + n) (record { side = left; act = receive true }) in
      let c : List Event = replicate (n + n) (record { side = right; act = receive true }) in
      let d : List Event = exchange left n n ++ exchange right n n in
      run-++ r a (b ++ (c ++ d)) s
      ∙ ap (run r (b ++ (c ++ d))) (run_right r n s)
      ∙ run-++ r b (c ++ d) _
      ∙ ap (run r (c ++ d)) (run_left r (n + n) _)
      ∙ run-++ r c d _
      ∙ ap (run r d) (run_right r (n + n) _)
      ∙ run-++ r (exchange left n n) (exchange right n n) (arrivals n s)

  recovered : {a b : Assumed} (s : Both End) → Invariant r a b s → (n : ℕ) → length s.left.line ≤ n → length s.right.line ≤ n → r.window ≤ n
      → Recovered s (run r (recovery n) s)
  recovered {a} {b} s v n hl hr hw = rw (recovery_run n s ∙ exchange_mirror r n n y) (record {
    queues = (forth.queue, back.queue);
    lines = (second.right_line, second.left_line);
    left_to_right = forth.delivered ∙ second.right_accepted ∙ first.left_accepted ∙ empty.left_accepted;
    right_to_left = back.delivered ∙ second.left_accepted ∙ first.right_accepted ∙ empty.right_accepted;
  })
    where
      w : Both End
      w = arrivals n s

      empty : Emptied a b s w
      empty = emptied s v n hl hr

      y : Both End
      y = run r (exchange left n n) w

      first : Exchanged r law b w y
      first = exchanged r law w empty.holds empty.left_line empty.right_line n n (omega (arith, queue_small w empty.holds)) (omega arith)

      -- the right end's exchange, in the mirror; the left end's trail leads through it
      z : Both End
      z = run r (exchange left n n) (mirror y)

      second : Exchanged r law (begun r law) (mirror y) z
      second = exchanged r law (mirror y) (invariant_mirror r first.holds) first.right_line first.left_line n n
          (omega (arith, queue_small (mirror y) (invariant_mirror r first.holds))) (omega arith)

      back : AllDelivered left z
      back = settled_end z second.holds second.left_line second.right_line

      forth : AllDelivered left (mirror z)
      forth = settled_end (mirror z) (invariant_mirror r second.holds) second.right_line second.left_line

  -- ---- the theorems, from every state that events lead to
  reached : (es : List Event) → Invariant r (assumed (Unit {0} × TimerWaits r left es start)) (assumed (Unit {0} × TimerWaits r right es start)) (run r es start)
  reached es = invariant_run r law es start (invariant_start r law)

  -- with payloads sent at once, nothing of an end lost and nothing of it on the line: no timer is needed
  pub without_loss : T r.at_once → (es : List Event) (d : Side) → (end_at d (run r es start)).sender.lost ≡ 0 → DrainedAt d (run r es start)
      → AllDelivered d (run r es start)
  without_loss t es left z e = all_delivered (run r es start) (reached es) (inr (t, z)) e
  without_loss t es right z e =
      let p = all_delivered (mirror (run r es start)) (invariant_mirror r (reached es)) (inr (t, z)) e in
      record { queue = p.queue; delivered = p.delivered }

  -- with nothing on the lines, an exchange of an end
  pub progress : (es : List Event) (d : Side) → (run r es start).left.line ≡ [] → (run r es start).right.line ≡ [] → (k m : ℕ)
      → length (end_at d (run r es start)).sender.queue ≤ k
      → k ≤ m
      → Settled d (run r es start) (run r (exchange d k m) (run r es start))
  progress es left el er k m hk hm = progress_left (run r es start) (reached es) el er k m hk hm
  progress es right el er k m hk hm =
      let s = run r es start in
      let p = progress_left (mirror s) (invariant_mirror r (reached es)) er el k m hk hm in
      rw (exchange_mirror r k m s) (record { queue = p.queue; accepted = p.accepted; delivered = p.delivered; lines = (p.lines.1, p.lines.0) })

  -- whatever is on the lines
  pub recovers : (es : List Event) (n : ℕ) → length (run r es start).left.line ≤ n → length (run r es start).right.line ≤ n → r.window ≤ n
      → Recovered (run r es start) (run r (recovery n) (run r es start))
  recovers es n hl hr hw = recovered (run r es start) (reached es) n hl hr hw
