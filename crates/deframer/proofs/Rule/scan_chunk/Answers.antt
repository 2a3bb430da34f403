use Rattle.std.proofs.Common.{◌≡◌, ℕ, ◌+◌, ◌≤◌, length, drop, get_or, refl, sym, ap, ◌∙◌, arith}
use Rattle.std.proofs.Math.ListN.{length-set}
use Rattle.deframer.proofs.Ahead.{ahead_turn, ahead_within}
use Rattle.deframer.proofs.Dropped.{dropped_ahead}
use Rattle.deframer.proofs.Runs.{run_fits, run_turn}
use Rattle.deframer.proofs.Steps.{line_action, step_line, step_index}
use Rattle.deframer.specs.Rule.{rules_of}
use Rattle.deframer.specs.Scan.{view, outcome_of, scan_call}
use Rattle.deframer.specs.declared.Action.{Action}
use Rattle.framing.specs.Rules as rules
use Rattle.framing.specs.Step.{step}
use Rattle.line.proofs.Scan.{scan_end, scan_advance, scan_store, scan_emit}
use Rattle.line.specs.Scan.{Scan, after, scan}
use Rattle.deframer.proofs.Rule.scan_chunk.Goals as goal
use Rattle.deframer.proofs.Rule.scan_chunk.Goals.{After-with_run-s, After-step-action}

-- the run: what is left behind it gives what the whole gives
run_inv : (c : After-with_run-s)
    → let i = c.loop-i.i + c.run_length-n.result in
    let a = c.args in
    (i ≤ length a.chunk.now)
    × (length c.with_run-s.new.buffer ≡ length a.buffer.now)
    × (scan (step (rules_of a.self)) (view a.state) a.chunk.now a.buffer.now ≡ after i (scan (step (rules_of a.self)) (view c.with_run-s.result) (drop i a.chunk.now) c.with_run-s.new.buffer))
run_inv c =
    let l = c.loop-i in
    let n = c.run_length-n in
    let w = c.with_run-s in
    let a = c.args in (
      run_fits a.self l.s a.chunk.now l.i n.result l.invariant.0 n.ensures.upper_bound n.ensures.run,
      w.auto.buffer ∙ l.invariant.1,
      l.invariant.2 ∙ run_turn a.self l.s a.chunk.now l.i n.result l.invariant.0 n.ensures.upper_bound n.ensures.run l.buffer _ _ w.ensures.value w.ensures.buffer_after,
    )

-- the action of the octet behind it, by the step's result
taken_action : (c : After-step-action) (a : Action) → c.step-action.result ≡ a
    → step (rules_of c.args.self) (view c.with_run-s.result) (get_or c.args.chunk.now (c.loop-i.i + c.run_length-n.result) 0) ≡ line_action c.args.self c.with_run-s.result a
taken_action c a e = step_line _ _ _ a (sym c.step-action.ensures ∙ e)

pub loop-i-init : goal.loop-i-init
loop-i-init c =
    let d = dropped_ahead c.args.self c.args.state _ c.args.chunk.now c.args.buffer.now c.dropped-i.ensures in
    (d.0, refl, d.1)

pub loop-i-preserved-in-Advance : goal.loop-i-preserved-in-Advance
loop-i-preserved-in-Advance c =
    let at = goal.at.loop-i-preserved-in-Advance c in
    let u = run_inv at.After-with_run-s in
    let t = c.take-t in
    let a = c.args in (
      ahead_within a.self a.chunk.now _ _ (omega (arith, c.if-i-chunk.true)) t.ensures.taken_in_bounds,
      t.auto.buffer ∙ u.1,
      rw c.by_fields-s.ensures
          (u.2
          ∙ scan_advance _ (view c.with_run-s.result) _ _ _ c.if-i-chunk.true _ (taken_action at.After-step-action _ c.in-Advance.is)
          ∙ ahead_turn a.self a.chunk.now _ _ _ _ _ _ t.ensures.ahead),
    )

pub bounds-buffer-at : goal.bounds-buffer-at
bounds-buffer-at c =
    let u = run_inv (goal.at.bounds-buffer-at c).After-with_run-s in
    let index = step_index _ _ _ _ _ _ (sym c.step-action.ensures ∙ c.in-Store.is) in
    omega (arith, index, u.1, c.requires)

pub loop-i-preserved-in-Store : goal.loop-i-preserved-in-Store
loop-i-preserved-in-Store c =
    let at = goal.at.loop-i-preserved-in-Store c in
    let u = run_inv at.After-with_run-s in (
      omega arith,
      simp length-set u.1,
      rw c.by_fields-s-in-Store.ensures
          (u.2 ∙ scan_store _ (view c.with_run-s.result) _ _ _ c.if-i-chunk.true _ _ _ (taken_action at.After-step-action _ c.in-Store.is)),
    )

pub returns-in-Close-clause-value : goal.returns-in-Close-clause-value
unfolding scan_call outcome_of
returns-in-Close-clause-value c =
    let at = goal.at.returns-in-Close-clause-value c in
    let u = run_inv at.After-with_run-s in
    let e = u.2 ∙ scan_emit _ (view c.with_run-s.result) _ _ _ c.if-i-chunk.true _ _ (taken_action at.After-step-action _ c.in-Close.is) in
    sym (ap (λ (u : Scan (rules.State ℕ) (rules.State ℕ)). (outcome_of u).answer) e)

pub returns-in-Close-clause-buffer_after : goal.returns-in-Close-clause-buffer_after
unfolding scan_call outcome_of
returns-in-Close-clause-buffer_after c =
    let at = goal.at.returns-in-Close-clause-buffer_after c in
    let u = run_inv at.After-with_run-s in
    let e = u.2 ∙ scan_emit _ (view c.with_run-s.result) _ _ _ c.if-i-chunk.true _ _ (taken_action at.After-step-action _ c.in-Close.is) in
    sym (ap (λ (u : Scan (rules.State ℕ) (rules.State ℕ)). u.buffer) e)

pub loop-i-preserved : goal.loop-i-preserved
loop-i-preserved c = run_inv (goal.at.loop-i-preserved c).After-with_run-s

pub returns-clause-value : goal.returns-clause-value
unfolding scan_call outcome_of
returns-clause-value c =
    let l = c.loop-i in
    let e = l.invariant.2 ∙ scan_end _ (view l.s) _ l.i l.buffer c.loop-i-test.false in
    sym (ap (λ (u : Scan (rules.State ℕ) (rules.State ℕ)). (outcome_of u).answer) e)

pub returns-clause-buffer_after : goal.returns-clause-buffer_after
unfolding scan_call outcome_of
returns-clause-buffer_after c =
    let l = c.loop-i in
    let e = l.invariant.2 ∙ scan_end _ (view l.s) _ l.i l.buffer c.loop-i-test.false in
    sym (ap (λ (u : Scan (rules.State ℕ) (rules.State ℕ)). u.buffer) e)
