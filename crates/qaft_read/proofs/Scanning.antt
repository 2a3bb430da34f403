-- A call of the reader is the shared loop's, judged: over plain variables, for the returns of `scan`. Assumes nothing.
use Prim.Native.Nat.{ℕ, ◌≤◌}
use mathlib.Core.Bool.{true, false}
use mathlib.Core.List.{List}
use mathlib.Core.Path.{◌≡◌, sym, ap, ◌∙◌}
use lib.ListN.{length}
use Rattle.deframer.proofs.Judged.{judged, scan_judged}
use Rattle.deframer.specs.Scan.{scanned}
use Rattle.deframer.specs.declared.Scanned.{Scanned}
use Rattle.framing.proofs.Steps.{step_into-map}
use Rattle.framing.specs.Rules.{State}
use Rattle.framing.specs.Step.{step}
use Rattle.line.specs.Scan.{advance, store, emit, Scan, scan}
use Rattle.line.specs.Simulation.{place_action}
use Rattle.qaft.specs.Limits.{max_segment_of}
use Rattle.qaft_read.proofs.SharedRule.{rule_rules}
use Rattle.qaft_read.specs.Read.{outcome_of, call_of, scan_call}
use Rattle.qaft_read.specs.Scanned.{rule, state_of, reader_at}
use Rattle.qaft_read.specs.State.{place}
use Rattle.qaft_read.specs.State as state
use Rattle.qaft_read.specs.Step.{action}
use Rattle.qaft_read.specs.declared.Reader.{Reader}
use Rattle.qaft_report.specs.Outcome.Outcome.{Reported, UsedUp}
use Rattle.qaft_report.specs.declared.Report.{Report}
use Rattle.qaft_rules.specs.Rules.{rules, verdict}

-- the reader's step is framing's
pub commutes : (level kind : ℕ) (s : State ℕ) (x : ℕ) → action (place level kind s) x ≡ place_action (place level kind) (step (rules level kind) s x)
unfolding action step
commutes level kind s x = sym (step_into-map (rules level kind) (λ t. advance t) (λ t i y. store t i y) (λ p t. emit p t) (place_action (place level kind)) s x)

-- ---- a call: u and m' are what the loop gave back, and the buffer after it
module _ (r : Reader) (xs m : List ℕ) (room : max_segment_of r.check_kind ≤ length m) (u : Scanned) (m' : List ℕ)
    (e : u ≡ (scanned (rule r.level r.check_kind) (state_of r) xs m).answer) (f : m' ≡ (scanned (rule r.level r.check_kind) (state_of r) xs m).buffer) where
  abbrev l : ℕ
  l = r.level

  abbrev k : ℕ
  k = r.check_kind

  judged_is : scan action r xs m ≡ judged (rule l k) (state_of r) xs m room u m' e f (rules l k) (rule_rules l k) (place l k) action (commutes l k) u m'
  judged_is = scan_judged (rule l k) (state_of r) xs m room u m' e f (rules l k) (rule_rules l k) (place l k) action (commutes l k)

  pub buffer_is : m' ≡ (scan_call r xs m).buffer
  unfolding scan_call call_of
  buffer_is = sym (ap (λ (v : Scan Reader Report). v.buffer) judged_is)

  -- no segment was closed
  pub scan_open : u.closed ≡ false → record { outcome = UsedUp; taken = u.taken; reader = reader_at l k u.state } ≡ (scan_call r xs m).answer
  unfolding scan_call call_of outcome_of
  scan_open e = sym (ap (λ (v : Scan Reader Report). (call_of v).answer) judged_is ∙ rw e)

  -- one was, and its verdict is p
  pub scan_closed : u.closed ≡ true → (p : Report) → p ≡ verdict k u.state.pending u.state.bad u.state.count u.state.check
      → record { outcome = Reported p; taken = u.taken; reader = state.opened r } ≡ (scan_call r xs m).answer
  unfolding scan_call call_of outcome_of
  scan_closed e p v =
      ap (λ (p : Report). record { outcome = Reported p; taken = u.taken; reader = state.opened r }) v
      ∙ sym (ap (λ (v : Scan Reader Report). (call_of v).answer) judged_is ∙ rw e)
