-- A call of the reader is the shared loop's, judged: over plain variables, for the returns of `scan`. Assumes nothing.
use Prim.Native.Nat.{ℕ, ◌≤◌, ◌<◌}
use mathlib.Core.Bool.{true, false}
use mathlib.Core.List.{List}
use mathlib.Core.Path.{◌≡◌, sym, ap, ◌∙◌}
use native.Mathlib.Omega.{arith}
use lib.ListN.{length, get_or}
use Rattle.common.proofs.Each.{each_get_d}
use Rattle.deframer.proofs.Judged.{judged, scan_judged, check_kept}
use Rattle.deframer.specs.Scan.{scanned}
use Rattle.deframer.specs.declared.Scanned.{Scanned}
use Rattle.framing.proofs.Steps.{step_into-map}
use Rattle.framing.specs.Rules.{State}
use Rattle.framing.specs.Step.{step}
use Rattle.kiss.specs.Limits.{max_segment}
use Rattle.kiss_read.proofs.SharedRule.{rule_rules, partner_octet, first_octet_lem}
use Rattle.kiss_read.specs.Read.{outcome_of, call_of, scan_call}
use Rattle.kiss_read.specs.Scanned.{rule, state_of, reader_of}
use Rattle.kiss_read.specs.State.{opened, place}
use Rattle.kiss_read.specs.Step.{action}
use Rattle.kiss_read.specs.declared.Reader.{Reader}
use Rattle.kiss_report.specs.Outcome.Outcome.{Reported, UsedUp}
use Rattle.kiss_report.specs.declared.Report.{Report}
use Rattle.kiss_rules.specs.Rules.{rules, verdict}
use Rattle.line.specs.Scan.{advance, store, emit, Scan, scan}
use Rattle.line.specs.Simulation.{place_action}

-- the reader's step is framing's
pub commutes : (s : State ℕ) (x : ℕ) → action (place s) x ≡ place_action place (step rules s x)
unfolding action step
commutes s x = sym (step_into-map rules (λ t. advance t) (λ t i y. store t i y) (λ p t. emit p t) (place_action place) s x)

-- ---- a call: u and m' are what the loop gave back, and the buffer after it
module _ (r : Reader) (xs m : List ℕ) (room : max_segment ≤ length m) (u : Scanned) (m' : List ℕ)
    (e : u ≡ (scanned rule (state_of r) xs m).answer) (f : m' ≡ (scanned rule (state_of r) xs m).buffer) where
  judged_is : scan action r xs m ≡ judged rule (state_of r) xs m room u m' e f rules rule_rules place action commutes u m'
  judged_is = scan_judged rule (state_of r) xs m room u m' e f rules rule_rules place action commutes

  pub buffer_is : m' ≡ (scan_call r xs m).buffer
  unfolding scan_call call_of
  buffer_is = sym (ap (λ (v : Scan Reader Report). v.buffer) judged_is)

  -- what the state that is given back for the next call keeps is an octet
  pub type_small : ((j : ℕ) → get_or xs j 0 < 256) → r.type_octet < 256 → u.closed ≡ false → u.state.check < 256
  type_small octets h v =
      check_kept rule (state_of r) xs m room u m' e f (λ (a : ℕ). a < 256) (λ (x : ℕ). x < 256) (omega arith) partner_octet first_octet_lem (each_get_d (λ (x : ℕ). x < 256) xs octets) h v

  -- no segment was closed
  pub scan_open : u.closed ≡ false → record { outcome = UsedUp; taken = u.taken; reader = reader_of u.state } ≡ (scan_call r xs m).answer
  unfolding scan_call call_of outcome_of
  scan_open v = sym (ap (λ (v : Scan Reader Report). (call_of v).answer) judged_is ∙ rw v)

  -- one was, and its verdict is p
  pub scan_closed : u.closed ≡ true → (p : Report) → p ≡ verdict u.state.pending u.state.bad u.state.count u.state.check
      → record { outcome = Reported p; taken = u.taken; reader = opened } ≡ (scan_call r xs m).answer
  unfolding scan_call call_of outcome_of
  scan_closed c p v =
      ap (λ (p : Report). record { outcome = Reported p; taken = u.taken; reader = opened }) v
      ∙ sym (ap (λ (v : Scan Reader Report). (call_of v).answer) judged_is ∙ rw c)
