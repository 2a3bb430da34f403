-- The reader as framing sees it: what no call refuses stays so, its calls are scans, and every other state and buffer is refused. Assumes nothing.
use Prim.Native.Nat.{ℕ}
use mathlib.Core.Bool.{Bool, true, false}
use mathlib.Core.List.{List}
use mathlib.Core.Logic.{◌⊎◌, inl, inr}
use mathlib.Core.Option.{Option, none, some}
use mathlib.Core.Path.{◌≡◌, refl, sym, ap, ◌∙◌}
use borrow.Author.Tests.{ltb-true, ltb-false}
use lib.Dec.{ltb}
use lib.ListN.{length}
use Rattle.framing.proofs.Formed.{step_keeps}
use Rattle.framing.proofs.Formed as framing
use Rattle.framing.specs.Rules.{State}
use Rattle.framing.specs.Step.{step}
use Rattle.kiss.specs.Limits.{max_segment}
use Rattle.kiss_laws.proofs.Rules.{lawful}
use Rattle.kiss_read.proofs.Formed.{malformed_view}
use Rattle.kiss_read.proofs.Refusals.{Fit, read-buffer_too_small, read-bad_state, read_scan_lem}
use Rattle.kiss_read.proofs.Scanning.{commutes}
use Rattle.kiss_read.specs.Read.{Call, outcome_of, call_of, scan_call, refusal, report_of, read_scan}
use Rattle.kiss_read.specs.State.{view, place, malformed}
use Rattle.kiss_read.specs.Step.{action}
use Rattle.kiss_read.specs.declared.Reader.{Reader}
use Rattle.kiss_report.specs.declared.Report.{Report}
use Rattle.kiss_rules.specs.Rules.{rules}
use Rattle.line.proofs.Chunks.{Keeps}
use Rattle.line.proofs.Simulation.{octet_keeps}
use Rattle.line.specs.Scan.{Scan, scan}
use Rattle.qaft.specs.Answers.{buffer_too_small, bad_state}

-- ---- what no call refuses, and framing's word for it
pub fit_view : (r : Reader) (m : List ℕ) → Fit r m → framing.Fit rules (view r) m
fit_view r m h = record { room = h.room; formed = sym (malformed_view r) ∙ h.formed }

fit_place : (s : State ℕ) (m : List ℕ) → framing.Fit rules s m → Fit (place s) m
fit_place s m h = record { room = h.room; formed = malformed_view (place s) ∙ h.formed }

-- one octet keeps it
pub action_keeps : (r : Reader) (x : ℕ) (m : List ℕ) → Fit r m → Keeps action Fit (action r x) m
action_keeps r x m h =
    octet_keeps place (step rules) action commutes (framing.Fit rules) Fit fit_place (view r) x m (step_keeps rules lawful (view r) x m (fit_view r m h))

-- ---- a call as the generic caller sees it
report_of-outcome_of : (o : Option Report) → report_of (outcome_of o) ≡ o
unfolding report_of outcome_of
report_of-outcome_of none = refl
report_of-outcome_of (some p) = refl

abbrev seen : Call → Scan Reader Report
seen k = record { report = report_of k.answer.outcome; taken = k.answer.taken; state = k.answer.reader; buffer = k.buffer }

seen-scan_call : (r : Reader) (xs m : List ℕ) → seen (scan_call r xs m) ≡ scan action r xs m
unfolding scan_call call_of
seen-scan_call r xs m =
    let u = scan action r xs m in
    λ i. record { report = report_of-outcome_of u.report i; taken = u.taken; state = u.state; buffer = u.buffer }

pub read_scan-scan : (r : Reader) (xs m : List ℕ) → Fit r m → read_scan r xs m ≡ scan action r xs m
unfolding read_scan
read_scan-scan r xs m h = ap seen (read_scan_lem r xs m h.room h.formed) ∙ seen-scan_call r xs m

-- the same of a state of framing's, for its theorems
pub calls : (s : State ℕ) (xs m : List ℕ) → framing.Fit rules s m → read_scan (place s) xs m ≡ scan action (place s) xs m
calls s xs m h = read_scan-scan (place s) xs m (fit_place s m h)

-- a refused call does nothing
abbrev idle : Reader → List ℕ → Scan Reader Report
idle r m = record { report = none; taken = 0; state = r; buffer = m }

seen_refusal : (r : Reader) (m : List ℕ) (n : ℕ) → seen (refusal r m n) ≡ idle r m
unfolding refusal report_of
seen_refusal r m n = refl

-- a reader and a buffer are fit, or every call on them is refused
pub fit_or_refused : (r : Reader) (m : List ℕ) → Fit r m ⊎ ((xs : List ℕ) → read_scan r xs m ≡ idle r m)
unfolding read_scan
fit_or_refused r m = go (ltb (length m) max_segment) refl (malformed r) refl
  where
    go : (b : Bool) → ltb (length m) max_segment ≡ b → (c : Bool) → malformed r ≡ c → Fit r m ⊎ ((xs : List ℕ) → read_scan r xs m ≡ idle r m)
    go true k c e = inr (λ xs. ap seen (read-buffer_too_small r xs m (ltb-true _ _ k)) ∙ seen_refusal r m buffer_too_small)
    go false k true e = inr (λ xs. ap seen (read-bad_state r xs m (ltb-false _ _ k) e) ∙ seen_refusal r m bad_state)
    go false k false e = inl (record { room = ltb-false _ _ k; formed = e })
