-- The reader as framing sees it: what no call refuses stays so, its calls are scans, and every other state and buffer is refused. Assumes nothing.
use Prim.Native.Nat.{ℕ, ◌≤◌}
use mathlib.Core.Bool.{Bool, true, false}
use mathlib.Core.List.{List}
use mathlib.Core.Logic.{◌⊎◌, inl, inr}
use mathlib.Core.Option.{Option, none, some}
use mathlib.Core.Path.{◌≡◌, refl, ap, ◌∙◌}
use borrow.Author.Tests.{ltb-true, ltb-false}
use lib.Dec.{ltb}
use lib.ListN.{length}
use Rattle.framing.proofs.Formed.{step_keeps}
use Rattle.framing.proofs.Formed as framing
use Rattle.framing.proofs.Meaning as meaning
use Rattle.framing.specs.Reports.{reports_of, shown_reports}
use Rattle.framing.specs.Rules.{State}
use Rattle.framing.specs.Step.{step}
use Rattle.framing.specs.Step as steps
use Rattle.line.proofs.Chunks.{Keeps}
use Rattle.line.proofs.Simulation.{octet_keeps, trace_simulates}
use Rattle.line.specs.Scan.{Scan, scan}
use Rattle.line.specs.Trace.{Trace, trace}
use Rattle.qaft.specs.Answers.{bad_level, bad_kind, buffer_too_small, bad_state}
use Rattle.qaft.specs.Limits.{max_level, max_kind, max_segment_of}
use Rattle.qaft_laws.proofs.Rules.{lawful}
use Rattle.qaft_read.proofs.Refusals.{Fit, read-bad_level, read-bad_kind, read-buffer_too_small, read-bad_state, read_scan_lem}
use Rattle.qaft_read.proofs.Scanning.{commutes}
use Rattle.qaft_read.specs.Read.{Call, outcome_of, call_of, scan_call, refusal, report_of, read_scan}
use Rattle.qaft_read.specs.State.{fresh, view, place, malformed}
use Rattle.qaft_read.specs.Step.{action}
use Rattle.qaft_read.specs.declared.Reader.{Reader}
use Rattle.qaft_rules.specs.Rules.{rules}
use Rattle.qaft_report.specs.declared.Report.{Report}

-- ---- what no call refuses, and framing's word for it
pub fit_view : (r : Reader) (m : List ℕ) → Fit r m → framing.Fit (rules r.level r.check_kind) (view r) m
unfolding malformed steps.malformed
fit_view r m h = record { room = h.room; formed = h.formed }

fit_place : (level kind : ℕ) → level ≤ max_level → kind ≤ max_kind → (s : State ℕ) (m : List ℕ) → framing.Fit (rules level kind) s m → Fit (place level kind s) m
unfolding malformed steps.malformed
fit_place level kind l k s m h = record { level = l; kind = k; room = h.room; formed = h.formed }

-- one octet keeps it
pub action_keeps : (r : Reader) (x : ℕ) (m : List ℕ) → Fit r m → Keeps action Fit (action r x) m
action_keeps r x m h =
    let l = r.level in
    let k = r.check_kind in
    octet_keeps (place l k) (step (rules l k)) action (commutes l k) (framing.Fit (rules l k)) Fit (fit_place l k h.level h.kind) (view r) x m
    (step_keeps (rules l k) (lawful l k) (view r) x m (fit_view r m h))

-- ---- a call as the generic caller sees it
pub report_of-outcome_of : (o : Option Report) → report_of (outcome_of o) ≡ o
unfolding report_of outcome_of
report_of-outcome_of none = refl
report_of-outcome_of (some p) = refl

abbrev seen : Call → Scan Reader Report
seen k = record { report = report_of k.answer.outcome; taken = k.answer.taken; state = k.answer.reader; buffer = k.buffer }

seen-scan_call : (r : Reader) (xs m : List ℕ) → seen (scan_call r xs m) ≡ scan action r xs m
unfolding scan_call call_of
seen-scan_call r xs m =
    let u = scan action r xs m in
    λ i. record { report = report_of-outcome_of u.report i; taken = u.taken; state = u.state; buffer = u.buffer }

pub read_scan-scan : (r : Reader) (xs m : List ℕ) → Fit r m → read_scan r xs m ≡ scan action r xs m
unfolding read_scan
read_scan-scan r xs m h = ap seen (read_scan_lem r xs m h.level h.kind h.room h.formed) ∙ seen-scan_call r xs m

-- the same of a state that is placed at a level with a kind of check, for framing's theorems
pub calls : (level kind : ℕ) → level ≤ max_level → kind ≤ max_kind → (s : State ℕ) (xs m : List ℕ) → framing.Fit (rules level kind) s m
    → read_scan (place level kind s) xs m ≡ scan action (place level kind s) xs m
calls level kind l k s xs m h = read_scan-scan (place level kind s) xs m (fit_place level kind l k s m h)

-- a refused call does nothing
abbrev idle : Reader → List ℕ → Scan Reader Report
idle r m = record { report = none; taken = 0; state = r; buffer = m }

seen_refusal : (r : Reader) (m : List ℕ) (n : ℕ) → seen (refusal r m n) ≡ idle r m
unfolding refusal report_of
seen_refusal r m n = refl

-- a reader and a buffer are fit, or every call on them is refused
pub fit_or_refused : (r : Reader) (m : List ℕ) → Fit r m ⊎ ((xs : List ℕ) → read_scan r xs m ≡ idle r m)
unfolding read_scan
fit_or_refused r m = go (ltb max_level r.level) refl (ltb max_kind r.check_kind) refl (ltb (length m) (max_segment_of r.check_kind)) refl (malformed r) refl
  where
    go : (a : Bool) → ltb max_level r.level ≡ a → (d : Bool) → ltb max_kind r.check_kind ≡ d → (b : Bool) → ltb (length m) (max_segment_of r.check_kind) ≡ b
        → (c : Bool) → malformed r ≡ c → Fit r m ⊎ ((xs : List ℕ) → read_scan r xs m ≡ idle r m)
    go true l d q b k c e = inr (λ xs. ap seen (read-bad_level r xs m (ltb-true _ _ l)) ∙ seen_refusal r m bad_level)
    go false l true q b k c e = inr (λ xs. ap seen (read-bad_kind r xs m (ltb-false _ _ l) (ltb-true _ _ q)) ∙ seen_refusal r m bad_kind)
    go false l false q true k c e = inr (λ xs. ap seen (read-buffer_too_small r xs m (ltb-false _ _ l) (ltb-false _ _ q) (ltb-true _ _ k)) ∙ seen_refusal r m buffer_too_small)
    go false l false q false k true e = inr (λ xs. ap seen (read-bad_state r xs m (ltb-false _ _ l) (ltb-false _ _ q) (ltb-false _ _ k) e) ∙ seen_refusal r m bad_state)
    go false l false q false k false e = inl (record { level = ltb-false _ _ l; kind = ltb-false _ _ q; room = ltb-false _ _ k; formed = e })

-- ---- for consumers of reports: a fresh reader's trace of a line reports what the line reports
pub trace_reports : (l : List ℕ) (level kind : ℕ) (m : List ℕ) → max_segment_of kind ≤ length m
    → shown_reports (rules level kind) (trace action (fresh level kind) l m).events ≡ reports_of (rules level kind) l
trace_reports l level kind m room =
    let placed = trace_simulates (place level kind) (step (rules level kind)) action (commutes level kind) l (steps.fresh (rules level kind)) m in
    ap (λ (t : Trace Reader Report). shown_reports (rules level kind) t.events) placed ∙ meaning.trace_reports (rules level kind) (lawful level kind) l m room
