-- QAFT: what the reader answers of a chunk (the paper's "portion"), and what the buffer then holds. Cited by its contract. Assumes nothing.
use Rattle.std.specs.Prelude.{ℕ, List, [], ◌∷◌, ltb, length}
use Rattle.std.proofs.Math.Option.{Option, none, some}
use Rattle.common.specs.Refusals.{Refusal, guarded}
use Rattle.line.specs.Scan.{Scan, scan}
use Rattle.qaft.specs.Answers.{buffer_too_small, bad_state, bad_level, bad_kind}
use Rattle.qaft.specs.Limits.{max_level, max_kind, max_segment_of}
use Rattle.qaft_read.specs.State.{malformed}
use Rattle.qaft_read.specs.Step.{action}
use Rattle.qaft_read.specs.Answer.{Answer}
use Rattle.qaft_report.specs.Outcome.{Outcome}
use Rattle.qaft_report.specs.Outcome.Outcome.{Refused, Reported, UsedUp}
use Rattle.qaft_read.specs.declared.Reader.{Reader}
use Rattle.qaft_report.specs.declared.Report.{Report}

-- a call: its answer, and the buffer after it
pub record Call : Type 0 where
  pub answer : Answer
  pub buffer : List ℕ

unfoldable pub outcome_of : Option Report → Outcome
outcome_of none = UsedUp
outcome_of (some p) = Reported p

unfoldable pub call_of : Scan Reader Report → Call
call_of u = record { answer = record { outcome = outcome_of u.report; taken = u.taken; reader = u.state }; buffer = u.buffer }

-- "stops after the first report, and says how many octets it took"
unfoldable pub scan_call : Reader → (xs m : List ℕ) → Call
scan_call r xs m = call_of (scan action r xs m)

-- a refusal with the number n: the state is returned as it came, nothing is taken, and the buffer is as before
unfoldable pub refusal : Reader → (m : List ℕ) (n : ℕ) → Call
refusal r m n = record { answer = record { outcome = Refused n; taken = 0; reader = r }; buffer = m }

-- the reader's refusals, "order 6, 4, 5", and "7 check kind not 0 (QAFT) or 1 (this), judged after 6" (2026-07); with the check sequence "the store is 2,562
-- octets"; room is the length of the buffer
unfoldable pub refusals : Reader → (room : ℕ) → List Refusal
refusals r room =
    (ltb max_level r.level, bad_level)
    ∷ (ltb max_kind r.check_kind, bad_kind)
    ∷ (ltb room (max_segment_of r.check_kind), buffer_too_small)
    ∷ (malformed r, bad_state)
    ∷ []

-- the reader: a call on the chunk xs, with the buffer m
unfoldable pub read : Reader → (xs m : List ℕ) → Call
read r xs m = guarded (refusals r (length m)) (refusal r m) (scan_call r xs m)

-- a call as the generic caller of the crate line sees it; a refusal reports nothing
unfoldable pub report_of : Outcome → Option Report
report_of (Refused n) = none
report_of (Reported p) = some p
report_of UsedUp = none

unfoldable pub read_scan : Reader → (xs m : List ℕ) → Scan Reader Report
read_scan r xs m =
    let k = read r xs m in
    record { report = report_of k.answer.outcome; taken = k.answer.taken; state = k.answer.reader; buffer = k.buffer }
