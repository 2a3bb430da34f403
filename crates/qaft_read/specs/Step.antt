-- QAFT: what one octet of the line does to the reader: framing's step by QAFT's rules. Cited by the reader's contract. Assumes nothing.
use Rattle.std.specs.Prelude.{ℕ}
use Rattle.framing.specs.Step.{step_into}
use Rattle.line.specs.Scan.{Action, advance, store, emit}
use Rattle.qaft_read.specs.State.{view, place}
use Rattle.qaft_read.specs.declared.Reader.{Reader}
use Rattle.qaft_rules.specs.Rules.{rules}
use Rattle.qaft_report.specs.declared.Report.{Report}

-- one octet, as an action of the generic reader of the crate line; level and kind stay
unfoldable pub action : Reader → (x : ℕ) → Action Reader Report
action r x =
    let l = r.level in
    let k = r.check_kind in
    step_into (rules l k) (λ s. advance (place l k s)) (λ s i y. store (place l k s) i y) (λ p s. emit p (place l k s)) (view r) x
