-- KISS: what one octet of the line does to the reader: framing's step by KISS's rules. Cited by the reader's contract. Assumes nothing.
use Rattle.std.specs.Prelude.{ℕ}
use Rattle.framing.specs.Step.{step_into}
use Rattle.kiss_read.specs.State.{view, place}
use Rattle.kiss_read.specs.declared.Reader.{Reader}
use Rattle.kiss_report.specs.declared.Report.{Report}
use Rattle.kiss_rules.specs.Rules.{rules}
use Rattle.line.specs.Scan.{Action, advance, store, emit}

-- one octet, as an action of the generic reader of the crate line
unfoldable pub action : Reader → (x : ℕ) → Action Reader Report
action r x = step_into rules (λ s. advance (place s)) (λ s i y. store (place s) i y) (λ p s. emit p (place s)) (view r) x
