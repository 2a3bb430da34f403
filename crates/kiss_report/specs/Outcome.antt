-- KISS: what a call of the reader comes to. In code it is a result: a refusal, or an answer with a report or none. Cited by definitions and theorems.
-- Assumes nothing.
use Rattle.std.specs.Prelude.{ℕ, Option, Some, None}
use Rattle.kiss_report.specs.declared.Report.{Report}

-- a refusal by its number, a report, or a chunk used up without one
pub data Outcome : Type 0 where
  Refused : (number : ℕ) → Outcome
  Reported : Report → Outcome
  UsedUp : Outcome

-- what a call that is not refused comes to, by the report that it is answered with, if any
abbrev pub outcome_with : Option Report → Outcome
outcome_with (Some p) = Reported p
outcome_with None = UsedUp
