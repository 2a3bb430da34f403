-- KISS: the answer to a call of the reader, and what the code's result says of it. Cited by the reader's contract. Assumes nothing.
use Rattle.std.specs.Prelude.{ℕ, Result, Ok, Err}
use Rattle.kiss.specs.Refusal.{refusal_number}
use Rattle.kiss.specs.declared.Refusal.{Refusal}
use Rattle.kiss_read.specs.declared.Reader.{Reader}
use Rattle.kiss_report.specs.Outcome.{Outcome, outcome_with}
use Rattle.kiss_report.specs.Outcome.Outcome.{Refused}
use Rattle.kiss_report.specs.declared.Report.{Report}
use Rattle.reports.specs.declared.Answer as reports

-- what came of a call, the octets taken, and the state for the next call
pub record Answer : Type 0 where
  pub outcome : Outcome
  pub taken : ℕ
  pub reader : Reader

-- the result of a call with the state r; a refusal takes nothing, and the caller still has the state
abbrev pub answered : Reader → Result (reports.Answer Report Reader) Refusal → Answer
answered r (Ok a) = record { outcome = outcome_with a.report; taken = a.taken; reader = a.reader }
answered r (Err e) = record { outcome = Refused (refusal_number e); taken = 0; reader = r }
