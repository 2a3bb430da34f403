-- The answer to a call of `count`, and what the code's result says of it. Cited by its contract. Assumes nothing.
use Rattle.std.specs.Prelude.{ℕ, Result, Ok, Err}
use Rattle.qaft.specs.Answers.{done}
use Rattle.qaft.specs.Refusal.{refusal_number}
use Rattle.qaft.specs.declared.Refusal.{Refusal}
use Rattle.sheet_counter.specs.declared.Counter.{Counter}

-- a refusal's number or 0, and what goes into the next call
pub record Counted : Type 0 where
  pub number : ℕ
  pub counter : Counter

-- the result of a call with the counter c; a refusal counts nothing, and the caller still has the counter
abbrev pub answered : Counter → Result Counter Refusal → Counted
answered c (Ok later) = record { number = done; counter = later }
answered c (Err e) = record { number = refusal_number e; counter = c }
