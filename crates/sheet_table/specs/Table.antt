-- The line sheet: what a capture does to the lent table, "one record a line". Cited by the contracts. Assumes nothing.
use Rattle.std.specs.Prelude.{ℕ, List, length, get_or, set, Result, Ok, Err}
use Rattle.common.specs.Refusals.{guarded}
use Rattle.sheet.specs.Tallies.{fresh_tally}
use Rattle.sheet.specs.declared.Counts.{Counts}
use Rattle.sheet.specs.Answers.{number_of}
use Rattle.sheet.specs.declared.Refusal.{Refusal}
use Rattle.sheet.specs.declared.Tally.{Tally}
use Rattle.sheet_tally.specs.Adding.{refusals, sum_of}

-- a call's outcome: the number given back, and the table after it
pub record Outcome : Type 0 where
  pub number : ℕ
  pub table : List Tally

-- the record of a line; past the table a fresh one, which is never looked at
abbrev pub record_of : List Tally → ℕ → Tally
record_of ys line = get_or ys line fresh_tally

-- "a capture changes only its own line's record", and a refusal none
unfoldable pub tally_call : (ys : List Tally) (line : ℕ) (c : Counts) → Outcome
tally_call ys line c =
    guarded (refusals (record_of ys line) line (length ys) c) (λ n. record { number = n; table = ys })
    (record { number = 0; table = set ys line (sum_of (record_of ys line) c) })

-- the number given back, and the lines of the sheet after it
pub record Sheet : Type 0 where
  pub number : ℕ
  pub lines : List Tally

-- a call's answer on these lines: those after it, or a refusal, which leaves them as they were
abbrev pub sheet_answer : List Tally → Result (List Tally) Refusal → Sheet
sheet_answer ys (Ok zs) = record { number = 0; lines = zs }
sheet_answer ys (Err e) = record { number = number_of e; lines = ys }

-- the same of a whole sheet by value
abbrev pub sheet_of : (ys : List Tally) (line : ℕ) (c : Counts) → Sheet
sheet_of ys line c = record { number = (tally_call ys line c).number; lines = (tally_call ys line c).table }
