-- The line sheet: what a capture adds to the record of its line. Cited by the contracts, here and of the table. Assumes nothing.
use Rattle.std.specs.Prelude.{ℕ, ◌+◌, Bool, true, ◌&&◌, not, List, [], ◌∷◌, leb, eqb, Result, Ok, Err}
use Rattle.common.specs.Refusals.{Refusal, guarded}
use Rattle.sheet.specs.Answers.{no_line, count_too_large, number_of}
use Rattle.sheet.specs.Limits.{lines, max_count}
use Rattle.sheet.specs.declared.Counts.{Counts}
use Rattle.sheet.specs.declared.Refusal.{Refusal as Refused}
use Rattle.sheet.specs.declared.Tally.{Tally}

-- the number given back, and the record after it
pub record Added : Type 0 where
  pub number : ℕ
  pub tally : Tally

-- a call's answer on the record t: the sums, or a refusal, which leaves the record as it was
abbrev pub answer_of : Tally → Result Tally Refused → Added
answer_of t (Ok s) = record { number = 0; tally = s }
answer_of t (Err e) = record { number = number_of e; tally = t }

-- two lists of counts, added count by count
unfoldable pub sums : List ℕ → List ℕ → List ℕ
sums (x ∷ xs) (y ∷ ys) = (x + y) ∷ sums xs ys
sums [] ys = []
sums (x ∷ xs) [] = []

-- "a count that would pass 32 bits refuses the capture": whether none does
unfoldable pub all_fit : List ℕ → Bool
all_fit [] = true
all_fit (n ∷ ns) = leb n max_count && all_fit ns

-- the record of a line with a capture's counts added
abbrev pub sum_of : Tally → Counts → Tally
sum_of t c = record { counts = sums t.counts c.counts }

-- "51 count too large"
abbrev pub sum_refusals : (t : Tally) (c : Counts) → List Refusal
sum_refusals t c = (not (all_fit (sum_of t c).counts), count_too_large) ∷ []

-- a capture that was counted: "50 line number over 63 or past the table" of n records, "51 count too large, in that order"
abbrev pub counted_refusals : (t : Tally) (line n : ℕ) (c : Counts) → List Refusal
counted_refusals t line n c = (leb lines line, no_line) ∷ (leb n line, no_line) ∷ sum_refusals t c

-- "Refusals, after 6": the number of the refusal by which nothing was counted comes first
unfoldable pub refusals : (t : Tally) (line n : ℕ) (c : Counts) → List Refusal
refusals t line n c = (not (eqb c.number 0), c.number) ∷ counted_refusals t line n c

-- a refusal "changes no record"; else 0 and the sums
abbrev pub answer : (t : Tally) (c : Counts) → List Refusal → Added
answer t c ts = guarded ts (λ n. record { number = n; tally = t }) (record { number = 0; tally = sum_of t c })

-- where the line is one of the table's
abbrev pub added_of : Tally → Counts → Added
added_of t c = answer t c (sum_refusals t c)

-- the record t of the line, in a table of n records
unfoldable pub judged_of : (t : Tally) (line n : ℕ) (c : Counts) → Added
judged_of t line n c = answer t c (refusals t line n c)
