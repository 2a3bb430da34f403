-- A caller of the counter, who hands over chunk after chunk. Cited by the theorem. Assumes nothing.
use Rattle.std.specs.Prelude.{ℕ, List, [], ◌∷◌}
use Rattle.sheet.specs.declared.Counts.{Counts}
use Rattle.sheet_counter.specs.Count.{fresh_counter, count, counts_in}
use Rattle.sheet_counter.specs.declared.Counter.{Counter}

-- the counter and the buffer after some chunks
pub record Counting : Type 0 where
  pub counter : Counter
  pub buffer : List ℕ

unfoldable pub count_chunks : Counter → List (List ℕ) → (m : List ℕ) → Counting
count_chunks c [] m = record { counter = c; buffer = m }
count_chunks c (xs ∷ xss) m = let k = count c xs m in count_chunks k.answer.counter xss k.buffer

-- what is then added to a line
abbrev pub counted_in : (level : ℕ) → List (List ℕ) → (m : List ℕ) → Counts
counted_in level xss m = counts_in (count_chunks (fresh_counter level) xss m).counter
