-- Counters: one that stops at a limit, and one that wraps. Cited by the counts of captures and of reports. Assumes nothing.
use Rattle.std.specs.Prelude.{ℕ, ◌+◌, ◌%◌, ◌^◌, cond, leb}

-- the count n and k more: a count that has reached the limit stays, and none goes past it
unfoldable pub counted : (most n k : ℕ) → ℕ
counted most n k = cond (leb most n) n (cond (leb most (n + k)) most (n + k))

-- the count n and one more, of a counter that wraps at 2^64
abbrev pub next : ℕ → ℕ
next n = (n + 1) % 2 ^ 64
