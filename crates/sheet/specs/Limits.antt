-- The line sheet: its limits. Cited by the contracts. Assumes nothing.
use Rattle.std.specs.Prelude.{ℕ, ◌+◌, ◌-◌, ◌^◌}

-- "the tallies of up to 64 lines": a line number is below this
abbrev pub lines : ℕ
lines = 64

-- the counts of a line
abbrev pub counts_long : ℕ
counts_long = 14

-- "a count that would pass 32 bits refuses the capture"
abbrev pub max_count : ℕ
max_count = 2 ^ 32 - 1

-- what a capture adds is counted up to here, which is too large for every line
abbrev pub too_large : ℕ
too_large = max_count + 1
