-- The line sheet: the record of a line before any capture, and what a capture adds as it is gathered. Cited by the contracts. Assumes nothing.
use Rattle.std.specs.Prelude.{ℕ, List, map, replicate}
use Rattle.counter.specs.Counted.{counted}
use Rattle.sheet.specs.Limits.{counts_long, too_large}
use Rattle.sheet.specs.declared.Tally.{Tally}

-- every count is 0
abbrev pub fresh_tally : Tally
fresh_tally = record { counts = replicate counts_long 0 }

-- counts as they are gathered: each stops where it is too large for every line
abbrev pub stopped : List ℕ → List ℕ
stopped cs = map (counted too_large 0) cs
