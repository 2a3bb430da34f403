-- The line sheet: what a capture that is held whole adds to its line. Cited by the contracts. Assumes nothing.
use Rattle.std.specs.Prelude.{ℕ, List, [], ◌∷◌, ltb, replicate}
use Rattle.common.specs.Refusals.{guarded}
use Rattle.qaft.specs.Answers.{bad_level}
use Rattle.qaft.specs.Limits.{max_level}
use Rattle.sheet.specs.Limits.{counts_long}
use Rattle.sheet.specs.declared.Counts.{Counts}
use Rattle.sheet_rules.specs.Counts.{whole_counts}

-- nothing is counted
abbrev pub refused : (n : ℕ) → Counts
refused n = record { number = n; counts = replicate counts_long 0 }

-- refused by 6 at a level that is none
unfoldable pub count_call : (level : ℕ) (l : List ℕ) → Counts
count_call level l = guarded ((ltb max_level level, bad_level) ∷ []) refused (whole_counts level l)
