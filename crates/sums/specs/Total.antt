-- AFP's sums by totals: octets added without a carry, and the carries brought round at once. Cited by sums' inner contracts. Assumes nothing.
use Rattle.std.specs.Prelude.{◌≡◌, ℕ, ◌+◌, ◌-◌, ◌%◌, ◌<◌, cond, List, ◌==◌}
use Rattle.sums.specs.Sum.{sum_from}

-- the octets that are totalled at once
abbrev pub chunk : ℕ
chunk = 256

-- a total with all its carries brought round: modulo 255, where only 0 gives 0
abbrev pub reduced : ℕ → ℕ
reduced v = cond (v == 0) 0 ((v - 1) % 255 + 1)

-- t stands for the octets xs: added to any sum, and reduced, it gives the sum of them all
abbrev pub Totals : (xs : List ℕ) (t : ℕ) → Type 0
Totals xs t = (s : ℕ) → s < 256 → sum_from s xs ≡ reduced (s + t)
