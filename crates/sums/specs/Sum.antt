-- AFP's sums. Cited by sums' code, by the station fields, and by reader and writer. Assumes nothing.
--
--   sum_from s xs        the sum s with the octets xs added
--   next_station_sum xs   the sum of the next station's field xs as octet 0 holds it
--   header_sum xs        the sum of the header's octets xs as the header holds it behind them
use Rattle.std.specs.Prelude.{ℕ, ◌+◌, ◌/◌, ◌%◌, cond, List, [], ◌∷◌, ◌==◌}

-- one add in 8 bits with end-around carry: the carry is added in again
abbrev pub end_around_add : ℕ → ℕ → ℕ
end_around_add s x = (s + x) % 256 + (s + x) / 256

-- the octets of a list added to s, first to last; the sum of a list starts from 0
unfoldable pub sum_from : ℕ → List ℕ → ℕ
sum_from s [] = s
sum_from s (x ∷ xs) = sum_from (end_around_add s x) xs

-- what octet 0 of a broadcast holds
abbrev pub broadcast_sum : ℕ
broadcast_sum = 0xFF

-- "the sum over that field, with FF written as 0"
unfoldable pub next_station_sum : List ℕ → ℕ
next_station_sum xs = cond (sum_from 0 xs == broadcast_sum) 0 (sum_from 0 xs)

-- what stands for a header sum that its sender did not calculate
abbrev pub not_calculated : ℕ
not_calculated = 0

-- "header sum over all header octets before it, 0 written as FF"
unfoldable pub header_sum : List ℕ → ℕ
header_sum xs = cond (sum_from 0 xs == not_calculated) 0xFF (sum_from 0 xs)
